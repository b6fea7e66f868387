-- Turn by turn a record less is left, and fewer are stored than there are turns.
use Rattle.std.proofs.Common.{Some, refl, ap, ◌∙◌, arith}
use Rattle.inputs.proofs.Turns.{reads_in, next_left, end_left, none_left}
use Rattle.inputs.proofs.runs.read_runs.Goals as goal

pub loop-init : goal.loop-init
loop-init g c runs size rest stored known = (runs, record { fits = stored; known = known; done = refl; counted = omega arith })

pub returns-in-Some-End-clause-known : goal.returns-in-Some-End-clause-known
returns-in-Some-End-clause-known g c runs size rest stored known =
    let left = c.loop.invariant runs size rest stored known in
    let reads = reads_in _ _ _ _ _ _ c.loop.auto.table c.in_ok-read_record.ensures.known in
    let got = end_left reads left.0 c.in-Some-End.size left.1 (c.in-Some-End.is ∙ ap (λ k. Some k) c.in-Some-End.field-0-is) in
    (ap (λ n. Some n) got.0, got.1)

pub returns-in-None-clause-known : goal.returns-in-None-clause-known
returns-in-None-clause-known g c runs size rest stored known =
    let left = c.loop.invariant runs size rest stored known in
    let reads = reads_in _ _ _ _ _ _ c.loop.auto.table c.in_ok-read_record.ensures.known in
    absurd (none_left reads left.0 left.1 c.in-None.is)

pub loop-preserved : goal.loop-preserved
loop-preserved g c runs size rest stored known =
    let left = c.loop.invariant runs size rest stored known in
    let reads = reads_in _ _ _ _ _ _ c.loop.auto.table c.in_ok-read_record.ensures.known in
    next_left reads left.0 left.1 (c.in-Some-Bytes.is ∙ ap (λ k. Some k) c.in-Some-Bytes.field-0-is)

pub returns-clause-known : goal.returns-clause-known
returns-clause-known g c runs size rest stored known =
    let left = c.loop.invariant runs size rest stored known in
    absurd (omega (arith, left.1.counted, stored.few, c.loop-test.false))
