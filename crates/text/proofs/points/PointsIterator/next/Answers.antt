-- A double of the mapping is there, and its two code points are the next.
use Rattle.std.proofs.Common.{Option, ℕ, length, sym, ap, ◌∙◌, arith}
use Rattle.std.specs.Prelude.{◌++◌, option_to_list}
use Rattle.text.specs.Charset.{set_number}
use Rattle.text.specs.Mapped.{points_by}
use Rattle.text.specs.Points.{points_left}
use Rattle.text.proofs.PointsLaws.{double_there, points_two}
use Rattle.text.proofs.points.PointsIterator.next.Goals as goal

pub bounds-mapping-inside-value : goal.bounds-mapping-inside-value
bounds-mapping-inside-value c =
    let p = c.args.self.now in
    double_there p.mapping.now (set_number p.set) p.bytes.now c.in_ok-value.rest.now c.in_ok-value.ensures c.if-value-lt-DOUBLE_BASE.false c.mapping.view_is c.mapping.invariant

pub bounds-mapping-inside-value-else-value-lt-DOUBLE_BASE : goal.bounds-mapping-inside-value-else-value-lt-DOUBLE_BASE
bounds-mapping-inside-value-else-value-lt-DOUBLE_BASE c =
    let p = c.args.self.now in
    double_there p.mapping.now (set_number p.set) p.bytes.now c.in_ok-value.rest.now c.in_ok-value.ensures c.if-value-lt-DOUBLE_BASE.false c.mapping.view_is c.mapping.invariant

pub returns-clause-steps : goal.returns-clause-steps
unfolding points_left
returns-clause-steps c =
    let p = c.args.self.now in
    ap (λ (second : Option ℕ). option_to_list second ++ points_by p.mapping.now (set_number p.set) p.bytes.now) (sym c.take.ensures.value ∙ c.in_default.is)
    ∙ points_two p.mapping.now (set_number p.set) p.bytes.now c.in_ok-value.rest.now c.in_ok-value.ensures c.if-value-lt-DOUBLE_BASE.false c.mapping.view_is

pub returns-clause-goes : goal.returns-clause-goes
unfolding points_left
returns-clause-goes c =
    let shorter = ap length (returns-clause-steps c) in
    record { on = λ _. (tt, tt, omega (arith, shorter)); keeps = tt; rests = λ _. tt }
