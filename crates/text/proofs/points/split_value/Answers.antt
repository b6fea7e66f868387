-- Two bytes that have a value together give it; else the first gives its own.
use Rattle.std.proofs.Common.{◌∙◌}
use Rattle.text.specs.Charset.{set_number}
use Rattle.text.proofs.PointsLaws.{values_pair, values_apart, values_last}
use Rattle.text.proofs.points.split_value.Goals as goal
use Rattle.text.proofs.points.split_value.Goals.{in-Some+in_default-pair_value, in_default}

pub returns-in-Some-pair_value : goal.returns-in-Some-pair_value
returns-in-Some-pair_value c =
    let m = c.args.mapping.now in
    values_pair m (set_number c.args.set) c.in_ok-byte.ensures.cases.0 c.in-Some.ensures.cases.0 (c.from-key.ensures ∙ c.from_be_bytes.ensures) c.in-Some-pair_value.ensures

pub returns : goal.returns
returns c =
    let m = c.args.mapping.now in let first = c.in_ok-byte.ensures.cases.0 in
    elim c.match-split_first.branch [
      | in-Some+in_default-pair_value w ↦
          values_apart m (set_number c.args.set) first w.in-Some.ensures.cases.0 (w.from-key.ensures ∙ w.from_be_bytes.ensures) w.in_default-pair_value.ensures c.single_value.ensures
      | in_default w ↦ values_last m (set_number c.args.set) first w.in_default.ensures.cases c.single_value.ensures
    ]
