-- The value at the byte's own place is the one found: keys rise.
use Rattle.std.proofs.Common.{◌∙◌}
use Rattle.text.specs.Mapped.{value_in}
use Rattle.text.proofs.MappedLaws.{rising_singles}
use Rattle.text.proofs.PointsLaws.{value_there}
use Rattle.text.proofs.points.single_value.Goals as goal

pub lookup-requires : goal.lookup-requires
lookup-requires c = rising_singles _ c.mapping.invariant

pub returns-in-Some : goal.returns-in-Some
returns-in-Some c =
    let singles = c.mapping.inside.singles.now in
    value_there singles (rising_singles _ c.mapping.invariant) c.from.result c.in-Some.ensures.lookup.3 c.from-key.result c.if-k-key.true
    ∙ (λ j. value_in (c.mapping.view_is j).singles (c.from-key.ensures j))
