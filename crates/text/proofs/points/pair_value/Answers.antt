-- A mapping's pairs have keys that rise.
use Rattle.text.proofs.MappedLaws.{rising_pairs}
use Rattle.text.proofs.points.pair_value.Goals as goal

pub lookup-pair-requires : goal.lookup-pair-requires
lookup-pair-requires c = rising_pairs _ c.mapping.invariant
