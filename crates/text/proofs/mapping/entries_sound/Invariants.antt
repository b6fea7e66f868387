-- The entries passed and those to come. (The last key of all wraps: it is beyond every width.)
use Rattle.std.proofs.Common.{◌≡◌, ◌&&◌, drop}
use Rattle.text.specs.Mapping.{entries_sound}
use Rattle.text.proofs.mapping.entries_sound.Given as goal

abbrev pub invariant-loop-key : goal.invariant-loop-key
invariant-loop-key l =
    (l.sound && entries_sound l.width l.count l.least (drop l.key-index l.entries)) ≡ entries_sound l.width l.count 0 l.entries
