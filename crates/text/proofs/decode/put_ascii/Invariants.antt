-- What is written are the bytes passed, blanks in place of controls.
use Rattle.std.proofs.Common.{◌≡◌, ◌-◌, ◌≤◌, length, take, map}
use Rattle.sectors.specs.Fill.{fill}
use Rattle.text.specs.Utf8.{blanked}
use Rattle.text.proofs.decode.put_ascii.Given as goal

abbrev pub invariant-loop-i : goal.invariant-loop-i
invariant-loop-i l = (l.i ≤ length l.bytes) × (l.page ≡ fill 0 (map blanked (take l.i l.bytes)) l.initial.page)

abbrev pub decreases-loop-i : goal.decreases-loop-i
decreases-loop-i l = length l.bytes - l.i
