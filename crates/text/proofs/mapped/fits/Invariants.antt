-- What is left of the room, and what is left of the text.
use Rattle.std.proofs.Common.{◌≡◌, ◌+◌, length}
use Rattle.text.specs.Points.{points_left}
use Rattle.text.specs.Utf8.{encoded}
use Rattle.text.proofs.mapped.fits.Given as goal

abbrev pub invariant-loop-point : goal.invariant-loop-point
invariant-loop-point l =
    length (encoded (points_left l.fn.points)) + l.left ≡ l.room + length (encoded (points_left l.point-iterator))
