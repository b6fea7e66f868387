-- A character that is longer than what is left of the room.
use Rattle.std.proofs.Common.{length, sym, arith}
use Rattle.std.proofs.lemmas.Bool.{lt-leb}
use Rattle.text.specs.Points.{points_left}
use Rattle.text.specs.Utf8.{encoded}
use Rattle.text.proofs.PointsLaws.{length_first}
use Rattle.text.proofs.mapped.fits.Goals as goal

pub returns-then-left-size : goal.returns-then-left-size
returns-then-left-size c =
    let first = length_first (points_left c.loop-point.point-iterator) c.in-Some.ensures.steps in
    sym (lt-leb (length (encoded (points_left c.args.points))) c.args.room (omega arith))
