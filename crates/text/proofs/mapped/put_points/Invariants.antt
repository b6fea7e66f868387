-- The code points that have come are written, and those that are left follow them.
use Rattle.std.proofs.Common.{◌≡◌, ◌++◌, length}
use Rattle.sectors.specs.Fill.{fill}
use Rattle.text.specs.Points.{points_left}
use Rattle.text.specs.Utf8.{encoded}
use Rattle.text.proofs.mapped.put_points.Given as goal

abbrev pub invariant-loop-point : goal.invariant-loop-point
invariant-loop-point l = record {
  whole : points_left l.fn.points ≡ l.yielded ++ points_left l.point-iterator;
  place : l.len ≡ length (encoded l.yielded);
  so_far : l.page ≡ fill 0 (encoded l.yielded) l.initial.page;
}
