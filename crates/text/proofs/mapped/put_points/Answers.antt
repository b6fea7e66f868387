-- The next character is written behind those before it.
use Rattle.text.specs.Points.{points_left}
use Rattle.text.proofs.Writing.{next_length, next_written}
use Rattle.text.proofs.Filling.{next_whole, next_room, next_is}
use Rattle.std.proofs.Common.{length, arith}
use Rattle.text.proofs.mapped.put_points.Goals as goal

pub put_character-len-requires : goal.put_character-len-requires
put_character-len-requires c =
    let l = c.loop-point in let points = points_left c.args.points in let left = points_left l.point-iterator in
    let room = next_room points l.yielded left l.invariant.whole c.in-Some.ensures.steps (length c.args.page.now) c.requires.1 in
    let size = next_length l.yielded c.in-Some.point in
    (omega (arith, room, size), next_is points l.yielded left l.invariant.whole c.in-Some.ensures.steps c.requires.0)

pub loop-point-preserved : goal.loop-point-preserved
loop-point-preserved c =
    let l = c.loop-point in let points = points_left c.args.points in let left = points_left l.point-iterator in
    let room = next_room points l.yielded left l.invariant.whole c.in-Some.ensures.steps (length c.args.page.now) c.requires.1 in
    let written = next_written l.yielded c.in-Some.point c.args.page.now room l.invariant.place l.invariant.so_far c.put_character-len.ensures in
    record { whole = next_whole points l.yielded left l.invariant.whole c.in-Some.ensures.steps; place = written.0; so_far = written.2 }
