-- `area::items::draw_at` meets its contract: the draw by what is found behind the item's string.
use Rattle.std.proofs.Common.{◌≡◌, ◌+◌, length, take, drop, ◌-◌, ◌<◌, ◌≤◌, slice_index_or, arith, rules, ◌∙◌, sym}
use Rattle.std.proofs.lemmas.Grind.{common_steps}
use Rattle.area.specs.ItemLaws.{draw_none, draw_more, draw_last}
use Rattle.sectors.specs.Number.{be_at}
use Rattle.sectors.specs.NumberLaws.{be_byte}
use Rattle.area.proofs.items.draw_at.Goals.{in-Some, in-None}
use Rattle.area.proofs.items.draw_at.Goals as goal

pub returns-in_err-left : goal.returns-in_err-left
returns-in_err-left c = rw (draw_none c.args.table.now c.args.next c.args.left (omega (arith, c.in_err-left.ensures))) c.from_residual.ensures

pub returns : goal.returns
returns c =
    let table = c.args.table.now in let at = c.args.next in let string = c.string_bytes-len.result.now in let end = at + 2 + length string in
    let rest = take (length table - end) (drop end table) in
    let kind : be_at table at 1 ≡ slice_index_or c.in_ok-get.field-0.now 0 0 = grind (arith, common_steps, be_byte) in
    let two : at + 2 ≤ length table = grind (arith, common_steps) in
    let behind : rest ≡ drop end table = grind (arith, common_steps) in
    let left : c.in_ok-left.left ≡ c.args.left - 1 = search rules in
    let one : 0 < c.args.left = omega arith in
    elim c.match-nonzero_in.branch [
      | in-Some w ↦ rw (w.next-is, sym kind, left) (sym (draw_more table at c.args.left one two string rest c.string_bytes-len.ensures.bytes behind w.in-Some.zeros (sym c.nonzero_in.ensures ∙ w.in-Some.is)))
      | in-None w ↦ rw (w.next-is, sym kind) (sym (draw_last table at c.args.left one two string rest c.string_bytes-len.ensures.bytes behind (sym c.nonzero_in.ensures ∙ w.in-None.is)))
    ]
