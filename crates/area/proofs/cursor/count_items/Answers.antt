-- An item is counted where the cursor draws one; where it draws none, all are counted.
use Rattle.std.proofs.Common.{arith, ◌∙◌, sym}
use Rattle.area.proofs.CursorLaws.{answer_counts, answer_ends}
use Rattle.area.proofs.cursor.count_items.Goals as goal

pub overflow_add-n : goal.overflow_add-n
overflow_add-n c =
    let its = answer_counts c.loop-cursor.cursor c.draw.result c.draw.ensures.drawn c.draw.new.cursor c.draw.ensures.moved (sym c.is_some.ensures ∙ c.loop-cursor-test.true) in
    omega (arith, c.loop-cursor.invariant.1, its.1)

pub loop-cursor-smaller : goal.loop-cursor-smaller
loop-cursor-smaller c =
    (answer_counts c.loop-cursor.cursor c.draw.result c.draw.ensures.drawn c.draw.new.cursor c.draw.ensures.moved (sym c.is_some.ensures ∙ c.loop-cursor-test.true)).1

pub loop-cursor-preserved : goal.loop-cursor-preserved
loop-cursor-preserved c =
    let its = answer_counts c.loop-cursor.cursor c.draw.result c.draw.ensures.drawn c.draw.new.cursor c.draw.ensures.moved (sym c.is_some.ensures ∙ c.loop-cursor-test.true) in
    (omega (arith, c.loop-cursor.invariant.0, its.0), omega (arith, c.loop-cursor.invariant.1, its.1))

pub returns : goal.returns
returns c =
    let none = answer_ends c.loop-cursor.cursor c.draw.result c.draw.ensures.drawn (sym c.is_some.ensures ∙ c.loop-cursor-test.false) in
    omega (arith, c.loop-cursor.invariant.0, none)
