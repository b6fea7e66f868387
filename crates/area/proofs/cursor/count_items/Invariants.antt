-- `area::cursor::count_items` meets its contract: the items drawn and those from where the cursor stands are all, and the items left fall with
-- each draw. Assumes nothing.
use Rattle.std.proofs.Common.{◌≡◌, ◌+◌, ◌≤◌, length}
use Rattle.area.specs.Items.{items_from}
use Rattle.area.proofs.cursor.count_items.Given as goal

abbrev pub invariant-loop-cursor : goal.invariant-loop-cursor
invariant-loop-cursor l =
    (l.n + length (items_from l.cursor.table.now l.cursor.next l.cursor.left) ≡ length (items_from l.table l.next l.left))
    × (l.n + l.cursor.left ≤ l.left)

abbrev pub decreases-loop-cursor : goal.decreases-loop-cursor
decreases-loop-cursor l = l.cursor.left
