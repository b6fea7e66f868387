-- The text cursor (01, "Area"): "Items can also be drawn singly from a cursor that carries the table and the next place; drawing to the end
-- gives this walk's items. It starts from any table, place and item count". Assumes nothing.
use Rattle.std.specs.Prelude.{ℕ, zero, suc, min, List, [], length, Option, Some, None}
use Rattle.sectors.specs.Fill.{part, start_at}
use Rattle.area.specs.Items.{Item, draw_at, item_then}
use Rattle.area.specs.declared.cursor.TextCursor.{TextCursor}
use Rattle.area.specs.declared.cursor.TextItem.{TextItem}
use Rattle.area.specs.declared.items.Drawn.{Drawn}

-- what a cursor draws, or the end
unfoldable pub draw_of : TextCursor → Option Drawn
draw_of c = draw_at c.table.now c.next c.left

-- the cursor behind what was drawn: the same table, and the place and the number of items that the draw leaves; at the end it stays
unfoldable pub moved_past : TextCursor → Option Drawn → TextCursor
moved_past c None = c
moved_past c (Some d) = record { table = c.table; next = d.next; left = d.left }

-- the cursor after a draw
unfoldable pub moved_on : TextCursor → TextCursor
moved_on c = moved_past c (draw_of c)

-- "a draw answers the type byte and string of the next item": the string as its bytes, and where in the memory of the table they begin
pub record Seen : Type 0 where
  pub kind : ℕ
  pub bytes : List ℕ
  pub start : ℕ × ℕ

-- what is drawn of a cursor's table
unfoldable pub seen_of : TextCursor → Option Drawn → Option Seen
seen_of c None = None
seen_of c (Some d) = Some (record {
  kind = d.kind;
  bytes = part d.place d.len c.table.now;
  start = start_at c.table.ref_ptr (min d.place (length c.table.now));
})

-- what an answer shows
unfoldable pub seen : Option TextItem → Option Seen
seen None = None
seen (Some item) = Some (record { kind = item.kind; bytes = item.text.now; start = item.text.ref_ptr })

-- the items that at most n draws give, each from where the one before left the cursor, until a draw gives the end
unfoldable pub drawn_by : ℕ → TextCursor → List Item
drawn_by zero c = []
drawn_by (suc n) c = item_then (draw_of c) (drawn_by n (moved_on c))

-- the cursor after n draws
unfoldable pub moved_by : ℕ → TextCursor → TextCursor
moved_by zero c = c
moved_by (suc n) c = moved_by n (moved_on c)
