-- The items of a track's text (01, "Area"). Assumes nothing.
use Rattle.std.specs.Prelude.{ℕ, zero, suc, ◌+◌, Bool, cond, List, [], ◌∷◌, leb, ltb, eqb, length, drop, take_while, Option, Some, None}
use Rattle.sectors.specs.Number.{be_at}
use Rattle.text.specs.String.{string_at}
use Rattle.area.specs.declared.items.Drawn.{Drawn}

-- "An item is type byte, ignored byte, string.": its type, and where its string stands
pub record Item : Type 0 where
  pub kind : ℕ
  pub place : ℕ
  pub len : ℕ

-- the item whose type byte stands at a place
unfoldable pub item_at : List ℕ → ℕ → Item
item_at table at = record { kind = be_at table at 1; place = at + 2; len = length (string_at table (at + 2)) }

-- a "zero byte"
unfoldable pub is_zero : ℕ → Bool
is_zero b = eqb b 0

-- "the next nonzero byte" from a place on; the table's end (or the place, if it is past it) where none follows
unfoldable pub nonzero_at : List ℕ → ℕ → ℕ
nonzero_at table from = from + length (take_while is_zero (drop from table))

-- "The next item begins at the next nonzero byte.": behind the item at a place
unfoldable pub next_item : List ℕ → ℕ → ℕ
next_item table at = nonzero_at table (at + 2 + length (string_at table (at + 2)))

-- The walk's items, at most `left` of them. "It must have its two bytes, or the walk stops." "When no nonzero byte follows, the whole text
-- walk ends there."
unfoldable pub items_from : List ℕ → ℕ → ℕ → List Item
items_from table at zero = []
items_from table at (suc left) =
    cond (leb (at + 2) (length table))
    (item_at table at ∷ cond (ltb (next_item table at) (length table)) (items_from table (next_item table at) left) [])
    []

-- "a draw answers the type byte and string of the next item, empty and unknown ones included, or the end": with the place of the next
-- draw, and how many items are left
unfoldable pub draw_at : List ℕ → ℕ → ℕ → Option Drawn
draw_at table at zero = None
draw_at table at (suc left) =
    cond (leb (at + 2) (length table))
    (Some (record {
      kind = be_at table at 1;
      place = at + 2;
      len = length (string_at table (at + 2));
      next = next_item table at;
      left = cond (ltb (next_item table at) (length table)) left 0;
    }))
    None

-- the item of a draw
unfoldable pub item_of : Drawn → Item
item_of d = record { kind = d.kind; place = d.place; len = d.len }

-- the items by a draw, with those behind it: none at the end
unfoldable pub item_then : Option Drawn → List Item → List Item
item_then None rest = []
item_then (Some d) rest = item_of d ∷ rest
