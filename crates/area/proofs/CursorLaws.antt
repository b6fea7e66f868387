-- Laws of the text cursor: drawn to its end it gives the walk's items, all of them, and then the end; each with its string; and what a
-- track keeps is what it keeps of the items drawn. Assumes nothing.
use Rattle.std.specs.Prelude.{ℕ, zero, suc, ◌≤◌, ◌<◌, ◌≡◌, refl, length, ◌+◌, true, false, is_some, Option, Some, None}
use mathlib.Core.List.{List, [], ◌∷◌}
use Rattle.std.proofs.Common.{sym, ap, subst, ◌∙◌, arith}
use Rattle.std.specs.Borrow.{Bor}
use Rattle.sectors.specs.Fill.{part}
use Rattle.text.specs.String.{string_at}
use Rattle.area.specs.Items.{Item, items_from, item_of, item_then}
use Rattle.area.specs.ItemLaws.{items_none, items_drawn, items_undrawn, draw_fewer, draw_string}
use Rattle.area.specs.TrackText.{no_items, keep_all, items_kept}
use Rattle.area.specs.Cursor.{Seen, seen, seen_of, draw_of, moved_past, moved_on, drawn_by, moved_by}
use Rattle.area.specs.declared.cursor.TextCursor.{TextCursor}
use Rattle.area.specs.declared.cursor.TextItem.{TextItem}
use Rattle.area.specs.declared.items.Drawn.{Drawn}

-- answers that are seen to be the same are both the end, or items of one type whose strings have the same bytes at the same place
abbrev pub SameItem : Option TextItem → Option TextItem → Type 0
SameItem None None = Unit {0}
SameItem (Some x) (Some y) = (x.kind ≡ y.kind) × (x.text.now ≡ y.text.now) × (x.text.ref_ptr ≡ y.text.ref_ptr)
SameItem _ _ = ⊥

pub seen_tells : (x y : Option TextItem) → seen x ≡ seen y → SameItem x y
unfolding seen
seen_tells None None e = tt
seen_tells None (Some y) e = absurd cc
seen_tells (Some x) None e = absurd cc
seen_tells (Some x) (Some y) e =
    let own = some_own _ _ e in (ap (λ (s : Seen). s.kind) own, ap (λ (s : Seen). s.bytes) own, ap (λ (s : Seen). s.start) own)
  where
    some_own : (s t : Seen) → Some s ≡ Some t → s ≡ t
    some_own s t e = cc

-- at the end there are none, whatever would stand behind
item_end : (xs ys : List Item) → item_then None xs ≡ item_then None ys
unfolding item_then
item_end xs ys = refl

-- the walk's items from where a cursor stands
abbrev items_of : TextCursor → List Item
items_of c = items_from c.table.now c.next c.left

module _ (c : TextCursor) where
  -- a draw that finds an item gives the first of them, and leaves the others
  pub drawn_first : (d : Drawn) → draw_of c ≡ Some d → items_of c ≡ item_of d ∷ items_of (moved_on c)
  unfolding draw_of moved_past moved_on
  drawn_first d e = rw e (items_drawn c.table.now c.next c.left d e)

  -- one that finds none has none left
  pub drawn_end_lem : draw_of c ≡ None → items_of c ≡ []
  unfolding draw_of
  drawn_end_lem e = items_undrawn c.table.now c.next c.left e

  -- they unfold by a draw
  pub drawn_unfolds : items_of c ≡ item_then (draw_of c) (items_of (moved_on c))
  unfolding item_then
  drawn_unfolds = go (draw_of c) refl
    where
      go : (o : Option Drawn) → draw_of c ≡ o → items_of c ≡ item_then o (items_of (moved_on c))
      go None e = drawn_end_lem e
      go (Some d) e = drawn_first d e

  -- a draw that finds an item leaves fewer
  pub drawn_fewer : (d : Drawn) → draw_of c ≡ Some d → (moved_on c).left < c.left
  unfolding draw_of moved_past moved_on
  drawn_fewer d e = rw e (draw_fewer c.table.now c.next c.left d e)

  -- one that finds none leaves the cursor as it was
  pub drawn_stays : draw_of c ≡ None → moved_on c ≡ c
  unfolding moved_past moved_on
  drawn_stays e = ap (moved_past c) e

  -- what a drawn item marks off of the table is the string at its place
  pub drawn_string : (d : Drawn) → draw_of c ≡ Some d → part d.place d.len c.table.now ≡ string_at c.table.now d.place
  unfolding draw_of
  drawn_string = draw_string c.table.now c.next c.left

  -- the table stays with a draw
  moved_same : (moved_on c).table ≡ c.table
  unfolding moved_past moved_on
  moved_same = go (draw_of c)
    where
      go : (o : Option Drawn) → (moved_past c o).table ≡ c.table
      go None = refl
      go (Some d) = refl

-- by an answer that shows what a cursor draws: an item is one of those that were there, and leaves fewer; at the end there are none
module _ (c : TextCursor) (answer : Option TextItem) (shows : seen answer ≡ seen_of c (draw_of c)) where
  pub answer_counts : (after : TextCursor) → after ≡ moved_on c → is_some answer ≡ true
      → (length (items_of c) ≡ length (items_of after) + 1) × (after.left < c.left)
  unfolding seen seen_of
  answer_counts after moved some = rw moved (go (draw_of c) refl answer some shows)
    where
      go : (o : Option Drawn) → draw_of c ≡ o → (a : Option TextItem) → is_some a ≡ true → seen a ≡ seen_of c o
          → (length (items_of c) ≡ length (items_of (moved_on c)) + 1) × ((moved_on c).left < c.left)
      go (Some d) e a some shows = let more = ap length (drawn_first c d e) in (omega arith, drawn_fewer c d e)
      go None e (Some x) some shows = absurd cc
      go None e None some shows = absurd cc

  pub answer_ends : is_some answer ≡ false → length (items_of c) ≡ 0
  unfolding seen seen_of
  answer_ends none = go (draw_of c) refl answer none shows
    where
      go : (o : Option Drawn) → draw_of c ≡ o → (a : Option TextItem) → is_some a ≡ false → seen a ≡ seen_of c o → length (items_of c) ≡ 0
      go None e a none shows = ap length (drawn_end_lem c e)
      go (Some d) e None none shows = absurd cc
      go (Some d) e (Some x) none shows = absurd cc

-- the table stays
pub moved_table : (n : ℕ) (c : TextCursor) → (moved_by n c).table ≡ c.table
unfolding moved_by
moved_table zero c = refl
moved_table (suc n) c = moved_table n (moved_on c) ∙ moved_same c

-- what a later draw marks off is the string at its place in the same table
pub later_string : (n : ℕ) (c : TextCursor) (d : Drawn) → draw_of (moved_by n c) ≡ Some d
    → part d.place d.len c.table.now ≡ string_at c.table.now d.place
later_string n c d e =
    subst (λ (table : Bor (List ℕ)). part d.place d.len table.now ≡ string_at table.now d.place) (moved_table n c)
    (drawn_string (moved_by n c) d e)

-- as many draws as items are left give the walk's items, all of them; and more draws give no more
pub drawn_all : (n : ℕ) (c : TextCursor) → c.left ≤ n → drawn_by n c ≡ items_from c.table.now c.next c.left
unfolding drawn_by
drawn_all zero c h =
    let no_more : c.left ≡ 0 = omega arith in
    sym (ap (items_from c.table.now c.next) no_more ∙ items_none c.table.now c.next)
drawn_all (suc n) c h = go (draw_of c) refl (drawn_all n (moved_on c)) ∙ sym (drawn_unfolds c)
  where
    go : (o : Option Drawn) → draw_of c ≡ o → ((moved_on c).left ≤ n → drawn_by n (moved_on c) ≡ items_of (moved_on c))
        → item_then o (drawn_by n (moved_on c)) ≡ item_then o (items_of (moved_on c))
    go None e more = item_end (drawn_by n (moved_on c)) (items_of (moved_on c))
    go (Some d) e more = ap (item_then (Some d)) (more (omega (arith, drawn_fewer c d e)))

-- a cursor at its end stays there
stays_ended : (n : ℕ) (c : TextCursor) → draw_of c ≡ None → draw_of (moved_by n c) ≡ None
unfolding moved_by
stays_ended zero c e = e
stays_ended (suc n) c e = ap (λ (d : TextCursor). draw_of (moved_by n d)) (drawn_stays c e) ∙ stays_ended n c e

-- the draw after all items gives the end, and so does each after it
pub drawn_end : (n : ℕ) (c : TextCursor) → length (items_from c.table.now c.next c.left) ≤ n → draw_of (moved_by n c) ≡ None
unfolding moved_by
drawn_end zero c h = go (draw_of c) refl
  where
    go : (o : Option Drawn) → draw_of c ≡ o → draw_of c ≡ None
    go None e = e
    go (Some d) e = let more = ap length (drawn_first c d e) in absurd (omega arith)
drawn_end (suc n) c h = go (draw_of c) refl (drawn_end n (moved_on c))
  where
    go : (o : Option Drawn) → draw_of c ≡ o → (length (items_of (moved_on c)) ≤ n → draw_of (moved_by n (moved_on c)) ≡ None)
        → draw_of (moved_by n (moved_on c)) ≡ None
    go None e later = stays_ended (suc n) c e
    go (Some d) e later = later (let more = ap length (drawn_first c d e) in omega arith)

-- the texts that a track's walk keeps are those of the items drawn
pub drawn_kept : (n : ℕ) (c : TextCursor) → c.left ≤ n → items_kept c.table.now c.next c.left ≡ keep_all c.table.now (drawn_by n c) no_items
unfolding items_kept
drawn_kept n c h = ap (λ (items : List Item). keep_all c.table.now items no_items) (sym (drawn_all n c h))
