-- An item kept over those before it, as the arms of the walk do; and the search for the next one. Assumes nothing.
use mathlib.Core.Path.{◌≡◌, sym, ap, ◌∙◌}
use Rattle.std.specs.Prelude.{Option}
use mathlib.Core.Bool.{cond}
use mathlib.Core.List.{List, []}
use Prim.Native.Nat.{ℕ, suc, ◌+◌, ◌-◌, ◌≤◌, ◌<◌}
use native.Mathlib.Omega.{arith}
use lib.Dec.{ltb}
use lib.ListN.{length, get_or}
use borrow.Author.Tests.{eq-eqb, ne_eqb, lt-ltb, le-ltb}
use Rattle.sectors.specs.NumberLaws.{be_byte}
use Rattle.text.specs.String.{string_at}
use Rattle.area.specs.TestLaws.{cond_same}
use Rattle.area.specs.Items.{Item, item_at, nonzero_at, next_item, items_from}
use Rattle.area.specs.ItemLaws.{nonzero_more, nonzero_found, nonzero_end, items_none, items_first}
use Rattle.area.specs.TextPlaces.{placed_text}
use Rattle.area.specs.TrackText.{item_index, keep_at, keep, keep_all}
use Rattle.area.specs.declared.text_places.TextPlace.{TextPlace}
use Rattle.area.specs.declared.track_text.TrackText.{TrackText}

module _ (table : List ℕ) (item : Item) (before : TrackText) where
  -- an empty item changes nothing
  pub keep_empty : item.len ≡ 0 → before ≡ keep table item before
  unfolding keep
  keep_empty empty = simp (eq-eqb _ _ empty)

  -- another takes the place of its type, or is noted
  pub keep_full : (item.len ≡ 0 → ⊥) → {index : Option ℕ} → item_index item.kind ≡ index → {text : TextPlace} → text ≡ placed_text table item.place
      → keep_at index text before ≡ keep table item before
  unfolding keep
  keep_full full is told = rw (sym is, told) (simp (ne_eqb _ _ full))

-- the items that are left while the next one is searched for from a place on
unfoldable pub searched : List ℕ → ℕ → ℕ → List Item
searched table at left = cond (ltb (nonzero_at table at) (length table)) (items_from table (nonzero_at table at) left) []

module _ (table : List ℕ) (at left : ℕ) where
  pub search_more : at < length table → get_or table at 0 ≡ 0 → searched table at left ≡ searched table (at + 1) left
  unfolding searched
  search_more h z = rw (nonzero_more table at h z)

  pub search_found : at < length table → (get_or table at 0 ≡ 0 → ⊥) → searched table at left ≡ items_from table at left
  unfolding searched
  search_found h n = rw (nonzero_found table at h n) (simp (lt-ltb _ _ h))

  pub search_end : length table ≤ at → searched table at left ≡ []
  unfolding searched
  search_end h = rw (nonzero_end table at h) (simp (le-ltb _ _ h))

  pub search_none : left ≡ 0 → searched table at left ≡ []
  unfolding searched
  search_none e =
      ap (λ (n : ℕ). cond (ltb (nonzero_at table at) (length table)) (items_from table (nonzero_at table at) n) []) e
      ∙ rw (items_none table (nonzero_at table at)) (cond_same (ltb (nonzero_at table at) (length table)) [])

  pub none_left : left ≡ 0 → items_from table at left ≡ []
  none_left e = ap (items_from table at) e ∙ items_none table at

-- what is kept in all
module _ {all : TrackText} where
  -- the same items are left
  pub same_left : (table : List ℕ) (before : TrackText) {xs ys : List Item} → xs ≡ ys → keep_all table xs before ≡ all → keep_all table ys before ≡ all
  same_left table before e leads = ap (λ (items : List Item). keep_all table items before) (sym e) ∙ leads

  -- none are left
  pub all_kept : (table : List ℕ) (before : TrackText) {xs : List Item} → xs ≡ [] → keep_all table xs before ≡ all → before ≡ all
  unfolding keep_all
  all_kept table before e leads = ap (λ (items : List Item). keep_all table items before) (sym e) ∙ leads

  -- a turn, as the call finds the item's string and the arms meet with what is kept of it
  pub kept_turn : (table : List ℕ) (at left : ℕ) (before after : TrackText) (string : List ℕ) → at + 2 ≤ length table → 0 < left
      → string ≡ string_at table (at + 2) → after ≡ keep table (record { kind = get_or table at 0; place = at + 2; len = length string }) before
      → keep_all table (items_from table at left) before ≡ all
      → keep_all table (searched table (at + 2 + length string) (left - 1)) after ≡ all
  unfolding keep_all searched next_item item_at
  kept_turn table at left before after string two some is kept leads =
      let one_more : left ≡ suc (left - 1) = omega arith in
      let the_item : after ≡ keep table (item_at table at) before =
      kept ∙ (λ i. keep table (record { kind = sym (be_byte table at) i; place = at + 2; len = length (is i) }) before) in
      (λ i. keep_all table (searched table (at + 2 + length (is i)) (left - 1)) (the_item i))
      ∙ ap (λ (items : List Item). keep_all table items before) (sym (items_first table at (left - 1) two) ∙ ap (items_from table at) (sym one_more))
      ∙ leads
