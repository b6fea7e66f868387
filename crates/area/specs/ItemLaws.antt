-- Laws of the items of a track's text: the next nonzero byte, what a draw gives, and that the walk unfolds by a draw. Assumes nothing.
use Prim.Native.Nat.{ℕ, zero, suc, ◌+◌, ◌-◌, ◌≤◌, ◌<◌}
use Rattle.std.specs.Prelude.{Bool, ◌≡◌, ltb, eqb, not, length, drop, get_or, nat_lt, position, take_while, unwrap_or, Option, Some, None}
use Rattle.std.specs.List.{prefix_len}
use Rattle.std.proofs.lemmas.List.Quantifiers.{position-Some}
use Rattle.std.proofs.lemmas.List.Sums.{prefix_len-le-length, prefix_len_is}
use Rattle.std.proofs.lemmas.Bool.Decides.{nat_tests}
use Rattle.std.proofs.Math.Bool.{true, false, cond}
use Rattle.std.proofs.Common.{subst, ◌∙◌, length-drop}
use mathlib.Core.List.{List, [], ◌∷◌}
use Rattle.std.proofs.Math.Path.{refl, sym, ap}
use native.Mathlib.Omega.{arith}
use borrow.Author.Tests.{eq-eqb, ne_eqb, le-leb, lt-leb, leb-true, leb-false, lt-ltb, le-ltb}
use Rattle.std.proofs.Math.Dec.{leb}
use Rattle.sectors.specs.Fill.{part}
use Rattle.sectors.specs.Number.{be_at}
use Rattle.text.specs.String.{string_at}
use Rattle.text.proofs.StringLaws.{string_part, string_within}
use Rattle.text.specs.WhileLaws.{scan_more, scan_stop, scan_end, while_length, while_passes, while_stops}
use Rattle.area.specs.Items.{Item, item_at, is_zero, nonzero_at, next_item, items_from, draw_at, item_of, item_then}
use Rattle.area.specs.Cursor.{moved_past}
use Rattle.area.specs.declared.cursor.TextCursor.{TextCursor}
use Rattle.area.specs.declared.items.Drawn.{Drawn}

-- an answer is none, or has one value
none_some : (d : Drawn) → None ≡ Some d → ⊥
none_some d e = cc

some_own : (x y : Drawn) → Some x ≡ Some y → x ≡ y
some_own x y e = cc

-- how many zero bytes stand before the first other one
pub before_nonzero : (l : List ℕ) → length (take_while is_zero l) ≡ unwrap_or (position (λ b. not (eqb b 0)) l) (length l)
unfolding is_zero
before_nonzero l =
    sym (prefix_len_is (λ b. not (not (eqb b 0))) l (length (take_while is_zero l)) 0 (while_length is_zero l)
    (λ k below. ap (λ t. not (not t)) (while_passes is_zero l k 0 below)) (λ more. ap (λ t. not (not t)) (while_stops is_zero l 0 more)))
    ∙ sym (by_position (prefix_len (λ b. not (not (eqb b 0))) l) (prefix_len-le-length (λ b. not (not (eqb b 0))) l))
  where
    by_position : (n : ℕ) → n ≤ length l → unwrap_or (cond (nat_lt n (length l)) (Some n) None) (length l) ≡ n
    by_position n h = grind (arith, nat_tests)

module _ (table : List ℕ) where
  module _ (at : ℕ) where
    -- a zero byte is passed over
    pub nonzero_more : at < length table → get_or table at 0 ≡ 0 → nonzero_at table at ≡ nonzero_at table (at + 1)
    unfolding nonzero_at is_zero
    nonzero_more h z = sym (scan_more is_zero table at 0 h (eq-eqb _ _ z) refl)

    -- a nonzero byte is found
    pub nonzero_found : at < length table → (get_or table at 0 ≡ 0 → ⊥) → nonzero_at table at ≡ at
    unfolding nonzero_at is_zero
    nonzero_found h n = sym (scan_stop is_zero table at 0 h (ne_eqb _ _ n) refl)

    -- none follows at the table's end
    pub nonzero_end : length table ≤ at → nonzero_at table at ≡ at
    unfolding nonzero_at
    nonzero_end h = sym (scan_end is_zero table at h refl)

    -- of no items there are none
    pub items_none : items_from table at 0 ≡ []
    unfolding items_from
    items_none = refl

    -- "It must have its two bytes, or the walk stops."
    pub items_short : (left : ℕ) → length table < at + 2 → items_from table at left ≡ []
    unfolding items_from
    items_short zero h = refl
    items_short (suc left) h = simp (lt-leb _ _ h)

    -- with its two bytes there, the walk's first item, and those behind it
    pub items_first : (left : ℕ) → at + 2 ≤ length table
        → items_from table at (suc left)
        ≡ item_at table at ∷ cond (ltb (next_item table at) (length table)) (items_from table (next_item table at) left) []
    unfolding items_from
    items_first left h = simp (le-leb _ _ h)

    -- of no items none is drawn
    pub draw_none : (left : ℕ) → left ≡ 0 → draw_at table at left ≡ None
    unfolding draw_at
    draw_none zero e = refl
    draw_none (suc left) e = absurd (omega arith)

    -- without its two bytes none is drawn
    pub draw_short : (left : ℕ) → length table < at + 2 → draw_at table at left ≡ None
    unfolding draw_at
    draw_short zero h = refl
    draw_short (suc left) h = simp (lt-leb _ _ h)

    abbrev drawn : ℕ → Drawn
    drawn below = record {
      kind = be_at table at 1;
      place = at + 2;
      len = length (string_at table (at + 2));
      next = next_item table at;
      left = cond (ltb (next_item table at) (length table)) below 0;
    }

    -- with its two bytes there, the item is drawn
    pub draw_item : (left : ℕ) → at + 2 ≤ length table → draw_at table at (suc left) ≡ Some (drawn left)
    unfolding draw_at
    draw_item left two = simp (le-leb _ _ two)

    draw_some : (left : ℕ) → 0 < left → at + 2 ≤ length table → draw_at table at left ≡ Some (drawn (left - 1))
    draw_some zero some two = absurd (omega arith)
    draw_some (suc left) some two = let e : suc left - 1 ≡ left = omega arith in rw e (draw_item left two)

    -- the draw by what stands behind the item's string
    module _ (left : ℕ) (some : 0 < left) (two : at + 2 ≤ length table) (string rest : List ℕ) (its : string ≡ string_at table (at + 2))
        (behind : rest ≡ drop (at + 2 + length string) table) where
      drawn_by : (next more : ℕ) → next_item table at ≡ next → cond (ltb next (length table)) (left - 1) 0 ≡ more
          → draw_at table at left ≡ Some (record { kind = be_at table at 1; place = at + 2; len = length string; next = next; left = more })
      drawn_by next more e m =
          draw_some left some two
          ∙ (λ i. Some (record {
            kind = be_at table at 1;
            place = at + 2;
            len = length (sym its i);
            next = e i;
            left = (ap (λ (n : ℕ). cond (ltb n (length table)) (left - 1) 0) e ∙ m) i;
          }))

      next_is : next_item table at ≡ at + 2 + length string + unwrap_or (position (λ b. not (eqb b 0)) rest) (length rest)
      unfolding next_item nonzero_at
      next_is =
          ap (λ (s : List ℕ). at + 2 + length s + length (take_while is_zero (drop (at + 2 + length s) table))) (sym its)
          ∙ ap (λ (l : List ℕ). at + 2 + length string + length (take_while is_zero l)) (sym behind) ∙ ap (λ (n : ℕ). at + 2 + length string + n) (before_nonzero rest)

      sized : length rest + (at + 2 + length string) ≡ length table
      sized =
          let few = string_within table (at + 2) in let l = ap length its in let r = ap length behind ∙ length-drop (at + 2 + length string) table in
          omega (arith, few, l, r)

      -- a nonzero byte: there the next item begins
      pub draw_more : (zeros : ℕ) → position (λ b. not (eqb b 0)) rest ≡ Some zeros
          → draw_at table at left
          ≡ Some (record { kind = be_at table at 1; place = at + 2; len = length string; next = at + 2 + length string + zeros; left = left - 1 })
      draw_more zeros e =
          let within = (position-Some (λ b. not (eqb b 0)) rest zeros 0 e).0 in let all = sized in
          drawn_by (at + 2 + length string + zeros) (left - 1) (next_is ∙ ap (λ (o : Option ℕ). at + 2 + length string + unwrap_or o (length rest)) e)
          (simp (lt-ltb (at + 2 + length string + zeros) (length table) (omega arith)))

      -- none: the draw was the last
      pub draw_last : position (λ b. not (eqb b 0)) rest ≡ None
          → draw_at table at left ≡ Some (record { kind = be_at table at 1; place = at + 2; len = length string; next = length table; left = 0 })
      draw_last e =
          let all = sized in let end = next_is ∙ ap (λ (o : Option ℕ). at + 2 + length string + unwrap_or o (length rest)) e in
          drawn_by (length table) 0 (omega (arith, end, all)) (simp (le-ltb (length table) (length table) (omega arith)))

    -- a fact about a draw: one of none, and one of an item
    by_draw : (P : Option Drawn → Type 0) (left : ℕ) → P None → ((below : ℕ) → left ≡ suc below → P (Some (drawn below))) → P (draw_at table at left)
    by_draw P zero none item = subst P (sym (draw_none 0 refl)) none
    by_draw P (suc left) none item = go (leb (at + 2) (length table)) refl
      where
        go : (t : Bool) → leb (at + 2) (length table) ≡ t → P (draw_at table at (suc left))
        go true e = subst P (sym (draw_item left (leb-true _ _ e))) (item left refl)
        go false e = subst P (sym (draw_short (suc left) (leb-false _ _ e))) none

    -- a draw that finds an item leaves fewer
    pub draw_fewer : (left : ℕ) (d : Drawn) → draw_at table at left ≡ Some d → d.left < left
    draw_fewer left =
        by_draw (λ (o : Option Drawn). (d : Drawn) → o ≡ Some d → d.left < left) left (λ d e. absurd (none_some d e))
        (λ below e d is. subst (λ (x : Drawn). x.left < left) (some_own (drawn below) d is) (fewer (ltb (next_item table at) (length table)) below e))
      where
        fewer : (t : Bool) (below : ℕ) → left ≡ suc below → cond t below 0 < left
        fewer true below e = omega arith
        fewer false below e = omega arith

    -- what a drawn item marks off of the table is the string at its place
    pub draw_string : (left : ℕ) (d : Drawn) → draw_at table at left ≡ Some d → part d.place d.len table ≡ string_at table d.place
    draw_string left =
        by_draw (λ (o : Option Drawn). (d : Drawn) → o ≡ Some d → part d.place d.len table ≡ string_at table d.place) left (λ d e. absurd (none_some d e))
        (λ below e d is. subst (λ (x : Drawn). part x.place x.len table ≡ string_at table x.place) (some_own (drawn below) d is) (sym (string_part table (at + 2))))

  -- of no items there are none, wherever they would begin
  items_or_none : (t : Bool) (at left : ℕ) → cond t (items_from table at left) [] ≡ items_from table at (cond t left 0)
  items_or_none true at left = refl
  items_or_none false at left = sym (items_none at)

  -- the walk unfolds by a draw: the item that it finds, and the items from where it leaves off
  pub items_drawn : (at left : ℕ) (d : Drawn) → draw_at table at left ≡ Some d → items_from table at left ≡ item_of d ∷ items_from table d.next d.left
  unfolding item_at item_of
  items_drawn at zero d e = absurd (none_some d (sym (draw_none at 0 refl) ∙ e))
  items_drawn at (suc left) d e = go (leb (at + 2) (length table)) refl
    where
      go : (t : Bool) → leb (at + 2) (length table) ≡ t → items_from table at (suc left) ≡ item_of d ∷ items_from table d.next d.left
      go true is =
          let two = leb-true _ _ is in let next = next_item table at in
          items_first at left two ∙ ap (λ (rest : List Item). item_at table at ∷ rest) (items_or_none (ltb next (length table)) next left)
          ∙ ap (λ (x : Drawn). item_of x ∷ items_from table x.next x.left) (some_own (drawn at left) d (sym (draw_item at left two) ∙ e))
      go false is = absurd (none_some d (sym (draw_short at (suc left) (leb-false _ _ is)) ∙ e))

  -- where none is drawn there are none
  pub items_undrawn : (at left : ℕ) → draw_at table at left ≡ None → items_from table at left ≡ []
  items_undrawn at zero e = items_none at
  items_undrawn at (suc left) e = go (leb (at + 2) (length table)) refl
    where
      go : (t : Bool) → leb (at + 2) (length table) ≡ t → items_from table at (suc left) ≡ []
      go true is = absurd (none_some (drawn at left) (sym e ∙ draw_item at left (leb-true _ _ is)))
      go false is = items_short at (suc left) (leb-false _ _ is)

module _ (c : TextCursor) where
  abbrev draw : Option Drawn
  draw = draw_at c.table.now c.next c.left

  -- a draw that finds none leaves the cursor where it is
  pub draw_stays : draw ≡ None → ((moved_past c draw).next ≡ c.next) × ((moved_past c draw).left ≡ c.left)
  unfolding moved_past
  draw_stays e = let stays = ap (moved_past c) e in (ap (λ (d : TextCursor). d.next) stays, ap (λ (d : TextCursor). d.left) stays)

  -- the walk unfolds by a draw: the item that it finds, and the items from where the cursor then stands
  pub items_draw : items_from c.table.now c.next c.left ≡ item_then draw (items_from c.table.now (moved_past c draw).next (moved_past c draw).left)
  unfolding item_then moved_past
  items_draw = go draw refl
    where
      go : (o : Option Drawn) → draw ≡ o → items_from c.table.now c.next c.left ≡ item_then o (items_from c.table.now (moved_past c o).next (moved_past c o).left)
      go None e = items_undrawn c.table.now c.next c.left e
      go (Some d) e = items_drawn c.table.now c.next c.left d e
