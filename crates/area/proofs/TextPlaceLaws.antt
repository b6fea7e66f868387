-- Laws of the texts of a record: each is absent, or present and says how its string ended; and whether one is unterminated. Assumes nothing.
use Prim.Native.Nat.{ℕ, zero, suc, ◌+◌, ◌*◌, ◌<◌}
use Rattle.std.specs.Prelude.{Bool, cond, Option, Some, None, ◌&&◌, ◌||◌, ◌⊎◌, ◌≡◌, eqb, ltb, leb, set, replicate}
use Rattle.std.proofs.Math.Bool.{true, false, not, or-true}
use Rattle.std.proofs.lemmas.Bool.{false≢true, eqb-false}
use mathlib.Core.List.Memᴰ
use mathlib.Core.List.{List, [], ◌∷◌, Memᴰ}
use Rattle.std.proofs.Math.Logic.{inl, inr, ⊎_elim}
use Rattle.std.proofs.Math.Path.{refl, ap}
use Rattle.std.proofs.Common.{sym, ◌∙◌, subst, arith, ltb-true}
use Rattle.std.proofs.Math.ListN.{length}
use Rattle.sectors.specs.Number.{be_at}
use Rattle.text.specs.String.{string_at, ended_byMax_bytes, ended_byTable_end, end_by, end_of, present}
use Rattle.text.proofs.StringLaws.{present_length, end_of_lem, by_end}
use Rattle.area.specs.Area.{area_texts, area_texts_offset, area_texts_at}
use Rattle.area.specs.Items.{item_at, next_item, items_from}
use Rattle.area.specs.Tabulate.{tabulate}
use Rattle.area.specs.TabulateLaws.{tabulate_member}
use Rattle.area.specs.TextPlaces.{no_text_place, placed_text, is_absent, text_place_at, is_unterminated, any_unterminated}
use Rattle.area.specs.TrackText.{track_texts, item_index, no_places, no_items, keep_at, keep, keep_all, items_kept, no_text, text_offset, text_at, text_behind, track_text_of}
use Rattle.area.specs.declared.text_places.TextPlace.{TextPlace}
use Rattle.area.specs.declared.track_text.TrackText.{TrackText}
use Rattle.area.specs.declared.warning.WarningCode.TheVariants.{TrackTextOffsetInvalid}

module _ (table : List ℕ) where
  -- a text is told by the bytes of its string
  pub placed_text_lem : (place : ℕ) (bytes : List ℕ) → bytes ≡ string_at table place
      → ◌≡◌ {A = TextPlace} (record { place = place; end = end_by (length table) place (length bytes) }) (placed_text table place)
  unfolding placed_text
  placed_text_lem place bytes e = λ i. record { place = place; end = end_of_lem table place bytes e i }

  -- ---- a text of a record is absent, without place and end, or it is present at its place, and says how its string ended
  abbrev pub Told : TextPlace → Type 0
  Told t = (t ≡ no_text_place) ⊎ ((0 < t.place) × ((0 < length (string_at table t.place)) × (t.end ≡ end_of table t.place)))

  abbrev pub AllTold : List TextPlace → Type 0
  AllTold texts = (t : TextPlace) → Memᴰ t texts → Told t

  offset_told : (at : ℕ) → Told (text_place_at table at)
  unfolding text_place_at is_absent placed_text
  offset_told at = go (eqb offset 0) refl (present (string_at table offset)) refl
    where
      offset : ℕ
      offset = be_at table at 2

      go : (a : Bool) → eqb offset 0 ≡ a → (b : Bool) → present (string_at table offset) ≡ b
          → Told (cond (a || not b) no_text_place (record { place = offset; end = end_of table offset }))
      go true z b e = inl refl
      go false z false e = inl refl
      go false z true e =
          let n = eqb-false offset 0 z in
          inr (omega arith, (ltb-true 0 (length (string_at table offset)) (sym (present_length (string_at table offset)) ∙ e), refl))

  -- those whose offsets stand one behind another
  pub offsets_told : (n from : ℕ) → AllTold (tabulate n (λ item. text_place_at table (from + 2 * item)))
  offsets_told n from t m =
      let found = tabulate_member n (λ item. text_place_at table (from + 2 * item)) m in subst Told (sym found.1.1) (offset_told (from + 2 * found.0))

  pub none_told : (n : ℕ) → AllTold (replicate n no_text_place)
  none_told zero t m = absurd (Memᴰ.not-nil m)
  none_told (suc n) t m = ⊎_elim inl (none_told n t) (Memᴰ.cases_cons m)

  pub area_told : AllTold (area_texts_at table)
  unfolding area_texts_at
  area_told = offsets_told area_texts area_texts_offset

  -- ---- .. of a track: what the walk keeps
  set_told : (texts : List TextPlace) (k : ℕ) (new : TextPlace) → Told new → AllTold texts → AllTold (set texts k new)
  set_told [] k new is told t m = told t m
  set_told (x ∷ xs) zero new is told t m = ⊎_elim (λ e. subst Told (sym e) is) (λ l. told t (Memᴰ.tail l)) (Memᴰ.cases_cons m)
  set_told (x ∷ xs) (suc k) new is told t m =
      ⊎_elim (λ e. told t (Memᴰ.head e)) (set_told xs k new is (λ u l. told u (Memᴰ.tail l)) t) (Memᴰ.cases_cons m)

  keep_at_told : (index : Option ℕ) (new : TextPlace) (before : TrackText) → Told new → AllTold before.places → AllTold (keep_at index new before).places
  unfolding keep_at
  keep_at_told (Some k) new before is told = set_told before.places k new is told
  keep_at_told None new before is told = told

  keep_told : (at : ℕ) (before : TrackText) → AllTold before.places → AllTold (keep table (item_at table at) before).places
  unfolding keep item_at placed_text
  keep_told at before told = go (eqb n 0) refl
    where
      n : ℕ
      n = length (string_at table (at + 2))

      new : TextPlace
      new = record { place = at + 2; end = end_of table (at + 2) }

      go : (empty : Bool) → eqb n 0 ≡ empty → AllTold (cond empty before (keep_at (item_index (be_at table at 1)) new before)).places
      go true z = told
      go false z = keep_at_told _ new before (let some = eqb-false n 0 z in inr (omega arith, (omega arith, refl))) told

  items_told : (left at : ℕ) (before : TrackText) → AllTold before.places → AllTold (keep_all table (items_from table at left) before).places
  unfolding keep_all items_from
  items_told zero at before told = told
  items_told (suc left) at before told =
      go (leb (at + 2) (length table)) (ltb (next_item table at) (length table)) (items_told left (next_item table at) kept (keep_told at before told))
    where
      kept : TrackText
      kept = keep table (item_at table at) before

      go : (two more : Bool) → AllTold (keep_all table (items_from table (next_item table at) left) kept).places
          → AllTold (keep_all table (cond two (item_at table at ∷ cond more (items_from table (next_item table at) left) []) []) before).places
      go true true later = later
      go true false later = keep_told at before told
      go false more later = told

  pub track_told : (block i : ℕ) → AllTold (track_text_of table block i).places
  unfolding track_text_of text_behind text_at no_text items_kept no_places
  track_told block i =
      let offset = text_offset table block i in let count = be_at table (block + offset) 1 in let at = block + offset + 4 in
      go (eqb block 0) (eqb offset 0) (ltb (length table) at) (items_kept table at count) (items_told count at no_items (none_told track_texts))
    where
      go : (none silent cut : Bool) (kept : TrackText) → AllTold kept.places
          → AllTold (cond none (no_text None) (cond silent (no_text None) (cond cut (no_text (Some TrackTextOffsetInvalid)) kept))).places
      go true silent cut kept told = none_told track_texts
      go false true cut kept told = none_told track_texts
      go false false true kept told = none_told track_texts
      go false false false kept told = told

  -- ---- one is unterminated exactly if one ended by 4,096 bytes or with the table
  abbrev pub Unterminated : TextPlace → Type 0
  Unterminated t = (t.end ≡ ended_byMax_bytes) ⊎ (t.end ≡ ended_byTable_end)

  unterminated_passes : (t : TextPlace) → Unterminated t → is_unterminated t ≡ true
  unfolding is_unterminated
  unterminated_passes t (inl e) = rw e refl
  unterminated_passes t (inr e) = rw e refl

  passes_unterminated : (t : TextPlace) → Told t → is_unterminated t ≡ true → Unterminated t
  unfolding is_unterminated
  passes_unterminated t (inl e) u = absurd (false≢true (sym (ap is_unterminated e) ∙ u))
  passes_unterminated t (inr told) u =
      by_end table t.place (λ end. t.end ≡ end → Unterminated t) (λ max e. inl e)
      (λ few inside zero e. absurd (false≢true (sym (ap (λ (n : ℕ). not (eqb n 0) && not (eqb n 1)) e) ∙ u))) (λ few past e. inr e) told.1.1

  pub any_comes : (texts : List TextPlace) (t : TextPlace) → Memᴰ t texts → Unterminated t → any_unterminated texts ≡ true
  unfolding any_unterminated
  any_comes [] t m u = absurd (Memᴰ.not-nil m)
  any_comes (x ∷ xs) t m u =
      ⊎_elim (λ e. ap (λ (b : Bool). b || any_unterminated xs) (sym (ap is_unterminated e) ∙ unterminated_passes t u))
      (λ l. ap (λ (b : Bool). is_unterminated x || b) (any_comes xs t l u) ∙ or-true (is_unterminated x)) (Memᴰ.cases_cons m)

  pub any_only : (texts : List TextPlace) → AllTold texts → any_unterminated texts ≡ true → (t : TextPlace) × (Memᴰ t texts × Unterminated t)
  unfolding any_unterminated
  any_only [] told e = absurd (false≢true e)
  any_only (x ∷ xs) told e = go (is_unterminated x) refl (any_only xs (λ t l. told t (Memᴰ.tail l))) e
    where
      go : (b : Bool) → is_unterminated x ≡ b → (any_unterminated xs ≡ true → (t : TextPlace) × (Memᴰ t xs × Unterminated t))
          → (b || any_unterminated xs) ≡ true → (t : TextPlace) × (Memᴰ t (x ∷ xs) × Unterminated t)
      go true u later q = (x, (Memᴰ.head refl, passes_unterminated x (told x (Memᴰ.head refl)) u))
      go false u later q = let found = later q in (found.0, (Memᴰ.tail found.1.0, found.1.1))
