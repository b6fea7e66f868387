-- Laws of warnings: their words, whose they are, and which codes they have. Assumes nothing.
use Rattle.std.specs.Prelude.{◌≡◌, Bool, cond, not, ◌⊎◌, eqb, Option, None, Some, option_map, option_to_list}
use Rattle.std.proofs.Math.Path.{refl, subst}
use Rattle.std.proofs.Common.{sym, ap, ◌∙◌, inl, inr, ⊎_elim, arith, lt-ltb}
use Rattle.std.proofs.Math.Bool.{true, false}
use Rattle.std.proofs.lemmas.Bool.{false≢true}
use mathlib.Core.List.Memᴰ
use mathlib.Core.List.{List, [], ◌∷◌, ◌++◌, flat_map, Memᴰ}
use Prim.Native.Nat.{ℕ, ◌+◌, ◌*◌, ◌≤◌, ◌<◌, min}
use Rattle.area.specs.Tabulate.{tabulate}
use Rattle.area.specs.Lent.{when_true}
use Rattle.area.specs.Limits.{max_tracks}
use Rattle.area.specs.Area.{record_of}
use Rattle.area.specs.Chain.{chain_of}
use Rattle.area.specs.Skip.{skip_of}
use Rattle.area.proofs.SkipLaws.{SkipCode, skip_code}
use Rattle.area.specs.Warning.{number_of, word_of, area_signature_invalid, track_past_playtime, track_lsn_outside_area, sample_frequency_unknown, track_text_unterminated}
use Rattle.area.specs.TabulateLaws.{tabulate_member}
use Rattle.area.specs.TextPlaces.{any_unterminated}
use Rattle.area.proofs.TextPlaceLaws.{AllTold, track_told, Unterminated, any_comes, any_only}
use Rattle.area.specs.Table.{of_slot, dsd64, frequency_warnings, head_warnings, of_track, text_warnings, track_warnings, reads_of, tracks_warnings, yield_of, table_of, warnings_of, track_count, read_in, warnings_in}
use Rattle.area.proofs.TableLaws.{by_skip, warnings_in_lem}
use Rattle.area.specs.Track.{track_of}
use Rattle.area.proofs.TrackLaws.{TextCode, TextCoded, text_code, track_number}
use Rattle.area.specs.declared.area.Area.{Area}
use Rattle.area.specs.declared.chain.Chain.{Chain}
use Rattle.area.specs.declared.table.TableHead.{TableHead}
use Rattle.area.specs.declared.text_places.TextPlace.{TextPlace}
use Rattle.area.specs.declared.track.TrackRead.{TrackRead}
use Rattle.area.specs.declared.warning.Warning.{Warning}
use Rattle.area.specs.declared.warning.WarningCode.{WarningCode}

pub word_value : (w : Warning) → word_of w ≡ w.code * 65536 + w.slot * 256 + w.track
unfolding word_of
word_value w = refl

-- a warning of a slot is of no track
pub of_slot_lem : (code slot : ℕ) → of_slot code slot ≡ record { code = code; slot = slot; track = 0 }
unfolding of_slot
of_slot_lem code slot = refl

-- an entry of a list of at most one
module _ {A : Type 0} (w : A) where
  pub in_one : (x : A) → Memᴰ w (x ∷ []) → w ≡ x
  in_one x m = only (Memᴰ.cases_cons m)
    where
      only : (w ≡ x) ⊎ Memᴰ w [] → w ≡ x
      only (inl e) = e
      only (inr h) = absurd (Memᴰ.not-nil h)

  pub in_when : (t : Bool) (x : A) → Memᴰ w (when_true t x) → w ≡ x
  unfolding when_true
  in_when true x m = in_one x m
  in_when false x m = absurd (Memᴰ.not-nil m)

  when_in : (t : Bool) → t ≡ true → Memᴰ w (when_true t w)
  unfolding when_true
  when_in true e = Memᴰ.head refl
  when_in false e = absurd (false≢true e)

  when_passed : (t : Bool) (x : A) → Memᴰ w (when_true t x) → t ≡ true
  unfolding when_true
  when_passed true x m = refl
  when_passed false x m = absurd (Memᴰ.not-nil m)

-- a head's warnings are of its slot and of no track
pub head_warnings_of : (slot : ℕ) (head : TableHead) (w : Warning) → Memᴰ w (head_warnings slot head) → (w.slot ≡ slot) × (w.track ≡ 0)
unfolding head_warnings frequency_warnings of_slot
head_warnings_of slot head w m = go (eqb head.skip 0) m
  where
    told : (code : ℕ) → w ≡ of_slot code slot → (w.slot ≡ slot) × (w.track ≡ 0)
    told code e = (ap (λ (x : Warning). x.slot) e, ap (λ (x : Warning). x.track) e)

    go : (t : Bool) → Memᴰ w (cond t (frequency_warnings slot head.area) (of_slot head.skip slot ∷ [])) → (w.slot ≡ slot) × (w.track ≡ 0)
    go true h = told sample_frequency_unknown (in_when w (not (eqb head.area.sample_frequency_code dsd64)) (of_slot sample_frequency_unknown slot) h)
    go false h = told head.skip (in_one w (of_slot head.skip slot) h)

-- an entry of the warnings of a track's text
pub in_text : (w : Warning) (slot : ℕ) (read : TrackRead) → Memᴰ w (text_warnings slot read)
    → (code : WarningCode) × ((read.text_warning ≡ Some code) × (w ≡ of_track (number_of code) slot read))
unfolding text_warnings
in_text w slot read = go read.text_warning refl
  where
    go : (o : Option WarningCode) → read.text_warning ≡ o → Memᴰ w (option_to_list (option_map (λ (code : WarningCode). of_track (number_of code) slot read) o))
        → (code : WarningCode) × ((read.text_warning ≡ Some code) × (w ≡ of_track (number_of code) slot read))
    go (Some code) e m = (code, (e, in_one w (of_track (number_of code) slot read) m))
    go None e m = absurd (Memᴰ.not-nil m)

-- What holds of each warning that a track may have holds of all that it has: 14, 15, that of its text, and 19.
each_of_track : (P : Warning → Type 0) (slot : ℕ) (read : TrackRead) → P (of_track track_past_playtime slot read) → P (of_track track_lsn_outside_area slot read)
    → ((code : WarningCode) → read.text_warning ≡ Some code → P (of_track (number_of code) slot read))
    → (any_unterminated read.track.text ≡ true → P (of_track track_text_unterminated slot read)) → (w : Warning) → Memᴰ w (track_warnings slot read) → P w
unfolding track_warnings
each_of_track P slot read is-past is-outside is-text is-unterminated w m = four (Memᴰ.append_cases (past ++ outside ++ text) m)
  where
    past : List Warning
    past = when_true read.past_playtime (of_track track_past_playtime slot read)

    outside : List Warning
    outside = when_true read.outside_area (of_track track_lsn_outside_area slot read)

    text : List Warning
    text = text_warnings slot read

    two : Memᴰ w past ⊎ Memᴰ w outside → P w
    two (inl h) = subst P (sym (in_when w read.past_playtime (of_track track_past_playtime slot read) h)) is-past
    two (inr h) = subst P (sym (in_when w read.outside_area (of_track track_lsn_outside_area slot read) h)) is-outside

    three : Memᴰ w (past ++ outside) ⊎ Memᴰ w text → P w
    three (inl h) = two (Memᴰ.append_cases past h)
    three (inr h) = let found = in_text w slot read h in subst P (sym found.1.1) (is-text found.0 found.1.0)

    four : Memᴰ w (past ++ outside ++ text) ⊎ Memᴰ w (when_true (any_unterminated read.track.text) (of_track track_text_unterminated slot read)) → P w
    four (inl h) = three (Memᴰ.append_cases (past ++ outside) h)
    four (inr h) =
        let any = any_unterminated read.track.text in let nineteen = of_track track_text_unterminated slot read in
        subst P (sym (in_when w any nineteen h)) (is-unterminated (when_passed w any nineteen h))

-- they are of its slot and of its number
pub track_warnings_of : (slot : ℕ) (read : TrackRead) (w : Warning) → Memᴰ w (track_warnings slot read)
    → (w.slot ≡ slot) × (w.track ≡ read.track.number)
unfolding of_track
track_warnings_of slot read =
    each_of_track (λ w. (w.slot ≡ slot) × (w.track ≡ read.track.number)) slot read (refl, refl) (refl, refl) (λ code some. (refl, refl)) (λ any. (refl, refl))

-- ---- 19 is among them exactly if a text of the track's record ended by 4,096 bytes or with its table
module _ (table : List ℕ) (area : Area) (chain : Chain) (i slot : ℕ) where
  abbrev its_read : TrackRead
  its_read = track_of table area chain i

  its_texts_told : AllTold table its_read.track.text
  unfolding track_of
  its_texts_told = track_told table chain.ttxt i

  pub nineteen_comes : (t : TextPlace) → Memᴰ t (track_of table area chain i).track.text → Unterminated table t
      → Memᴰ (of_track track_text_unterminated slot (track_of table area chain i)) (track_warnings slot (track_of table area chain i))
  unfolding track_warnings
  nineteen_comes t m u =
      Memᴰ.append_right (when_true its_read.past_playtime (of_track track_past_playtime slot its_read)
      ++ when_true its_read.outside_area (of_track track_lsn_outside_area slot its_read) ++ text_warnings slot its_read)
      (when_in (of_track track_text_unterminated slot its_read) (any_unterminated its_read.track.text) (any_comes table its_read.track.text t m u))

  pub nineteen_only : (w : Warning) → Memᴰ w (track_warnings slot (track_of table area chain i)) → w.code ≡ track_text_unterminated
      → (t : TextPlace) × (Memᴰ t (track_of table area chain i).track.text × Unterminated table t)
  unfolding of_track
  nineteen_only w m e = any_only table its_read.track.text its_texts_told (passed w m e)
    where
      not_text : (n : ℕ) → TextCode n → n ≡ track_text_unterminated → ⊥
      not_text n (inl q) e = omega (arith, q, e)
      not_text n (inr q) e = omega (arith, q, e)

      passed : (w : Warning) → Memᴰ w (track_warnings slot its_read) → w.code ≡ track_text_unterminated → any_unterminated its_read.track.text ≡ true
      passed =
          each_of_track (λ w. w.code ≡ track_text_unterminated → any_unterminated its_read.track.text ≡ true) slot its_read (λ e. absurd (omega (arith, e)))
          (λ e. absurd (omega (arith, e))) (λ code some e. absurd (not_text (number_of code) (text_code table area chain i code some) e)) (λ any e. any)

-- ---- an entry of a list of lists
pub flat_member : {A B : Type 0} (f : A → List B) (xs : List A) {y : B} → Memᴰ y (flat_map f xs) → (x : A) × (Memᴰ x xs × Memᴰ y (f x))
unfolding flat_map
flat_member f [] m = absurd (Memᴰ.not-nil m)
flat_member f (x ∷ xs) m =
    ⊎_elim (λ here. (x, (Memᴰ.head refl, here))) (λ later. let found = flat_member f xs later in (found.0, (Memᴰ.tail found.1.0, found.1.1)))
    (Memᴰ.append_cases (f x) m)

-- tracks are numbered from 1
pub read_number : (lent : List ℕ) (head : TableHead) (i : ℕ) → i < track_count head → (read_in lent head i).track.number ≡ i + 1
unfolding read_in track_of
read_number lent head i below = simp (lt-ltb i (track_count head) below)

-- the warnings of a head's tracks are of its slot, and of a track that it has
pub warnings_in_of : (lent : List ℕ) (head : TableHead) (w : Warning) → Memᴰ w (warnings_in lent head)
    → (w.slot ≡ head.area.origin.slot) × (w.track ≤ track_count head)
warnings_in_of lent head w m =
    let reads = tabulate (track_count head) (read_in lent head) in
    let found = flat_member (track_warnings head.area.origin.slot) reads (subst (Memᴰ w) (warnings_in_lem lent head) m) in
    let its = track_warnings_of head.area.origin.slot found.0 w found.1.1 in
    let entry = tabulate_member (track_count head) (read_in lent head) found.1.0 in
    let number = its.1 ∙ ap (λ (read : TrackRead). read.track.number) entry.1.1 ∙ read_number lent head entry.0 entry.1.0 in
    let below = entry.1.0 in (its.0, omega (arith, number))

-- ---- which codes the warnings of a table have: 8 to 15, 18 and 19
abbrev pub TableCode : ℕ → Type 0
TableCode n = ((area_signature_invalid ≤ n) × (n ≤ track_lsn_outside_area)) ⊎ ((n ≡ sample_frequency_unknown) ⊎ (n ≡ track_text_unterminated))

text_coded : (n : ℕ) → TextCode n → TableCode n
text_coded n (inl e) = inl (omega (arith, e), omega (arith, e))
text_coded n (inr e) = inl (omega (arith, e), omega (arith, e))

skip_coded : (n : ℕ) → SkipCode n → (n ≡ 0 → ⊥) → TableCode n
skip_coded n (inl e) some = absurd (some e)
skip_coded n (inr (inl e)) some = inl (omega (arith, e), omega (arith, e))
skip_coded n (inr (inr (inl e))) some = inl (omega (arith, e), omega (arith, e))
skip_coded n (inr (inr (inr (inl e)))) some = inl (omega (arith, e), omega (arith, e))
skip_coded n (inr (inr (inr (inr e)))) some = inl (omega (arith, e), omega (arith, e))

track_coded : (slot : ℕ) (read : TrackRead) → TextCoded read.text_warning → (w : Warning) → Memᴰ w (track_warnings slot read) → TableCode w.code
unfolding of_track
track_coded slot read text =
    each_of_track (λ w. TableCode w.code) slot read (inl (omega arith, omega arith)) (inl (omega arith, omega arith)) (λ code some. text_coded (number_of code) (text code some))
    (λ any. inr (inr refl))

-- ---- What holds of the warning that skips a table, of that of its frequency, and of those of each track, holds of all its warnings.
module _ (table : List ℕ) (slot sectors : ℕ) where
  abbrev area : Area
  area = record_of table slot sectors

  abbrev read : ℕ → TrackRead
  read = track_of table area (chain_of table)

  each_of_table : (P : Warning → Type 0) → ((skip_of table ≡ 0 → ⊥) → P (of_slot (skip_of table) slot)) → P (of_slot sample_frequency_unknown slot)
      → ((k : ℕ) → k < max_tracks → (w : Warning) → Memᴰ w (track_warnings slot (read k)) → P w)
      → (w : Warning) → Memᴰ w (warnings_of (table_of table slot sectors)) → P w
  unfolding yield_of warnings_of frequency_warnings tracks_warnings reads_of
  each_of_table P is-skip is-frequency of-tracks w =
      by_skip table slot sectors (λ t. Memᴰ w (warnings_of t) → P w)
      (λ skipped m. subst P (sym (in_one w (of_slot (skip_of table) slot) m)) (is-skip skipped))
      (λ kept m. go (Memᴰ.append_cases (frequency_warnings slot area) m))
    where
      n : ℕ
      n = min area.track_count max_tracks

      go : Memᴰ w (frequency_warnings slot area) ⊎ Memᴰ w (flat_map (track_warnings slot) (tabulate n read)) → P w
      go (inl h) = subst P (sym (in_when w (not (eqb area.sample_frequency_code dsd64)) (of_slot sample_frequency_unknown slot) h)) is-frequency
      go (inr h) =
          let found = flat_member (track_warnings slot) (tabulate n read) h in let entry = tabulate_member n read found.1.0 in let below = entry.1.0 in
          of-tracks entry.0 (omega arith) w (subst (λ (r : TrackRead). Memᴰ w (track_warnings slot r)) entry.1.1 found.1.1)

  pub table_codes : (w : Warning) → Memᴰ w (warnings_of (table_of table slot sectors)) → TableCode w.code
  unfolding of_slot
  table_codes =
      each_of_table (λ w. TableCode w.code) (skip_coded (skip_of table) (skip_code table)) (inr (inl refl))
      (λ k below. track_coded slot (read k) (text_code table area (chain_of table) k))

  -- they are of its slot, and of a number up to 255 or of none
  pub table_warnings_of : (w : Warning) → Memᴰ w (warnings_of (table_of table slot sectors)) → (w.slot ≡ slot) × (w.track ≤ max_tracks)
  unfolding of_slot
  table_warnings_of =
      each_of_table (λ w. (w.slot ≡ slot) × (w.track ≤ max_tracks)) (λ some. (refl, omega arith)) (refl, omega arith) (λ k below w m.
      let its = track_warnings_of slot (read k) w m in (its.0, omega (arith, its.1, track_number table area (chain_of table) k)))
