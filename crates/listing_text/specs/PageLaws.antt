-- Every listing fits the page: a line of so many fields of so many digits at most, as many lines as a table has locales, tracks and warnings.
-- Assumes nothing.
use Rattle.std.specs.Prelude.{ℕ, zero, suc, ◌+◌, ◌*◌, ◌/◌, ◌≤◌, ◌<◌, Bool, true, false, ◌||◌, ◌≡◌, refl, ltb, length, get_or, take}
use Rattle.std.proofs.Math.Decide.{ℕ_discrete}
use Rattle.std.proofs.Common.{zero-add, arith, ⊎_elim, ap, ◌∙◌, ltb-true, ltb-false, length-append, length-take}
use mathlib.Core.List.Memᴰ
use mathlib.Core.List.{List, [], ◌∷◌, flat_map, Memᴰ}
use Rattle.std.proofs.lemmas.List.Edits.{sets}
use Rattle.sectors.specs.Fill.{fill}
use Rattle.sectors.specs.FillLaws.{length_fill, sets_fill}
use Rattle.area.proofs.BoundLaws.{SmallLocale, SmallTrack, SmallWarning, Bounds, kept_bounded}
use Rattle.area.specs.Lent.{counted}
use Rattle.area.specs.LentLaws.{counted_all, counted_within}
use Rattle.area.specs.Limits.{max_tracks}
use Rattle.area.specs.Lone.{is_odd_table, lone_of, lone_slot, lone_sectors, table_words, reads}
use Rattle.area.proofs.LoneLaws.{lone_room, lone_reads}
use Rattle.area.specs.Refusal.{no_audio_areas, odd_table}
use Rattle.area.specs.Skip.{skip_of}
use Rattle.area.specs.Table.{area_at}
use Rattle.area.proofs.TableLaws.{flat_few, head_skips, area_yields}
use Rattle.area.specs.TestLaws.{or_left, or_right}
use Rattle.area.specs.declared.area.Area.{Area}
use Rattle.area.specs.declared.locale.Locale.{Locale}
use Rattle.area.specs.declared.track.Track.{Track}
use Rattle.area.specs.declared.warning.Warning.{Warning}
use Rattle.listing_text.specs.Decimal.{decimal}
use Rattle.listing_text.specs.DecimalLaws.{decimal_digit, decimal_more}
use Rattle.listing_text.specs.Line.{next_field, line_of, word_line}
use Rattle.listing_text.specs.LineLaws.{line_of_three, line_of_five}
use Rattle.listing_text.specs.Listing.{locales_word, tracks_word, warnings_word, refused_word, section, locale_line, track_line, warning_line, locales_of, sections_of, refused_line, max_listed, listing_of}
use Rattle.listing_text.specs.ListingLaws.{listing_odd, listing_skipped, listing_yielded}

-- the bytes of a page that has room for every listing
abbrev pub listing_page : ℕ
listing_page = 32768

-- ---- digits

-- 10, 100, 1,000, ..: the least number of so many digits and two
tens : ℕ → ℕ
tens zero = 10
tens (suc k) = 10 * tens k

digits : (k n : ℕ) → n < tens k → length (decimal n) ≤ suc k
unfolding tens
digits zero n h = rw (decimal_digit n h) (omega arith)
digits (suc k) n h = go (ltb n 10) refl (digits k (n / 10) (omega arith))
  where
    go : (t : Bool) → ltb n 10 ≡ t → length (decimal (n / 10)) ≤ suc k → length (decimal n) ≤ suc (suc k)
    go true e more = rw (decimal_digit n (ltb-true n 10 e)) (omega arith)
    go false e more = rw (decimal_more n (ltb-false n 10 e), length-append) (omega arith)

-- ---- lines

three_fields : (a b c : ℕ) → length (line_of (a ∷ b ∷ c ∷ [])) ≡ length (decimal a) + length (decimal b) + length (decimal c) + 3
unfolding next_field
three_fields a b c = rw (line_of_three a b c) (simp length-append (omega arith))

five_fields : (a b c d e : ℕ)
    → length (line_of (a ∷ b ∷ c ∷ d ∷ e ∷ [])) ≡ length (decimal a) + length (decimal b) + length (decimal c) + length (decimal d) + length (decimal e) + 5
unfolding next_field
five_fields a b c d e = rw (line_of_five a b c d e) (simp length-append (omega arith))

word_length : (word : List ℕ) (n : ℕ) → length (word_line word n) ≡ length word + length (decimal n) + 2
unfolding word_line next_field
word_length word n = simp length-append (omega arith)

locale_length : (l : Locale) → SmallLocale l → length (locale_line l) ≤ 12
unfolding locale_line tens
locale_length l small =
    let a = get_or l.language_code 0 0 in let b = get_or l.language_code 1 0 in let c = l.charset in
    omega (arith, three_fields a b c, digits 2 a (omega arith), digits 2 b (omega arith), digits 2 c (omega arith))

track_length : (t : Track) → SmallTrack t → length (track_line t) ≤ 42
unfolding track_line tens
track_length t small =
    let a = t.number in let b = t.start_lsn.0 in let c = t.length_sectors in
    let d = t.times.start_frame.0 in let e = t.times.duration_frames.0 in
    omega (arith, five_fields a b c d e, digits 2 a (omega arith), digits 9 b (omega arith), digits 9 c (omega arith), digits 6 d (omega arith), digits 6 e (omega arith))

warning_length : (w : Warning) → SmallWarning lone_slot w → length (warning_line w) ≤ 9
unfolding warning_line tens
warning_length w small =
    omega (arith, three_fields w.code w.slot w.track, digits 1 w.code (omega arith), digits 0 w.slot (omega arith), digits 2 w.track (omega arith))

-- ---- sections

module _ {A : Type 0} where
  -- what is taken of a list is of it
  taken : (n : ℕ) (xs : List A) {x : A} → Memᴰ x (take n xs) → Memᴰ x xs
  taken zero xs m = absurd (Memᴰ.not-nil m)
  taken (suc n) [] m = m
  taken (suc n) (y ∷ ys) m = ⊎_elim (λ e. Memᴰ.head e) (λ later. Memᴰ.tail (taken n ys later)) (Memᴰ.cases_cons m)

  section_length : (word : List ℕ) (line : A → List ℕ) (k : ℕ) (xs : List A) → length xs < 10000 → ((x : A) → Memᴰ x xs → length (line x) ≤ k)
      → length (section word line xs) ≤ length word + 6 + length xs * k
  unfolding section tens
  section_length word line k xs few each =
      rw (length-append (word_line word (length xs)) (flat_map line xs))
      (omega (arith, word_length word (length xs), digits 3 (length xs) few, flat_few line k xs each))

sections_length : (area : Area) (tracks : List Track) (warnings : List Warning) → Bounds lone_slot area tracks warnings → length (sections_of area tracks warnings) ≤ listing_page
unfolding sections_of locales_of
sections_length area tracks warnings b =
    let taken-few = length-take area.locale_count area.locales in
    let ten-few = b.few_locales in let few = b.few_tracks in let most = b.few_warnings in
    let locales = take area.locale_count area.locales in
    let first = section_length locales_word locale_line 12 locales (omega arith) (λ l m. locale_length l (b.small_locales l (taken area.locale_count area.locales m))) in
    let second = section_length tracks_word track_line 42 tracks (omega arith) (λ t m. track_length t (b.small_tracks t m)) in
    let third = section_length warnings_word warning_line 9 warnings (omega arith) (λ w m. warning_length w (b.small_warnings w m)) in
    simp length-append (omega arith)

refused_length : (number : ℕ) → number < 10 → length (refused_line number) ≤ listing_page
unfolding refused_line tens
refused_length number small = omega (arith, word_length refused_word number, digits 0 number small)

-- "reads a lone table of at most 65,536 bytes": the listing of any table of bytes fits
pub listing_fits : (table : List ℕ) → ((i : ℕ) → get_or table i 0 < 256) → length (listing_of table) ≤ listing_page
listing_fits table bytes = go (ltb max_listed (length table) || is_odd_table (length table)) refl
  where
    kept : length table ≤ max_listed → lone_of table max_tracks table_words ≡ reads (area_at table lone_slot 0 (lone_sectors table)) → Dec (skip_of table ≡ 0)
        → length (listing_of table) ≤ listing_page
    kept short e (yes k) =
        rw (listing_yielded table short _ _ _ (e ∙ ap reads (area_yields table lone_slot 0 (lone_sectors table) k)))
        (sections_length _ _ _ (kept_bounded table bytes lone_slot (lone_sectors table) 0 k))
    kept short e (no s) =
        rw (listing_skipped table short _ (e ∙ ap reads (head_skips table lone_slot 0 (lone_sectors table) s))) (refused_length no_audio_areas (omega arith))

    go : (t : Bool) → ltb max_listed (length table) || is_odd_table (length table) ≡ t → length (listing_of table) ≤ listing_page
    go true e = rw (listing_odd table e) (refused_length odd_table (omega arith))
    go false e =
        let sized = or_right (ltb max_listed (length table)) (is_odd_table (length table)) e in
        kept (ltb-false max_listed (length table) (or_left (ltb max_listed (length table)) (is_odd_table (length table)) e))
        (lone_reads table max_tracks table_words sized lone_room) (ℕ_discrete (skip_of table) 0)

-- what is written of it to a page, and how much is counted, where no more is written than fits: all
pub whole_listing : (table page : List ℕ) → ((i : ℕ) → get_or table i 0 < 256) → listing_page ≤ length page → {last : List ℕ} {end : ℕ}
    → (last ≡ sets page 0 (listing_of table)) × (end ≡ counted page 0 (listing_of table))
    → (last ≡ fill 0 (listing_of table) page) × ((end ≡ length (listing_of table)) × (end ≡ counted page 0 (listing_of table)))
whole_listing table page bytes size e =
    let fits = listing_fits table bytes in (
      e.0 ∙ sets_fill 0 (listing_of table) page (omega arith),
      (e.1 ∙ counted_all page 0 (listing_of table) (omega arith) ∙ zero-add (length (listing_of table)), e.1),
    )

-- so what is counted lies within what is left
pub listing_within : (table page : List ℕ) {last : List ℕ} {end : ℕ}
    → (last ≡ fill 0 (listing_of table) page) × ((end ≡ length (listing_of table)) × (end ≡ counted page 0 (listing_of table))) → end ≤ length last
listing_within table page e =
    let all = e.1.0 in let few = counted_within page 0 (listing_of table) (omega arith) in let counted_is = e.1.1 in
    let kept = ap length e.0 ∙ length_fill 0 (listing_of table) page (omega arith) in
    omega arith
