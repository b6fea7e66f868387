-- "Either signature serves either slot.": of two tables that differ in their signatures alone, each one of the two, both are skipped, by the same
-- warning, or neither; and both give the same record but for the signature's number and the origin, the same tracks, and the same warnings but for
-- the slot, in whichever slot. Nothing but the signature is read before byte 8, and that a text begins there: no letter of either is zero.
-- Assumes nothing.
use Prim.Native.Nat.{ℕ, zero, suc, ◌+◌, ◌*◌, ◌≤◌, ◌<◌, min}
use Rattle.std.proofs.Common.{zero-add, arith, true≢false, inl, inr, sym, ◌∙◌, length-drop, ext_get_or, get_or-drop}
use Rattle.std.specs.Prelude.{Bool, cond, not, ◌&&◌, ◌≢◌, ◌⊎◌, ◌≡◌, leb, ltb, eqb, get_or, drop, Option, None, Some, option_map, option_to_list}
use Rattle.std.proofs.Math.Bool.{true, false, and-eq-true_iff}
use mathlib.Core.List.{List, [], ◌∷◌, ◌++◌, map, flat_map, map-append}
use Rattle.std.proofs.Math.Path.{refl, ap}
use borrow.Author.Tests.{eq-eqb, ne_eqb, eqb-false, ltb-true, ltb-false, not-true}
use Rattle.std.proofs.Math.ListN.{length}
use Rattle.sectors.specs.Fill.{part}
use Rattle.sectors.specs.FillLaws.{part_size, part_at}
use Rattle.sectors.specs.Format.{sector_size}
use Rattle.sectors.specs.Number.{be_at}
use Rattle.sectors.specs.NumberLaws.{be_ext}
use Rattle.sectors.specs.Signature.{signed_at}
use Rattle.sectors.proofs.SignatureLaws.{signed_here, signed_is}
use Rattle.text.specs.String.{nonzero, string_at, end_of}
use Rattle.text.proofs.StringLaws.{ne_nonzero, string_present, string_no_longer, zeros_same_end}
use Rattle.area.specs.Area.{two_channel_signature, multichannel_signature, two_channel, multichannel, kind_of, area_texts, area_texts_offset, area_texts_at, record_of, addressed}
use Rattle.area.specs.Chain.{track_text_signature, isrc_genre_signature, access_signature, track_list1_signature, track_list2_signature, structure_at, sectors_of, first_kept, noted, walk_from, nothing_kept, chain_of}
use Rattle.area.specs.Items.{Item, item_at, nonzero_at, next_item, items_from}
use Rattle.area.specs.Lent.{when_true}
use Rattle.area.specs.Limits.{max_tracks}
use Rattle.area.specs.Locale.{max_locales, locales_offset, code_at, locale_at, locale_or, locales_at}
use Rattle.area.specs.Skip.{is_malformed, skip_by, skip_of}
use Rattle.area.specs.Table.{Table, skips, of_slot, frequency_warnings, of_track, text_warnings, track_warnings, reads_of, tracks_of, tracks_warnings, yield_of, table_of, with_address, area_at, area_given, tracks_given, warnings_of}
use Rattle.area.specs.Tabulate.{tabulate}
use Rattle.area.specs.TabulateLaws.{tabulate_ext}
use Rattle.area.specs.Timecode.{timecode_at}
use Rattle.area.specs.Track.{stored_times, genre_at, isrc_field, isrc_genre_at, track_of}
use Rattle.area.specs.TextPlaces.{is_absent, placed_text, text_place_at}
use Rattle.area.specs.TrackText.{no_items, keep, keep_all, items_kept, text_offset, text_at, text_behind, track_text_of}
use Rattle.area.specs.Units.{lsn_at}
use Rattle.area.specs.declared.area.Area.{Area}
use Rattle.area.specs.declared.chain.Chain.{Chain}
use Rattle.area.specs.declared.chain.Structure.{Structure}
use Rattle.area.specs.declared.chain.Structure.TheVariants.{TrackText, IsrcGenre, Access, TrackList1, TrackList2}
use Rattle.area.specs.declared.track.TrackRead.{TrackRead}
use Rattle.area.specs.declared.track_text.TrackText.{TrackText as KeptTexts}
use Rattle.area.specs.Warning.{number_of}
use Rattle.area.specs.declared.warning.Warning.{Warning}
use Rattle.area.specs.declared.warning.WarningCode.{WarningCode}

-- two tables that differ in their first eight bytes at most
pub record SameBehind (s t : List ℕ) : Type 0 where
  pub same_length : length s ≡ length t
  pub same_bytes : (i : ℕ) → 8 ≤ i → get_or s i 0 ≡ get_or t i 0

-- a record without the signature's number and the origin
unfoldable pub bare_area : Area → Area
bare_area a = record a { origin = record { slot = 0; toc_lsn = record { 0 = 0 }; toc_sectors = 0 }; kind = 0 }

-- a warning without its slot
unfoldable pub bare_warning : Warning → Warning
bare_warning w = record w { slot = 0 }

-- ---- without their slot, warnings are those of slot 0

bare_when : (b : Bool) (w : Warning) → map bare_warning (when_true b w) ≡ when_true b (bare_warning w)
unfolding when_true
bare_when true w = refl
bare_when false w = refl

bare_text : (slot : ℕ) (read : TrackRead) → map bare_warning (text_warnings slot read) ≡ text_warnings 0 read
unfolding text_warnings of_track bare_warning
bare_text slot read = go read.text_warning
  where
    go : (o : Option WarningCode) → map bare_warning (option_to_list (option_map (λ (code : WarningCode). of_track (number_of code) slot read) o))
        ≡ option_to_list (option_map (λ (code : WarningCode). of_track (number_of code) 0 read) o)
    go (Some code) = refl
    go None = refl

bare_track : (slot : ℕ) (read : TrackRead) → map bare_warning (track_warnings slot read) ≡ track_warnings 0 read
unfolding track_warnings of_track bare_warning
bare_track slot read = simp (map-append, bare_when, bare_text)

bare_tracks : (slot : ℕ) (reads : List TrackRead) → map bare_warning (tracks_warnings slot reads) ≡ tracks_warnings 0 reads
unfolding tracks_warnings flat_map
bare_tracks slot [] = refl
bare_tracks slot (read ∷ reads) =
    map-append bare_warning (track_warnings slot read) (flat_map (track_warnings slot) reads) ∙ rw (bare_track slot read, bare_tracks slot reads)

bare_frequency : (slot : ℕ) (a : Area) → map bare_warning (frequency_warnings slot a) ≡ frequency_warnings 0 a
unfolding frequency_warnings of_slot bare_warning
bare_frequency slot a = bare_when _ _

bare_all : (slot : ℕ) (a : Area) (reads : List TrackRead)
    → map bare_warning (frequency_warnings slot a ++ tracks_warnings slot reads) ≡ frequency_warnings 0 a ++ tracks_warnings 0 reads
bare_all slot a reads =
    map-append bare_warning (frequency_warnings slot a) (tracks_warnings slot reads) ∙ rw (bare_frequency slot a, bare_tracks slot reads)

-- ---- no letter of a signature is zero

has_no_zero : List ℕ → Bool
has_no_zero [] = true
has_no_zero (x ∷ l) = not (eqb x 0) && has_no_zero l

no_zero : (l : List ℕ) → has_no_zero l ≡ true → (i : ℕ) → i < length l → get_or l i 0 ≢ 0
unfolding has_no_zero
no_zero [] e i h = absurd (omega arith)
no_zero (x ∷ l) e zero h = eqb-false x 0 (not-true (eqb x 0) ((and-eq-true_iff (not (eqb x 0)) (has_no_zero l)).0 e).0)
no_zero (x ∷ l) e (suc i) h = no_zero l ((and-eq-true_iff (not (eqb x 0)) (has_no_zero l)).0 e).1 i (omega arith)

signed_letter : (table signature : List ℕ) → has_no_zero signature ≡ true → signed_at table 0 signature ≡ true
    → (i : ℕ) → i < length signature → get_or table i 0 ≢ 0
signed_letter table signature all here i h z =
    no_zero signature all i h
    (ap (λ (l : List ℕ). get_or l i 0) (sym (signed_is table 0 signature here)) ∙ part_at 0 (length signature) table i 0 h ∙ ap (λ (p : ℕ). get_or table p 0) (zero-add i) ∙ z)

letter : (table : List ℕ) → kind_of table ≢ 0 → (i : ℕ) → i < 8 → get_or table i 0 ≢ 0
unfolding kind_of has_no_zero
letter table signed i h = go (signed_at table 0 two_channel_signature) (signed_at table 0 multichannel_signature) refl refl signed
  where
    go : (two multi : Bool) → signed_at table 0 two_channel_signature ≡ two → signed_at table 0 multichannel_signature ≡ multi
        → cond two two_channel (cond multi multichannel 0) ≢ 0 → get_or table i 0 ≢ 0
    go true multi p q n = signed_letter table two_channel_signature refl p i h
    go false true p q n = signed_letter table multichannel_signature refl q i h
    go false false p q n = absurd (n refl)

turned : (s t : List ℕ) → SameBehind s t → SameBehind t s
turned s t same = record { same_length = sym same.same_length; same_bytes = λ i h. sym (same.same_bytes i h) }

-- no string behind the signature is shorter in one of them
no_shorter : (s t : List ℕ) → SameBehind s t → (at : ℕ) → 8 ≤ at → length (string_at t at) ≤ length (string_at s at)
no_shorter s t same at behind =
    string_no_longer s t at same.same_length (λ i from z. sym (same.same_bytes i (omega arith)) ∙ z)

-- a place at which no structure begins, or one behind the signature
abbrev Behind : ℕ → Type 0
Behind place = (place ≡ 0) ⊎ (8 ≤ place)

first_behind : (old at : ℕ) → 8 ≤ at → Behind old → Behind (first_kept old at)
unfolding first_kept
first_behind old at h (inl z) = rw (eq-eqb old 0 z) (inr h)
first_behind old at h (inr b) = rw (ne_eqb old 0 (omega arith)) (inr b)

noted_behind : (structure : Structure) (at : ℕ) (c : Chain) → 8 ≤ at → Behind c.ttxt → Behind (noted structure at c).ttxt
unfolding noted
noted_behind TrackText at c h b = first_behind c.ttxt at h b
noted_behind IsrcGenre at c h b = b
noted_behind Access at c h b = b
noted_behind TrackList1 at c h b = b
noted_behind TrackList2 at c h b = b

walk_behind : (more : ℕ) (table : List ℕ) (at : ℕ) (c : Chain) → 8 ≤ at → Behind c.ttxt → Behind (walk_from more table at c).ttxt
unfolding walk_from
walk_behind zero table at c h b = b
walk_behind (suc more) table at c h b =
    go (leb (at + 8) (length table)) (structure_at table at)
    (λ s. walk_behind more table (at + sectors_of s * sector_size) (noted s at c) (omega arith) (noted_behind s at c h b))
  where
    go : (fits : Bool) (o : Option Structure) → ((s : Structure) → Behind (walk_from more table (at + sectors_of s * sector_size) (noted s at c)).ttxt)
        → Behind (cond fits (elim o [ None ↦ c | Some s ↦ walk_from more table (at + sectors_of s * sector_size) (noted s at c) ]) c).ttxt
    go false o further = b
    go true None further = b
    go true (Some s) further = further s

text_behind_lem : (table : List ℕ) → Behind (chain_of table).ttxt
unfolding chain_of nothing_kept
text_behind_lem table = walk_behind _ table sector_size nothing_kept (omega arith) (inl refl)

module _ (s t : List ℕ) (same : SameBehind s t) where
  -- ---- behind the signature everything is the same: numbers, parts, signatures, strings

  number : (at width : ℕ) → 8 ≤ at → be_at s at width ≡ be_at t at width
  number at width h = be_ext width s t at at (λ i q. same.same_bytes (at + i) (omega arith))

  section : (at n : ℕ) → 8 ≤ at → part at n s ≡ part at n t
  section at n h =
      let size-s = part_size at n s in let size-t = part_size at n t in let long = same.same_length in
      ext_get_or 0 (part at n s) (part at n t) (omega arith)
      (λ i q. part_at at n s i 0 (omega arith) ∙ same.same_bytes (at + i) (omega arith) ∙ sym (part_at at n t i 0 (omega arith)))

  rest : (at : ℕ) → 8 ≤ at → drop at s ≡ drop at t
  rest at h =
      let size-s = length-drop at s in let size-t = length-drop at t in let long = same.same_length in
      ext_get_or 0 (drop at s) (drop at t) (omega arith) (λ i q. get_or-drop at s i 0 ∙ same.same_bytes (at + i) (omega arith) ∙ sym (get_or-drop at t i 0))

  signed : (at : ℕ) (signature : List ℕ) → 8 ≤ at → signed_at s at signature ≡ signed_at t at signature
  signed at signature h = go (signed_at s at signature) (signed_at t at signature) refl refl
    where
      here : part at (length signature) s ≡ part at (length signature) t
      here = section at (length signature) h

      go : (a b : Bool) → signed_at s at signature ≡ a → signed_at t at signature ≡ b → a ≡ b
      go true true p q = refl
      go false false p q = refl
      go true false p q = absurd (true≢false (sym (signed_here t at signature (sym here ∙ signed_is s at signature p)) ∙ q))
      go false true p q = absurd (true≢false (sym (signed_here s at signature (here ∙ signed_is t at signature q)) ∙ p))

  string : (at : ℕ) → 8 ≤ at → length (string_at s at) ≡ length (string_at t at)
  string at h = omega (arith, no_shorter s t same at h, no_shorter t s (turned s t same) at h)

  -- ---- so are the walks

  structure : (at : ℕ) → 8 ≤ at → structure_at s at ≡ structure_at t at
  unfolding structure_at
  structure at h =
      rw (signed at track_text_signature h, signed at isrc_genre_signature h, signed at access_signature h, signed at track_list1_signature h, signed at track_list2_signature h)

  walk : (more at : ℕ) (c : Chain) → 8 ≤ at → walk_from more s at c ≡ walk_from more t at c
  unfolding walk_from
  walk zero at c h = refl
  walk (suc more) at c h =
      rw (same.same_length, structure at h) (ap (λ (next : Chain). cond (leb (at + 8) (length t)) next c)
      (go (structure_at t at) (λ x. walk more (at + sectors_of x * sector_size) (noted x at c) (omega arith))))
    where
      go : (o : Option Structure)
          → ((x : Structure) → walk_from more s (at + sectors_of x * sector_size) (noted x at c) ≡ walk_from more t (at + sectors_of x * sector_size) (noted x at c))
          → ◌≡◌ {A = Chain} (elim o [ None ↦ c | Some x ↦ walk_from more s (at + sectors_of x * sector_size) (noted x at c) ])
          (elim o [ None ↦ c | Some x ↦ walk_from more t (at + sectors_of x * sector_size) (noted x at c) ])
      go None further = refl
      go (Some x) further = further x

  chain : chain_of s ≡ chain_of t
  unfolding chain_of
  chain = rw same.same_length (walk _ sector_size nothing_kept (omega arith))

  items : (left at : ℕ) → 8 ≤ at → items_from s at left ≡ items_from t at left
  unfolding items_from item_at next_item nonzero_at
  items zero at h = refl
  items (suc left) at h =
      rw (
        same.same_length,
        number at 1 h,
        string (at + 2) (omega arith),
        rest (at + 2 + length (string_at t (at + 2))) (omega arith),
        items left (next_item t at) (omega arith),
      )

  -- if every string ends in the same way, the same is kept of the items
  abbrev SameEnds : Type 0
  SameEnds = (place : ℕ) → end_of s place ≡ end_of t place

  kept : SameEnds → (all : List Item) (before : KeptTexts) → keep_all s all before ≡ keep_all t all before
  unfolding keep_all keep placed_text
  kept ends [] before = refl
  kept ends (item ∷ all) before = rw (ends item.place) (kept ends all (keep t item before))

  track_text : SameEnds → (block i : ℕ) → Behind block → track_text_of s block i ≡ track_text_of t block i
  unfolding track_text_of text_behind text_offset text_at items_kept
  track_text ends block i (inl z) = rw (eq-eqb block 0 z)
  track_text ends block i (inr h) =
      let offset = be_at t (block + 8 + 2 * i) 2 in let count = be_at t (block + offset) 1 in let at = block + offset + 4 in
      rw (
        number (block + 8 + 2 * i) 2 (omega arith),
        same.same_length,
        number (block + offset) 1 (omega arith),
        items count at (omega arith),
        kept ends (items_from t at count) no_items,
      )

  -- ---- and the tracks

  timecode : (at : ℕ) → 8 ≤ at → timecode_at s at ≡ timecode_at t at
  unfolding timecode_at
  timecode at h = rw (number at 1 h, number (at + 1) 1 (omega arith), number (at + 2) 1 (omega arith))

  times : (trl2 i : ℕ) → stored_times s trl2 i ≡ stored_times t trl2 i
  unfolding stored_times
  times trl2 i = rw (timecode (trl2 + 8 + 4 * i) (omega arith), timecode (trl2 + 1028 + 4 * i) (omega arith))

  isrc_genre : (igl i : ℕ) → isrc_genre_at s igl i ≡ isrc_genre_at t igl i
  unfolding isrc_genre_at isrc_field genre_at
  isrc_genre igl i =
      rw (section (igl + 8 + 12 * i) 12 (omega arith), number (igl + 3072 + 4 * i) 1 (omega arith), number (igl + 3072 + 4 * i + 3) 1 (omega arith))

  track : SameEnds → (a b : Area) (c : Chain) (i : ℕ)
      → a.playtime ≡ b.playtime → a.audio_start_lsn ≡ b.audio_start_lsn → a.audio_end_lsn ≡ b.audio_end_lsn
      → Behind c.ttxt → track_of s a c i ≡ track_of t b c i
  unfolding track_of lsn_at
  track ends a b c i play start end behind =
      rw (
        number (c.trl1 + 8 + 4 * i) 4 (omega arith),
        number (c.trl1 + 1028 + 4 * i) 4 (omega arith),
        times c.trl2 i,
        play,
        start,
        end,
        number (c.trl2 + 8 + 4 * i + 3) 1 (omega arith),
        number (c.trl2 + 1028 + 4 * i + 3) 1 (omega arith),
        isrc_genre c.igl i,
        track_text ends c.ttxt i behind,
      )

  lsn_at_lem : (at : ℕ) → 8 ≤ at → lsn_at s at ≡ lsn_at t at
  unfolding lsn_at
  lsn_at_lem at h = rw (number at 4 h)

  reads : SameEnds → (slot sectors slot' sectors' : ℕ)
      → reads_of s (record_of s slot sectors) (chain_of s) ≡ reads_of t (record_of t slot' sectors') (chain_of t)
  unfolding reads_of record_of
  reads ends slot sectors slot' sectors' =
      let a = record_of s slot sectors in let b = record_of t slot' sectors' in
      ap (λ (count : ℕ). tabulate (min count max_tracks) (track_of s a (chain_of s))) (number 69 1 (omega arith))
      ∙ ap (λ (c : Chain). tabulate (min (be_at t 69 1) max_tracks) (track_of s a c)) chain
      ∙ tabulate_ext (min (be_at t 69 1) max_tracks) (track_of s a (chain_of t)) (track_of t b (chain_of t))
      (λ k h. track ends a b (chain_of t) k (timecode 64 (omega arith)) (lsn_at_lem 72 (omega arith)) (lsn_at_lem 76 (omega arith)) (text_behind_lem t))

  -- ---- and the locales

  locale : (at : ℕ) → 8 ≤ at → locale_at s at ≡ locale_at t at
  unfolding locale_at code_at
  locale at h = rw (number at 1 h, number (at + 1) 1 (omega arith), number (at + 2) 1 (omega arith))

  locales_same : (count : ℕ) → locales_at s count ≡ locales_at t count
  unfolding locales_at locale_or
  locales_same count =
      tabulate_ext max_locales (locale_or s locales_offset count) (locale_or t locales_offset count) (λ k h. rw (locale (locales_offset + 4 * k) (omega arith)))

  -- ---- "Either signature serves either slot."
  module _ (own : kind_of s ≢ 0) (other : kind_of t ≢ 0) where
    -- both are skipped, by the same warning, or neither
    pub either_skips : skip_of s ≡ skip_of t
    unfolding skip_of skip_by is_malformed lsn_at
    either_skips =
        rw (ne_eqb (kind_of s) 0 own, ne_eqb (kind_of t) 0 other, chain, number 69 1 (omega arith), same.same_length, number 72 4 (omega arith), number 76 4 (omega arith))

    -- a text that begins in the signature is there in both
    begins : (offset : ℕ) → nonzero (get_or s offset 0) ≡ nonzero (get_or t offset 0)
    begins offset = go (ltb offset 8) refl
      where
        go : (b : Bool) → ltb offset 8 ≡ b → nonzero (get_or s offset 0) ≡ nonzero (get_or t offset 0)
        go true e =
            let before = ltb-true offset 8 e in
            ne_nonzero (get_or s offset 0) (letter s own offset before) ∙ sym (ne_nonzero (get_or t offset 0) (letter t other offset before))
        go false e = ap nonzero (same.same_bytes offset (ltb-false offset 8 e))

    same_ends : SameEnds
    same_ends place = zeros_same_end s t place same.same_length begins

    text_place : (at : ℕ) → 8 ≤ at → text_place_at s at ≡ text_place_at t at
    unfolding text_place_at is_absent placed_text
    text_place at h =
        let offset = be_at t at 2 in
        rw (number at 2 h, string_present s offset, string_present t offset, begins offset, same_ends offset)

    texts : area_texts_at s ≡ area_texts_at t
    unfolding area_texts_at
    texts =
        tabulate_ext area_texts (λ item. text_place_at s (area_texts_offset + 2 * item)) (λ item. text_place_at t (area_texts_offset + 2 * item))
        (λ item h. text_place (area_texts_offset + 2 * item) (omega arith))

    module _ (slot lsn sectors slot' lsn' sectors' : ℕ) where
      bare_record : bare_area (addressed lsn (record_of s slot sectors)) ≡ bare_area (addressed lsn' (record_of t slot' sectors'))
      unfolding bare_area addressed record_of
      bare_record =
          rw (
            number 8 1 (omega arith),
            number 9 1 (omega arith),
            number 16 4 (omega arith),
            number 20 1 (omega arith),
            number 21 1 (omega arith),
            number 32 1 (omega arith),
            number 33 1 (omega arith),
            number 34 1 (omega arith),
            number 35 1 (omega arith),
            number 48 1 (omega arith),
            timecode 64 (omega arith),
            number 68 1 (omega arith),
            number 69 1 (omega arith),
            lsn_at_lem 72 (omega arith),
            lsn_at_lem 76 (omega arith),
            number 80 1 (omega arith),
            locales_same (be_at t 80 1),
            number 90 1 (omega arith),
            texts,
          )

      frequency : frequency_warnings 0 (record_of s slot sectors) ≡ frequency_warnings 0 (record_of t slot' sectors')
      unfolding frequency_warnings record_of
      frequency = rw (number 20 1 (omega arith))

      bare_warnings : map bare_warning (frequency_warnings slot (record_of s slot sectors) ++ tracks_warnings slot (reads_of s (record_of s slot sectors) (chain_of s)))
          ≡ map bare_warning (frequency_warnings slot' (record_of t slot' sectors') ++ tracks_warnings slot' (reads_of t (record_of t slot' sectors') (chain_of t)))
      bare_warnings =
          bare_all slot (record_of s slot sectors) (reads_of s (record_of s slot sectors) (chain_of s))
          ∙ (rw (frequency, reads same_ends slot sectors slot' sectors'))
          ∙ sym (bare_all slot' (record_of t slot' sectors') (reads_of t (record_of t slot' sectors') (chain_of t)))

      -- what is the same of both if they yield, and if they are skipped, is the same
      both_ways : {X : Type 0} (f : Table → X)
          → f (with_address lsn (yield_of slot (record_of s slot sectors) (reads_of s (record_of s slot sectors) (chain_of s))))
          ≡ f (with_address lsn' (yield_of slot' (record_of t slot' sectors') (reads_of t (record_of t slot' sectors') (chain_of t))))
          → f (skips (of_slot (skip_of t) slot)) ≡ f (skips (of_slot (skip_of t) slot'))
          → f (area_at s slot lsn sectors) ≡ f (area_at t slot' lsn' sectors')
      unfolding area_at table_of with_address
      both_ways f kept skipped = rw either_skips (go (eqb (skip_of t) 0))
        where
          go : (b : Bool)
              → f (with_address lsn (cond b (yield_of slot (record_of s slot sectors) (reads_of s (record_of s slot sectors) (chain_of s))) (skips (of_slot (skip_of t) slot))))
              ≡ f (with_address lsn' (cond b (yield_of slot' (record_of t slot' sectors') (reads_of t (record_of t slot' sectors') (chain_of t))) (skips (of_slot (skip_of t) slot'))))
          go true = kept
          go false = skipped

      -- the record is the same but for the signature's number and the origin
      pub either_area : bare_area (area_given (area_at s slot lsn sectors)) ≡ bare_area (area_given (area_at t slot' lsn' sectors'))
      unfolding area_given with_address yield_of
      either_area = both_ways (λ (x : Table). bare_area (area_given x)) bare_record refl

      -- the tracks are the same
      pub either_tracks : tracks_given (area_at s slot lsn sectors) ≡ tracks_given (area_at t slot' lsn' sectors')
      unfolding tracks_given with_address yield_of
      either_tracks = both_ways tracks_given (ap tracks_of (reads same_ends slot sectors slot' sectors')) refl

      -- the warnings are the same but for the slot
      pub either_warnings : map bare_warning (warnings_of (area_at s slot lsn sectors)) ≡ map bare_warning (warnings_of (area_at t slot' lsn' sectors'))
      unfolding warnings_of with_address yield_of bare_warning of_slot
      either_warnings = both_ways (λ (x : Table). map bare_warning (warnings_of x)) bare_warnings refl
