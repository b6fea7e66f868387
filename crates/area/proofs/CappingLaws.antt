-- Every track that a table yields keeps to the capping rule. Its 14 is the first of its own warnings, or none; among those of its table, and among their
-- words, it stands at the same places, moved by a number (`StandsLaws`). Assumes nothing.
use Prim.Native.Nat.{ℕ, ◌+◌, ◌*◌, ◌≤◌, ◌<◌, min}
use Rattle.std.proofs.Math.Decide.{ℕ_discrete}
use native.Mathlib.Omega.{arith}
use Rattle.std.specs.Prelude.{Bool, not, ◌≡◌, eqb, length}
use Rattle.std.proofs.Math.Bool.{true, false}
use Rattle.std.proofs.lemmas.Bool.{false≢true}
use mathlib.Core.List.{List, ◌++◌, map, flat_map, Memᴰ}
use Rattle.std.proofs.Math.Path.{refl, ap, subst}
use Rattle.std.proofs.Common.{sym, ◌∙◌}
use borrow.Author.Tests.{lt-ltb, ltb-true}
use Rattle.std.proofs.lemmas.List.{length-map}
use Rattle.sectors.specs.Fill.{part, fill}
use Rattle.sectors.specs.FillLaws.{part_filled}
use Rattle.area.specs.Area.{record_of, addressed}
use Rattle.area.specs.Cap.{exceeds}
use Rattle.area.specs.Capping.{stored_start_frame, stored_duration_frame, past_playtime, Stands, Capping, LoneCapped}
use Rattle.area.specs.Chain.{chain_of}
use Rattle.area.specs.Lent.{when_true}
use Rattle.area.specs.Limits.{max_tracks}
use Rattle.area.specs.Lone.{is_short, lone_slot, lone_sectors, Lone, reads, lone_of, lone_answer, lone_tracks, lone_words}
use Rattle.area.proofs.LoneLaws.{by_case, enough_records, enough_words}
use Rattle.area.specs.Skip.{skip_of}
use Rattle.area.proofs.StandsLaws.{Shifted, shifted_then, shifted_front, shifted_behind, shifted_map, shifted_flat}
use Rattle.area.specs.TextPlaces.{any_unterminated}
use Rattle.area.specs.Table.{Table, area_at, of_slot, dsd64, of_track, frequency_warnings, text_warnings, track_warnings, reads_of, tracks_of, tracks_warnings, yield_of, table_of, area_given, tracks_given, warnings_of, yields}
use Rattle.area.proofs.TableLaws.{by_skip, area_of, address_tracks, address_warnings, address_playtime, tracks_count, tracks_most, warnings_most, head_skips, area_yields, addressed_track_count, addressed_playtime}
use Rattle.area.specs.Tabulate.{tabulate}
use Rattle.area.specs.TabulateLaws.{tabulate_member, map_tabulate}
use Rattle.area.specs.Timecode.{frame_number}
use Rattle.area.specs.Track.{capped_times, times_of, track_of}
use Rattle.area.proofs.TrackLaws.{track_within, track_warned, track_number, text_not_past}
use Rattle.area.specs.Warning.{word_of, track_past_playtime, track_lsn_outside_area, sample_frequency_unknown, track_text_unterminated}
use Rattle.area.proofs.WarningLaws.{word_value, in_when, in_text, track_warnings_of, table_warnings_of}
use Rattle.area.specs.declared.area.Area.{Area}
use Rattle.area.specs.declared.chain.Chain.{Chain}
use Rattle.area.specs.declared.timecode.Timecode.{Timecode}
use Rattle.area.specs.declared.track.Track.{Track}
use Rattle.area.specs.declared.track.TrackRead.{TrackRead}
use Rattle.area.specs.declared.warning.Warning.{Warning}

-- warning 14 of a track
pub past_playtime_lem : (slot number : ℕ) → past_playtime slot number ≡ record { code = track_past_playtime; slot = slot; track = number }
unfolding past_playtime
past_playtime_lem slot number = refl

-- What is so by one list of warnings is so by another, where the track's 14 stands at the same places, moved by a number.
module _ {A B : Type 0} {f : Warning → A} {vs : List A} {g : Warning → B} {ws : List B} (slot : ℕ) (playtime : Timecode) (t : Track) where
  pub capping_shifted : Shifted (f (past_playtime slot t.number)) vs (g (past_playtime slot t.number)) ws
      → Capping f vs slot playtime t → Capping g ws slot playtime t
  capping_shifted m c = record {
    start = c.start;
    duration = c.duration;
    within = c.within;
    comes = λ e. let p = c.comes e in (m.by + p.0, m.forth p.0 p.1);
    only = λ place s. c.only (m.back place s).0 (m.back place s).1.1;
    once = λ place place' s s'.
        let p = m.back place s in let p' = m.back place' s' in let same = c.once p.0 p'.0 p.1.1 p'.1.1 in
        let at = p.1.0 in let at' = p'.1.0 in omega arith;
  }

-- an entry that a list has exactly if a test passes
module _ {W : Type 0} (w : W) where
  when_stands : (t : Bool) → t ≡ true → Stands w (when_true t w) 0
  unfolding when_true
  when_stands true e = record { inside = omega arith; there = refl }
  when_stands false e = absurd (false≢true e)

  stands_when : (t : Bool) (place : ℕ) → Stands w (when_true t w) place → (t ≡ true) × (place ≡ 0)
  unfolding when_true
  stands_when true place s = let below = s.inside in (refl, omega arith)
  stands_when false place s = let below = s.inside in absurd (omega arith)

-- ---- of one track

module _ (table : List ℕ) (area : Area) (chain : Chain) (slot : ℕ) where
  abbrev read : ℕ → TrackRead
  read = track_of table area chain

  -- warning 14 of a track
  abbrev fourteen : ℕ → Warning
  fourteen i = past_playtime slot (read i).track.number

  -- what `exceeds` tests, in its own numbers
  abbrev Tested : ℕ → Type 0
  Tested i = (frame_number area.playtime).0 < (stored_start_frame (read i).track).0 + (stored_duration_frame (read i).track).0

  -- by its own 14
  capping_own : (i : ℕ) → Capping (λ w. w) (when_true (read i).past_playtime (fourteen i)) slot area.playtime (read i).track
  unfolding track_of times_of capped_times stored_start_frame stored_duration_frame exceeds
  capping_own i = record {
    start = refl;
    duration = refl;
    within = omega (arith, track_within table area chain i);
    comes = λ e.
        let over : Tested i = omega (arith, e) in
        (0, when_stands (fourteen i) (read i).past_playtime (track_warned table area chain i ∙ lt-ltb _ _ over));
    only = λ place s.
        let over : Tested i = ltb-true _ _ (sym (track_warned table area chain i) ∙ (stands_when (fourteen i) (read i).past_playtime place s).0) in
        omega (arith, over);
    once = λ place place' s s'.
        let p = (stands_when (fourteen i) (read i).past_playtime place s).1 in
        let p' = (stands_when (fourteen i) (read i).past_playtime place' s').1 in omega arith;
  }

  -- by all warnings of the track
  shifted_track : (i : ℕ) → Shifted (fourteen i) (when_true (read i).past_playtime (fourteen i)) (fourteen i) (track_warnings slot (read i))
  unfolding track_warnings of_track past_playtime
  shifted_track i =
      shifted_then (shifted_front (fourteen i) past outside (no_fourteen (read i).outside_area track_lsn_outside_area (λ e. omega (arith, e))))
      (shifted_then (shifted_front (fourteen i) (past ++ outside) text no_text_fourteen)
      (shifted_front (fourteen i) (past ++ outside ++ text) unterminated
      (no_fourteen (any_unterminated (read i).track.text) track_text_unterminated (λ e. omega (arith, e)))))
    where
      past : List Warning
      past = when_true (read i).past_playtime (of_track track_past_playtime slot (read i))

      outside : List Warning
      outside = when_true (read i).outside_area (of_track track_lsn_outside_area slot (read i))

      text : List Warning
      text = text_warnings slot (read i)

      unterminated : List Warning
      unterminated = when_true (any_unterminated (read i).track.text) (of_track track_text_unterminated slot (read i))

      -- it is no warning of another code
      no_fourteen : (t : Bool) (code : ℕ) → (code ≡ track_past_playtime → ⊥) → Memᴰ (fourteen i) (when_true t (of_track code slot (read i))) → ⊥
      no_fourteen t code other m = other (sym (ap (λ (w : Warning). w.code) (in_when (fourteen i) t (of_track code slot (read i)) m)))

      no_text_fourteen : Memᴰ (fourteen i) (text_warnings slot (read i)) → ⊥
      no_text_fourteen m =
          let found = in_text (fourteen i) slot (read i) m in
          text_not_past table area chain i found.0 found.1.0 (sym (ap (λ (w : Warning). w.code) found.1.1))

  -- by those of so many tracks, and of their table
  module _ (n i : ℕ) (below : i < n) where
    shifted_tracks : Shifted (fourteen i) (track_warnings slot (read i)) (fourteen i) (flat_map (track_warnings slot) (tabulate n read))
    unfolding past_playtime
    shifted_tracks = shifted_flat (track_warnings slot) (fourteen i) n i read below (λ k m.
        let e = (track_warnings_of slot (read k) (fourteen i) m).1 in omega (arith, e, track_number table area chain i, track_number table area chain k))

    shifted_table : Shifted (fourteen i) (flat_map (track_warnings slot) (tabulate n read)) (fourteen i)
        (frequency_warnings slot area ++ flat_map (track_warnings slot) (tabulate n read))
    unfolding frequency_warnings of_slot past_playtime
    shifted_table = shifted_behind (fourteen i) (frequency_warnings slot area) (flat_map (track_warnings slot) (tabulate n read)) (λ m.
        let e = ap (λ (w : Warning). w.code) (in_when (fourteen i) (not (eqb area.sample_frequency_code dsd64)) (of_slot sample_frequency_unknown slot) m) in
        absurd (omega (arith, e)))

    capping_read : Capping (λ w. w) (frequency_warnings slot area ++ flat_map (track_warnings slot) (tabulate n read)) slot area.playtime (read i).track
    capping_read =
        capping_shifted slot area.playtime (read i).track (shifted_then (shifted_track i) (shifted_then shifted_tracks shifted_table)) (capping_own i)

-- ---- of every track that a table yields

module _ (table : List ℕ) (slot sectors : ℕ) where
  -- it is one of those that are read
  every_track : (P : Table → Track → Type 0)
      → ((i : ℕ) → i < min (record_of table slot sectors).track_count max_tracks
      → P (yield_of slot (record_of table slot sectors) (reads_of table (record_of table slot sectors) (chain_of table)))
      (track_of table (record_of table slot sectors) (chain_of table) i).track)
      → (t : Track) → Memᴰ t (tracks_given (table_of table slot sectors)) → P (table_of table slot sectors) t
  unfolding yield_of tracks_given tracks_of reads_of
  every_track P holds t =
      by_skip table slot sectors (λ x. Memᴰ t (tracks_given x) → P x t) (λ skipped m. absurd (mathlib.Core.List.Memᴰ.not-nil m)) (λ kept m.
      let area = record_of table slot sectors in let n = min area.track_count max_tracks in let read = track_of table area (chain_of table) in
      let found = tabulate_member n (λ k. (read k).track) (subst (Memᴰ t) (map_tabulate (λ (r : TrackRead). r.track) n read) m) in
      subst (P (yield_of slot area (reads_of table area (chain_of table)))) (sym found.1.1) (holds found.0 found.1.0))

  pub table_capping : (t : Track) → Memᴰ t (tracks_given (table_of table slot sectors))
      → Capping (λ w. w) (warnings_of (table_of table slot sectors)) slot (area_given (table_of table slot sectors)).playtime t
  unfolding yield_of area_given warnings_of reads_of tracks_warnings
  table_capping =
      every_track (λ x t. Capping (λ w. w) (warnings_of x) slot (area_given x).playtime t) (λ i below.
      let area = record_of table slot sectors in capping_read table area (chain_of table) slot (min area.track_count max_tracks) i below)

  number_most : (t : Track) → Memᴰ t (tracks_given (table_of table slot sectors)) → t.number ≤ max_tracks
  number_most =
      every_track (λ x t. t.number ≤ max_tracks) (λ i below. omega (arith, track_number table (record_of table slot sectors) (chain_of table) i))

  -- .. at any address
  module _ (lsn : ℕ) (t : Track) (m : Memᴰ t (tracks_given (area_at table slot lsn sectors))) where
    abbrev bare : Table
    bare = table_of table slot sectors

    abbrev m' : Memᴰ t (tracks_given bare)
    m' = subst (Memᴰ t) (ap tracks_given (area_of table slot lsn sectors) ∙ address_tracks lsn bare) m

    pub area_capping : Capping (λ w. w) (warnings_of (area_at table slot lsn sectors)) slot (area_given (area_at table slot lsn sectors)).playtime t
    area_capping = rw (area_of table slot lsn sectors, address_warnings lsn bare, address_playtime lsn bare) (table_capping t m')

    pub area_number : t.number ≤ max_tracks
    area_number = number_most t m'

-- ---- as words

-- a warning whose slot and track are bytes has its own word
word_own : (x y : Warning) → x.slot < 256 → x.track < 256 → y.slot < 256 → y.track < 256 → word_of x ≡ word_of y → x ≡ y
word_own x y a b c d e = λ i. record { code = code i; slot = slot i; track = track i }
  where
    same : x.code * 65536 + x.slot * 256 + x.track ≡ y.code * 65536 + y.slot * 256 + y.track
    same = sym (word_value x) ∙ e ∙ word_value y

    code : x.code ≡ y.code
    code = omega (arith, same)

    slot : x.slot ≡ y.slot
    slot = omega (arith, same)

    track : x.track ≡ y.track
    track = omega (arith, same)

pub capping_words : (warnings : List Warning) (slot : ℕ) (playtime : Timecode) (t : Track) → slot < 256 → t.number < 256
    → ((w : Warning) → Memᴰ w warnings → (w.slot < 256) × (w.track < 256))
    → Capping (λ w. w) warnings slot playtime t → Capping word_of (map word_of warnings) slot playtime t
unfolding past_playtime
capping_words warnings slot playtime t few few' bytes =
    capping_shifted slot playtime t (shifted_map word_of (past_playtime slot t.number) warnings (λ w m e.
    word_own w (past_playtime slot t.number) (bytes w m).0 (bytes w m).1 few few' e))

-- ---- of every track that a reading of a lone table hands back

module _ (table : List ℕ) (tracks : List Track) (words : List ℕ) where
  abbrev LoneHolds : Lone → Type 0
  LoneHolds lone = LoneCapped (lone_answer lone) (lone_tracks lone tracks) (lone_words lone words)

  module _ (room : is_short (length tracks) (length words) ≡ false) where
    -- the table, as it is without an address
    abbrev own : Table
    own = table_of table lone_slot (lone_sectors table)

    abbrev all : List Warning
    all = warnings_of own

    tracks_back : part 0 (min (addressed 0 (area_given own)).track_count max_tracks) (fill 0 (tracks_given own) tracks) ≡ tracks_given own
    tracks_back =
        let few = tracks_most table lone_slot (lone_sectors table) in let enough = enough_records (length tracks) (length words) room in
        ap (λ (n : ℕ). part 0 n (fill 0 (tracks_given own) tracks))
        (ap (λ (n : ℕ). min n max_tracks) (addressed_track_count 0 (area_given own)) ∙ sym (tracks_count table lone_slot (lone_sectors table)))
        ∙ part_filled 0 (tracks_given own) tracks (omega arith)

    words_back : part 0 (length all) (fill 0 (map word_of all) words) ≡ map word_of all
    words_back =
        let few = warnings_most table lone_slot (lone_sectors table) in let enough = enough_words (length tracks) (length words) room in let n = length-map all word_of in
        ap (λ (n : ℕ). part 0 n (fill 0 (map word_of all) words)) (sym n) ∙ part_filled 0 (map word_of all) words (omega arith)

    kept_capped : LoneHolds (reads (yields (addressed 0 (area_given own)) (tracks_given own) all))
    unfolding lone_answer lone_tracks lone_words warnings_of
    kept_capped accepted t m =
        let m' = subst (Memᴰ t) tracks_back m in let number = number_most table lone_slot (lone_sectors table) t m' in
        rw (words_back, addressed_playtime 0 (area_given own))
        (capping_words all lone_slot (area_given own).playtime t (omega arith) (omega arith) (λ w h.
        let of = table_warnings_of table lone_slot (lone_sectors table) w h in let slot = of.0 in let track = of.1 in (omega arith, omega arith))
        (table_capping table lone_slot (lone_sectors table) t m'))

    read_capped : Dec (skip_of table ≡ 0) → LoneHolds (reads (area_at table lone_slot 0 (lone_sectors table)))
    unfolding lone_answer
    read_capped (yes kept) = subst (λ (x : Table). LoneHolds (reads x)) (sym (area_yields table lone_slot 0 (lone_sectors table) kept)) kept_capped
    read_capped (no skipped) =
        subst (λ (x : Table). LoneHolds (reads x)) (sym (head_skips table lone_slot 0 (lone_sectors table) skipped)) (λ e. absurd (omega (arith, e)))

  pub lone_capped : LoneHolds (lone_of table (length tracks) (length words))
  unfolding lone_answer
  lone_capped =
      by_case table (length tracks) (length words) LoneHolds (λ odd e. absurd (omega (arith, e))) (λ sized short e. absurd (omega (arith, e)))
      (λ sized room. read_capped room (ℕ_discrete (skip_of table) 0))
