-- How large the numbers are that a table of bytes yields: those of its locales, of each track and of each warning. Assumes nothing.
use Rattle.std.specs.Prelude.{ℕ, ◌+◌, ◌*◌, ◌^◌, ◌≤◌, ◌<◌, min, Bool, true, false, cond, ◌≡◌, ltb, length, get_or}
use Rattle.std.proofs.Common.{arith, inl, inr, sym, eq-eqb}
use mathlib.Core.List.{List, Memᴰ}
use Rattle.std.proofs.Math.Path.{subst}
use Rattle.sectors.specs.Number.{be_at}
use Rattle.sectors.specs.NumberLaws.{be_below}
use Rattle.area.specs.Area.{record_of, addressed}
use Rattle.area.specs.Chain.{chain_of}
use Rattle.area.specs.Limits.{max_tracks, max_head_warnings, max_track_warnings}
use Rattle.area.specs.Locale.{max_locales, code_at, locale_at, no_locale, locale_or, locales_at}
use Rattle.area.specs.Skip.{skip_of}
use Rattle.area.specs.Table.{reads_of, tracks_of, yield_of, table_of, area_given, tracks_given, warnings_of}
use Rattle.area.proofs.TableLaws.{tracks_most, warnings_most}
use Rattle.area.specs.TabulateLaws.{length_tabulate, tabulate_member, map_tabulate}
use Rattle.area.specs.Timecode.{timecode_at, frame_number}
use Rattle.area.specs.Track.{track_of}
use Rattle.area.proofs.TrackLaws.{track_within}
use Rattle.area.specs.Units.{lsn_at}
use Rattle.area.specs.Warning.{track_text_unterminated}
use Rattle.area.proofs.WarningLaws.{TableCode, table_codes, table_warnings_of}
use Rattle.area.specs.declared.area.Area.{Area}
use Rattle.area.specs.declared.locale.Locale.{Locale}
use Rattle.area.specs.declared.track.Track.{Track}
use Rattle.area.specs.declared.track.TrackRead.{TrackRead}
use Rattle.area.specs.declared.warning.Warning.{Warning}

pub record SmallLocale (l : Locale) : Type 0 where
  pub first_byte : get_or l.language_code 0 0 < 256
  pub second_byte : get_or l.language_code 1 0 < 256
  pub set_byte : l.charset < 256

-- the most frames that a timecode says: "255:255:255 = 1166880"
abbrev pub max_frames : ℕ
max_frames = 1166880

pub record SmallTrack (t : Track) : Type 0 where
  pub its_number : t.number ≤ max_tracks
  pub its_start : t.start_lsn.0 < 256 ^ 4
  pub its_sectors : t.length_sectors < 256 ^ 4
  pub its_frames : t.times.start_frame.0 + t.times.duration_frames.0 ≤ max_frames

pub record SmallWarning (slot : ℕ) (w : Warning) : Type 0 where
  pub its_code : w.code ≤ track_text_unterminated
  pub its_slot : w.slot ≡ slot
  pub its_track : w.track ≤ max_tracks

-- what a table yields is so small, and so much
pub record Bounds (slot : ℕ) (area : Area) (tracks : List Track) (warnings : List Warning) : Type 0 where
  pub few_locales : length area.locales ≤ max_locales
  pub small_locales : (l : Locale) → Memᴰ l area.locales → SmallLocale l
  pub few_tracks : length tracks ≤ max_tracks
  pub small_tracks : (t : Track) → Memᴰ t tracks → SmallTrack t
  pub few_warnings : length warnings ≤ max_head_warnings + max_tracks * max_track_warnings
  pub small_warnings : (w : Warning) → Memᴰ w warnings → SmallWarning slot w

module _ (table : List ℕ) (bytes : (i : ℕ) → get_or table i 0 < 256) where
  small_locale : (at count k : ℕ) → SmallLocale (locale_or table at count k)
  unfolding locale_or locale_at code_at no_locale
  small_locale at count k = go (ltb k count)
    where
      byte : (place : ℕ) → be_at table place 1 < 256
      byte place = be_below 1 table place bytes

      go : (b : Bool) → SmallLocale (cond b (locale_at table (at + 4 * k)) no_locale)
      go true = record { first_byte = byte (at + 4 * k); second_byte = byte (at + 4 * k + 1); set_byte = byte (at + 4 * k + 2) }
      go false = record { first_byte = omega arith; second_byte = omega arith; set_byte = omega arith }

  few_frames : (at : ℕ) → (frame_number (timecode_at table at)).0 ≤ max_frames
  unfolding frame_number timecode_at
  few_frames at = omega (arith, be_below 1 table at bytes, be_below 1 table (at + 1) bytes, be_below 1 table (at + 2) bytes)

  module _ (slot sectors : ℕ) where
    abbrev area : Area
    area = record_of table slot sectors

    abbrev read : ℕ → TrackRead
    read = track_of table area (chain_of table)

    abbrev count : ℕ
    count = min area.track_count max_tracks

    small_track : (i : ℕ) → i < count → SmallTrack (read i).track
    unfolding track_of lsn_at record_of
    small_track i below = record {
      its_number = omega arith;
      its_start = be_below 4 table ((chain_of table).trl1 + 8 + 4 * i) bytes;
      its_sectors = be_below 4 table ((chain_of table).trl1 + 1028 + 4 * i) bytes;
      its_frames = omega (arith, track_within table area (chain_of table) i, few_frames 64);
    }

    tracks_small : (t : Track) → Memᴰ t (tracks_of (reads_of table area (chain_of table))) → SmallTrack t
    unfolding tracks_of reads_of
    tracks_small t m =
        let found = tabulate_member count (λ k. (read k).track) (subst (Memᴰ t) (map_tabulate (λ (r : TrackRead). r.track) count read) m) in
        subst SmallTrack (sym found.1.1) (small_track found.0 found.1.0)

    code_few : (n : ℕ) → TableCode n → n ≤ track_text_unterminated
    code_few n (inl e) = omega (arith, e.1)
    code_few n (inr (inl e)) = omega (arith, e)
    code_few n (inr (inr e)) = omega (arith, e)

    -- what is given of a table that is not skipped
    module _ (kept : skip_of table ≡ 0) where
      area_is : area_given (table_of table slot sectors) ≡ area
      unfolding table_of yield_of area_given
      area_is = rw (eq-eqb (skip_of table) 0 kept)

      tracks_are : tracks_given (table_of table slot sectors) ≡ tracks_of (reads_of table area (chain_of table))
      unfolding table_of yield_of tracks_given
      tracks_are = rw (eq-eqb (skip_of table) 0 kept)

    pub kept_bounded : (lsn : ℕ) → skip_of table ≡ 0
        → Bounds slot (addressed lsn (area_given (table_of table slot sectors))) (tracks_given (table_of table slot sectors)) (warnings_of (table_of table slot sectors))
    unfolding addressed record_of locales_at
    kept_bounded lsn kept =
        record {
          few_locales = rw (area_is kept) (omega (arith, length_tabulate max_locales (locale_or table 88 (be_at table 80 1))));
          small_locales = rw (area_is kept) (λ l m.
              let found = tabulate_member max_locales (locale_or table 88 (be_at table 80 1)) m in
              subst SmallLocale (sym found.1.1) (small_locale 88 (be_at table 80 1) found.0));
          few_tracks = tracks_most table slot sectors;
          small_tracks = rw (tracks_are kept) tracks_small;
          few_warnings = warnings_most table slot sectors;
          small_warnings = λ w m.
              let of = table_warnings_of table slot sectors w m in
              record { its_code = code_few w.code (table_codes table slot sectors w m); its_slot = of.0; its_track = of.1 };
        }
