-- What a table gives (01, "Area", from the signature on). Assumes nothing.
use Rattle.std.specs.Prelude.{Option, ℕ, min, cond, not, ltb, eqb, option_map, option_to_list}
use mathlib.Core.List.{List, [], ◌∷◌, ◌++◌, map, flat_map}
use Rattle.area.specs.Tabulate.{tabulate}
use Rattle.area.specs.Lent.{when_true}
use Rattle.area.specs.Limits.{max_tracks, table_bytes}
use Rattle.area.specs.Warning.{number_of, track_past_playtime, track_lsn_outside_area, sample_frequency_unknown, track_text_unterminated}
use Rattle.area.specs.Chain.{chain_of, nothing_kept}
use Rattle.area.specs.Area.{record_of, addressed, no_area}
use Rattle.area.specs.Skip.{skip_of}
use Rattle.area.specs.TextPlaces.{any_unterminated}
use Rattle.area.specs.Track.{track_of, no_read}
use Rattle.area.specs.declared.area.Area.{Area}
use Rattle.area.specs.declared.chain.Chain.{Chain}
use Rattle.area.specs.declared.table.TableHead.{TableHead}
use Rattle.area.specs.declared.track.Track.{Track}
use Rattle.area.specs.declared.track.TrackRead.{TrackRead}
use Rattle.area.specs.declared.warning.Warning.{Warning}
use Rattle.area.specs.declared.warning.WarningCode.{WarningCode}

-- "the area's record, its tracks .., or nothing if 8 to 11 skips it", with the warnings
pub data Table : Type 0 where
  skips : Warning → Table
  yields : Area → List Track → List Warning → Table

-- a warning of a slot, of no track
unfoldable pub of_slot : ℕ → ℕ → Warning
of_slot code slot = record { code = code; slot = slot; track = 0 }

-- the code for DSD64
abbrev pub dsd64 : ℕ
dsd64 = 4

-- "Byte 20 other than 4: warning 18."
unfoldable pub frequency_warnings : ℕ → Area → List Warning
frequency_warnings slot area = when_true (not (eqb area.sample_frequency_code dsd64)) (of_slot sample_frequency_unknown slot)

-- a warning of a track
unfoldable pub of_track : ℕ → ℕ → TrackRead → Warning
of_track code slot read = record { code = code; slot = slot; track = read.track.number }

-- the warning of a track with a code, if there is one
unfoldable pub coded : ℕ → ℕ → Option WarningCode → Option Warning
coded slot track code = option_map (λ (n : WarningCode). record { code = number_of n; slot = slot; track = track }) code

-- 12 or 13 of a track's text, or none
unfoldable pub text_warnings : ℕ → TrackRead → List Warning
text_warnings slot read = option_to_list (option_map (λ (code : WarningCode). of_track (number_of code) slot read) read.text_warning)

-- "Per track the order is 14, 15, then 12 or 13.", and of 19: "once, after 12 or 13" (02, item 5)
unfoldable pub track_warnings : ℕ → TrackRead → List Warning
track_warnings slot read =
    when_true read.past_playtime (of_track track_past_playtime slot read)
    ++ when_true read.outside_area (of_track track_lsn_outside_area slot read)
    ++ text_warnings slot read
    ++ when_true (any_unterminated read.track.text) (of_track track_text_unterminated slot read)

-- the tracks of a table, each with what it is warned of
unfoldable pub reads_of : List ℕ → Area → Chain → List TrackRead
reads_of table area chain = tabulate (min area.track_count max_tracks) (track_of table area chain)

unfoldable pub tracks_of : List TrackRead → List Track
tracks_of reads = map (λ (read : TrackRead). read.track) reads

unfoldable pub tracks_warnings : ℕ → List TrackRead → List Warning
tracks_warnings slot reads = flat_map (track_warnings slot) reads

-- what is made of a table's record and its tracks
unfoldable pub yield_of : ℕ → Area → List TrackRead → Table
yield_of slot area reads = yields area (tracks_of reads) (frequency_warnings slot area ++ tracks_warnings slot reads)

-- "what Area, from the signature on, makes of its bytes, slot, .. and sector count"
unfoldable pub table_of : List ℕ → ℕ → ℕ → Table
table_of table slot sectors =
    cond (eqb (skip_of table) 0)
    (yield_of slot (record_of table slot sectors) (reads_of table (record_of table slot sectors) (chain_of table)))
    (skips (of_slot (skip_of table) slot))

-- ".. LSN": it stands in the address alone
unfoldable pub with_address : ℕ → Table → Table
with_address lsn (skips warning) = skips warning
with_address lsn (yields area tracks warnings) = yields (addressed lsn area) tracks warnings

unfoldable pub area_at : List ℕ → ℕ → ℕ → ℕ → Table
area_at table slot lsn sectors = with_address lsn (table_of table slot sectors)

-- the area and the tracks of a table; none where it is skipped
unfoldable pub area_given : Table → Area
area_given (skips warning) = no_area
area_given (yields area tracks warnings) = area

unfoldable pub tracks_given : Table → List Track
tracks_given (skips warning) = []
tracks_given (yields area tracks warnings) = tracks

-- the warnings of a table
unfoldable pub warnings_of : Table → List Warning
warnings_of (skips warning) = warning ∷ []
warnings_of (yields area tracks warnings) = warnings

-- The head of a table, from which its tracks are read: the skip, or 0 and the record; and what the walk keeps.
unfoldable pub head_of : List ℕ → ℕ → ℕ → ℕ → TableHead
head_of table slot lsn sectors = record {
  skip = skip_of table;
  area = cond (eqb (skip_of table) 0) (addressed lsn (record_of table slot sectors)) no_area;
  chain = chain_of table;
}

unfoldable pub no_head : TableHead
no_head = record { skip = 0; area = no_area; chain = nothing_kept }

-- the warnings of a head
unfoldable pub head_warnings : ℕ → TableHead → List Warning
head_warnings slot head = cond (eqb head.skip 0) (frequency_warnings slot head.area) (of_slot head.skip slot ∷ [])

-- "a track count above 255 as 255"
unfoldable pub track_count : TableHead → ℕ
track_count head = min head.area.track_count max_tracks

-- track i by a head, of the table that stands at the start of what is lent; none past the last
unfoldable pub read_in : List ℕ → TableHead → ℕ → TrackRead
read_in lent head i =
    cond (ltb i (track_count head)) (track_of (table_bytes head.area.origin.toc_sectors lent) head.area head.chain i) no_read

unfoldable pub reads_in : List ℕ → TableHead → List TrackRead
reads_in lent head = tabulate (track_count head) (read_in lent head)

-- the tracks by a head, and their warnings
unfoldable pub tracks_in : List ℕ → TableHead → List Track
tracks_in lent head = tracks_of (reads_in lent head)

unfoldable pub warnings_in : List ℕ → TableHead → List Warning
warnings_in lent head = tracks_warnings head.area.origin.slot (reads_in lent head)
