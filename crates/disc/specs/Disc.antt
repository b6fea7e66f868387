-- Disc reading (01, "Disc" and "What the desk gets back"): of any source, and of one lent image. Assumes nothing.
use Rattle.std.specs.Prelude.{ℕ, Bool, false, cond, not, ◌&&◌, ◌||◌, List, ◌++◌, map, ltb, length}
use Rattle.std.proofs.Math.Option.{Option, none, some}
use Rattle.sectors.specs.Bytes.{same}
use Rattle.sectors.specs.Fill.{fill}
use Rattle.sectors.specs.Format.{foreign}
use Rattle.sectors.specs.Number.{be_at}
use Rattle.sectors.specs.Refusal.{foreign_format, short_buffer}
use Rattle.sectors.specs.Source.{Source, image_source, run_of}
use Rattle.area.specs.Area.{no_area}
use Rattle.area.specs.Lent.{when_true}
use Rattle.area.specs.Refusal.{no_audio_areas}
use Rattle.area.specs.Table.{Table, of_slot}
use Rattle.area.specs.Warning.{word_of}
use Rattle.area.specs.declared.track.Track.{Track}
use Rattle.area.specs.declared.warning.Warning.{Warning}
use Rattle.disc.specs.Slot.{Slot, two_channel, multichannel, region_at, master_region, tracks_at, work_bytes, track_records, warning_words}
use Rattle.disc.specs.Master.{master_lsn, master_sectors, text_channels_offset, is_scarlet_book, is_newer, pointer_of, has_text, has_manufacturer, master_of, no_master}
use Rattle.disc.specs.Refusal.{master_toc_truncated, not_scarlet_book, version_unsupported}
use Rattle.disc.specs.Warning.{master_text_missing, manufacturer_missing, master_toc_copies_differ}
use Rattle.disc.specs.Copies.{chosen, bytes_of, has_area, area_in, tracks_in, slot_table, slot_warnings}
use Rattle.disc.specs.Outcome.{Memory, Outcome}
use Rattle.disc.specs.declared.answer.DiscAnswer.{DiscAnswer}

-- ---- the refusals that read nothing
-- "a lent buffer is below its size"
unfoldable pub is_short : ℕ → ℕ → ℕ → Bool
is_short work records words = ltb work work_bytes || ltb records track_records || ltb words warning_words

-- a refusal, or the master table
pub data Master : Type 0 where
  refused : ℕ → Master
  reads : List ℕ → Master

-- "3 | cut master", "4 | not Scarlet Book", "5 | newer edition", in order
unfoldable pub judged : Option (List ℕ) → Master
judged none = refused master_toc_truncated
judged (some table) =
    cond (is_scarlet_book table) (cond (is_newer table) (refused version_unsupported) (reads table)) (refused not_scarlet_book)

-- "Disc reading checks 1 to 6 in order": 2, then 3, 4, 5
unfoldable pub master_in : Source → ℕ → ℕ → ℕ → Master
master_in source work records words =
    cond (is_short work records words) (refused short_buffer) (judged (run_of source master_lsn master_sectors))

-- "Disc reading checks 1 to 6 in order": the first five, of a lent image
unfoldable pub image_master : ℕ → List ℕ → ℕ → ℕ → ℕ → Master
image_master format image work records words =
    cond (foreign format) (refused foreign_format) (master_in (image_source format image) work records words)

-- ---- the warnings
-- a warning of the disc
unfoldable pub of_disc : ℕ → Warning
of_disc code = of_slot code 0

-- "Copies at 520 and 530"
abbrev pub second_master_lsn : ℕ
second_master_lsn = 520

abbrev pub third_master_lsn : ℕ
third_master_lsn = 530

-- "any readable one unequal"
unfoldable pub is_unequal : List ℕ → Option (List ℕ) → Bool
is_unequal table none = false
is_unequal table (some copy) = not (same copy table)

unfoldable pub master_copies_differ : Source → List ℕ → Bool
master_copies_differ source table =
    is_unequal table (run_of source second_master_lsn master_sectors) || is_unequal table (run_of source third_master_lsn master_sectors)

-- ".. gives 17, once. Then `SACDText` missing in sector 1 with text channels above 0: 1. Then `SACD_Man` missing in sector 9: 2."
unfoldable pub disc_warnings : Bool → List ℕ → List Warning
disc_warnings differ table =
    when_true differ (of_disc master_toc_copies_differ)
    ++ when_true (not (has_text table) && ltb 0 (be_at table text_channels_offset 1)) (of_disc master_text_missing)
    ++ when_true (not (has_manufacturer table)) (of_disc manufacturer_missing)

-- the disc's, then each slot's: "Two-channel, then multichannel."
unfoldable pub warnings_of : Source → List ℕ → List Warning
warnings_of source table =
    disc_warnings (master_copies_differ source table) table
    ++ slot_warnings source two_channel (pointer_of table two_channel)
    ++ slot_warnings source multichannel (pointer_of table multichannel)

-- ---- the answer
-- "A refusal returns its number": every other field is zero
unfoldable pub refusal : ℕ → DiscAnswer
refusal number = record {
  refusal = number;
  warnings = 0;
  sector_format = 0;
  sectors = 0;
  master = no_master;
  two_channel = no_area;
  multichannel = no_area;
}

-- "6 also the warning count and, for a disc, the master record"
unfoldable pub silent : List ℕ → ℕ → DiscAnswer
silent table count = record {
  refusal = no_audio_areas;
  warnings = count;
  sector_format = 0;
  sectors = 0;
  master = master_of table;
  two_channel = no_area;
  multichannel = no_area;
}

-- the sector format and the sectors as `Toc` has them
unfoldable pub accepted : ℕ → ℕ → List ℕ → ℕ → Option Table → Option Table → DiscAnswer
accepted format sectors table count first second = record {
  refusal = 0;
  warnings = count;
  sector_format = format;
  sectors = sectors;
  master = master_of table;
  two_channel = area_in first;
  multichannel = area_in second;
}

-- "6 | silent disc | neither slot .. yields an area"
unfoldable pub answer_of : ℕ → ℕ → List ℕ → ℕ → Option Table → Option Table → DiscAnswer
answer_of format sectors table count first second =
    cond (has_area first || has_area second) (accepted format sectors table count first second) (silent table count)

-- ---- the lent memory: "After acceptance or refusal 6, the master and each chosen table copy fill the start of their regions; tracks of a
-- yielded area fill records from 0 (two-channel) or 255; the warnings fill the first words. Everything else is unchanged."
module _ (source : Source) (table : List ℕ) where
  -- the table of a slot
  unfoldable pub table_of : Slot → Option Table
  table_of slot = slot_table source slot (pointer_of table slot)

  -- the bytes of the copy that it is read from
  unfoldable pub copy_of : Slot → List ℕ
  copy_of slot = bytes_of (chosen source (pointer_of table slot))

  unfoldable pub work_after : List ℕ → List ℕ
  work_after old = fill (region_at multichannel) (copy_of multichannel) (fill (region_at two_channel) (copy_of two_channel) (fill master_region table old))

  unfoldable pub tracks_after : List Track → List Track
  tracks_after old = fill (tracks_at multichannel) (tracks_in (table_of multichannel)) (fill (tracks_at two_channel) (tracks_in (table_of two_channel)) old)

  unfoldable pub words_after : List ℕ → List ℕ
  words_after old = fill 0 (map word_of (warnings_of source table)) old

  unfoldable pub reading_of : ℕ → Memory → Outcome
  reading_of format memory = record {
    answer = answer_of format source.count table (length (warnings_of source table)) (table_of two_channel) (table_of multichannel);
    memory = record { work = work_after memory.work; tracks = tracks_after memory.tracks; words = words_after memory.words };
  }

-- "Every refusal but 6, any added later too, changes no lent memory."
unfoldable pub outcome_of : Source → ℕ → Memory → Master → Outcome
outcome_of source format memory (refused number) = record { answer = refusal number; memory = memory }
outcome_of source format memory (reads table) = reading_of source table format memory

-- the reading of a disc from any source of sectors, whose format has a number
unfoldable pub read_source : Source → ℕ → Memory → Outcome
read_source source format memory =
    outcome_of source format memory (master_in source (length memory.work) (length memory.tracks) (length memory.words))

-- .. and from one lent image
unfoldable pub read_disc : ℕ → List ℕ → Memory → Outcome
read_disc format image memory =
    outcome_of (image_source format image) format memory
    (image_master format image (length memory.work) (length memory.tracks) (length memory.words))
