-- Reading a lone table (01, "What the desk gets back"). Assumes nothing.
use Rattle.std.specs.Prelude.{ℕ, ◌+◌, ◌*◌, ◌/◌, ◌%◌, Bool, cond, not, ◌||◌, List, map, ltb, eqb, length}
use Rattle.sectors.specs.Fill.{fill}
use Rattle.sectors.specs.Format.{sector_size}
use Rattle.sectors.specs.Refusal.{short_buffer}
use Rattle.area.specs.Limits.{max_table_bytes, max_tracks, max_head_warnings, max_track_warnings}
use Rattle.area.specs.Refusal.{no_audio_areas, odd_table}
use Rattle.area.specs.Warning.{word_of}
use Rattle.area.specs.Area.{no_area}
use Rattle.area.specs.Table.{Table, skips, yields, area_at, warnings_of, head_of}
use Rattle.area.specs.declared.lone.TableAnswer.{TableAnswer}
use Rattle.area.specs.declared.table.TableHead.{TableHead}
use Rattle.area.specs.declared.track.Track.{Track}

-- "a lone table of 0 bytes, over 262,144, or no multiple of 2,048"
unfoldable pub is_odd_table : ℕ → Bool
is_odd_table bytes = eqb bytes 0 || ltb max_table_bytes bytes || not (eqb (bytes % sector_size) 0)

-- "A lone table borrows 255 records". "Warning buffers become 2,047 and 1,021 words." (02, item 5): `words_asked` of `disc` has the number
abbrev pub table_words : ℕ
table_words = max_head_warnings + max_tracks * max_track_warnings

unfoldable pub is_short : ℕ → ℕ → Bool
is_short records words = ltb records max_tracks || ltb words table_words

-- ".. as slot 1 with address 0 and its own sector count"
abbrev pub lone_slot : ℕ
lone_slot = 1

unfoldable pub lone_sectors : List ℕ → ℕ
lone_sectors table = length table / sector_size

-- the head of a lone table
unfoldable pub lone_head : List ℕ → TableHead
lone_head table = head_of table lone_slot 0 (lone_sectors table)

-- a refusal that reads nothing, or what the table gives
pub data Lone : Type 0 where
  refused : ℕ → Lone
  reads : Table → Lone

-- "a lone table 7, 2, 6": the first two are decided before it is read
unfoldable pub lone_of : List ℕ → ℕ → ℕ → Lone
lone_of table records words =
    cond (is_odd_table (length table)) (refused odd_table)
    (cond (is_short records words) (refused short_buffer) (reads (area_at table lone_slot 0 (lone_sectors table))))

-- "A refusal returns its number, 6 also the warning count"
unfoldable pub lone_answer : Lone → TableAnswer
lone_answer (refused number) = record { refusal = number; warnings = 0; area = no_area }
lone_answer (reads (skips warning)) = record { refusal = no_audio_areas; warnings = length (warnings_of (skips warning)); area = no_area }
lone_answer (reads (yields area tracks warnings)) = record { refusal = 0; warnings = length warnings; area = area }

-- .. by the head of a table, and the count of all warnings
unfoldable pub head_answer : TableHead → ℕ → TableAnswer
head_answer head warnings = record { refusal = cond (eqb head.skip 0) 0 no_audio_areas; warnings = warnings; area = head.area }

-- "The tracks of an area stand in a lent list of records, one each." "tracks of a yielded area fill records from 0". "Everything else is
-- unchanged."
unfoldable pub lone_tracks : Lone → List Track → List Track
lone_tracks (refused number) old = old
lone_tracks (reads (skips warning)) old = old
lone_tracks (reads (yields area tracks warnings)) old = fill 0 tracks old

-- "the warnings fill the first words". "Every refusal but 6 .. changes no lent memory."
unfoldable pub lone_words : Lone → List ℕ → List ℕ
lone_words (refused number) old = old
lone_words (reads table) old = fill 0 (map word_of (warnings_of table)) old
