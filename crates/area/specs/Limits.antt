-- How large a table is, and which of the bytes that are lent it has. Assumes nothing.
use Rattle.std.specs.Prelude.{ℕ, ◌*◌, min, List}
use Rattle.sectors.specs.Fill.{part}
use Rattle.sectors.specs.Format.{sector_size}

-- "Above 128 sectors: warning 3, nothing read."
abbrev pub max_area_toc_sectors : ℕ
max_area_toc_sectors = 128

-- "a lone table of 0 bytes, over 262,144"
abbrev pub max_table_bytes : ℕ
max_table_bytes = 262144

-- "Tracks number byte 69, 0 to 255."
abbrev pub max_tracks : ℕ
max_tracks = 255

-- warnings at most: of a table's head one of 8 to 11 or 18; of a track 14, 15, 12 or 13, and 19
abbrev pub max_head_warnings : ℕ
max_head_warnings = 1

abbrev pub max_track_warnings : ℕ
max_track_warnings = 4

-- "a sector count above 128 counts as 128"
unfoldable pub table_size : ℕ → ℕ
table_size sectors = min sectors max_area_toc_sectors * sector_size

-- the bytes of a table of so many sectors that stands at the start of what is lent
unfoldable pub table_bytes : ℕ → List ℕ → List ℕ
table_bytes sectors lent = part 0 (table_size sectors) lent
