-- Laws of a table's bytes: how many there are, and a table that is lent whole. Assumes nothing.
use Rattle.std.specs.Prelude.{◌≡◌, List, ◌++◌, ℕ, ◌*◌, ◌≤◌, length}
use Rattle.std.proofs.Common.{◌∙◌, arith}
use Rattle.sectors.specs.FillLaws.{part_size, part_all, part_front}
use Rattle.sectors.specs.Format.{sector_size}
use Rattle.area.specs.Limits.{max_area_toc_sectors, max_table_bytes, table_size, table_bytes}

pub table_bytes_small : (sectors : ℕ) (lent : List ℕ) → length (table_bytes sectors lent) ≤ max_table_bytes
unfolding table_bytes table_size
table_bytes_small sectors lent = omega (arith, part_size 0 (table_size sectors) lent)

-- a table of at most 128 sectors that is lent whole
pub table_bytes_all : (sectors : ℕ) (table : List ℕ) → sectors ≤ max_area_toc_sectors → length table ≡ sectors * sector_size → table_bytes sectors table ≡ table
unfolding table_bytes table_size
table_bytes_all sectors table small e = part_all _ table (omega arith)

-- .. or at the start of more
pub table_bytes_front : (sectors : ℕ) (table behind : List ℕ) → sectors ≤ max_area_toc_sectors → length table ≡ sectors * sector_size
    → table_bytes sectors (table ++ behind) ≡ table
unfolding table_bytes table_size
table_bytes_front sectors table behind small e =
    part_front table behind 0 (table_size sectors) (omega arith) ∙ table_bytes_all sectors table small e

-- how long a table of at most 128 sectors is
pub table_size_lem : (sectors : ℕ) → sectors ≤ max_area_toc_sectors → table_size sectors ≡ sectors * sector_size
unfolding table_size
table_size_lem sectors small = omega arith
