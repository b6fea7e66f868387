-- Big-endian numbers of a table. Assumes nothing.
use Rattle.std.specs.Prelude.{ℕ, zero, suc, ◌+◌, ◌*◌, List, slice_index}

-- "Numbers are big-endian.": the number in `width` bytes from a place on. (A byte past the table's end reads as 0, as in the Rust.)
unfoldable pub be_at : List ℕ → ℕ → ℕ → ℕ
be_at table at zero = 0
be_at table at (suc width) = be_at table at width * 256 + slice_index table (at + width)
