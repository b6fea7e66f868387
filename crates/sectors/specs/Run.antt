-- Reading a run of sectors into lent memory, and comparing one with it. Assumes nothing.
use Rattle.std.specs.Prelude.{ℕ, Result, Ok, Err, ◌+◌, ◌*◌, Bool, cond, not, ◌&&◌, List, length, take, ◌==◌, nat_le}
use Rattle.sectors.specs.Refusal.{foreign_format, short_buffer, no_such_entry, number_of}
use Rattle.sectors.specs.Format.{foreign, sector_size}
use Rattle.sectors.specs.Sector.{readable, run_data}
use Rattle.sectors.specs.Bytes.{same}
use Rattle.sectors.specs.Fill.{fill}
use Rattle.sectors.specs.Options.{is_there, given}
use Rattle.sectors.specs.Source.{Source, run_of}
use Rattle.sectors.specs.declared.refusal.Refusal.{Refusal}
use Rattle.sectors.specs.declared.run.Comparison.{Comparison}

-- The refusal of a run that is to be read into, or compared with, `size` lent bytes from a place on: "1 | foreign format", "2 | ..
-- a lent buffer is below its size", "8 | .. sector not in the image", in this order; 0 if none applies.
unfoldable pub read_refusal : ℕ → ℕ → ℕ → ℕ → ℕ → ℕ → ℕ
read_refusal format bytes lsn count at size =
    cond (foreign format) foreign_format
    (cond (nat_le (at + count * sector_size) size) (cond (readable format bytes lsn count) 0 no_such_entry) short_buffer)

-- The lent bytes after a run was read into them: the run's data bytes fill them from a place on. "Every refusal but 6, any added
-- later too, changes no lent memory."
unfoldable pub read_into : ℕ → List ℕ → ℕ → ℕ → ℕ → List ℕ → List ℕ
read_into format image lsn count at old =
    cond (read_refusal format (length image) lsn count at (length old) == 0) (fill at (run_data format image lsn count) old) old

-- How a run compares with as many lent bytes, from the first on: 1 where they are the same, else 0; 0 with a refusal.
unfoldable pub comparison_of : ℕ → List ℕ → ℕ → ℕ → List ℕ → Comparison
comparison_of format image lsn count bytes =
    record {
      refusal = read_refusal format (length image) lsn count 0 (length bytes);
      equal =
          cond
          (read_refusal format (length image) lsn count 0 (length bytes) == 0
          && same (run_data format image lsn count) (take (count * sector_size) bytes)) 1 0;
    }

-- "a definition states this paper's number and values for each of the enum's cases" (01)
unfoldable pub compared : Result Bool Refusal → Comparison
compared (Ok equal) = record { refusal = 0; equal = cond equal 1 0 }
compared (Err r) = record { refusal = number_of r; equal = 0 }

-- ---- of any source
-- The lent bytes after a run is read into them: it fills them from a place on, if it is there and there is room.
unfoldable pub run_into : Source → ℕ → ℕ → ℕ → List ℕ → List ℕ
run_into source lsn count at old =
    cond (nat_le (at + count * sector_size) (length old) && is_there (run_of source lsn count)) (fill at (given (run_of source lsn count)) old) old

-- Whether a run that is there differs from as many lent bytes, from the first on.
unfoldable pub run_unequal : Source → ℕ → ℕ → List ℕ → Bool
run_unequal source lsn count bytes =
    nat_le (count * sector_size) (length bytes)
    && is_there (run_of source lsn count)
    && not (same (given (run_of source lsn count)) (take (count * sector_size) bytes))
