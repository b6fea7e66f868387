-- What sector addresses hold. Everything of a disc is defined over a source; a lent image is one. Assumes nothing.
use Rattle.std.specs.Prelude.{◌≡◌, ℕ, zero, suc, ◌+◌, List, [], ◌++◌, length, nat_le}
use Rattle.std.proofs.Math.Option.{Option, none, some}
use Rattle.sectors.specs.Options.{only_if}
use Rattle.sectors.specs.Format.{sector_size}
use Rattle.sectors.specs.Sector.{sector_count, readable, sector_data}

-- so many sectors, and at each address the sector's data bytes, or nothing where it cannot be read
pub record Source : Type 0 where
  pub count : ℕ
  pub at : ℕ → Option (List ℕ)

-- "a sector's 2,048 data bytes": every sector that is there has them all
pub record Sized (source : Source) : Type 0 where
  pub sized : (n : ℕ) (d : List ℕ) → source.at n ≡ some d → length d ≡ sector_size

-- "Disc reading borrows the image": the source of a lent image
unfoldable pub image_source : ℕ → List ℕ → Source
image_source format image =
    record {
      count = sector_count format (length image);
      at = λ lsn. only_if (readable format (length image) lsn 1) (some (sector_data format image lsn));
    }

-- one after another, if both are there
unfoldable pub joined : Option (List ℕ) → Option (List ℕ) → Option (List ℕ)
joined none y = none
joined (some a) none = none
joined (some a) (some b) = some (a ++ b)

-- the data bytes of `n` sectors from an address on, if each of them is there
unfoldable pub sectors_of : Source → ℕ → ℕ → Option (List ℕ)
sectors_of source lsn zero = some []
sectors_of source lsn (suc n) = joined (sectors_of source lsn n) (source.at (lsn + n))

-- "[A copy] lies in an image when its sectors are readable there": a run of `n` sectors is there when `lsn + n` is at most the
-- source's count and each of them is
unfoldable pub run_of : Source → ℕ → ℕ → Option (List ℕ)
run_of source lsn n = only_if (nat_le (lsn + n) source.count) (sectors_of source lsn n)
