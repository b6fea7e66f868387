-- Sectors of an image (01, "Sectors"). Assumes nothing.
use Rattle.std.specs.Prelude.{ℕ, zero, suc, ◌+◌, ◌*◌, ◌/◌, Bool, cond, not, ◌&&◌, List, [], ◌++◌, length, nat_le}
use Rattle.sectors.specs.Fill.{part}
use Rattle.sectors.specs.Format.{foreign, stored_size, data_offset, sector_size}
use Rattle.sectors.specs.Signature.{signed_at}

-- "Whole sectors are length divided by stored size, rounded down." (The library divides by 0 to 0: a foreign format has no
-- whole sector.)
unfoldable pub sector_count : ℕ → ℕ → ℕ
sector_count format bytes = bytes / stored_size format

-- "Sectors n onward, count c, are readable when n + c is at most that."
unfoldable pub readable : ℕ → ℕ → ℕ → ℕ → Bool
readable format bytes lsn count = nat_le (lsn + count) (sector_count format bytes)

-- "data begins at byte 0, 6, 12", "a sector's 2,048 data bytes": those of the sector at an address; none if it is not in the image.
unfoldable pub sector_data : ℕ → List ℕ → ℕ → List ℕ
sector_data format image lsn =
    cond (readable format (length image) lsn 1) (part (lsn * stored_size format + data_offset format) sector_size image) []

-- "data begins at byte 0, 6, 12": where a sector's data begin in an image of so many bytes; at its start if it is not in the image
unfoldable pub data_start : ℕ → ℕ → ℕ → ℕ
data_start format bytes lsn = cond (readable format bytes lsn 1) (lsn * stored_size format + data_offset format) 0

-- "A copy's bytes are its sectors' data bytes": those of `count` sectors from an address on, one after another.
unfoldable pub run_data : ℕ → List ℕ → ℕ → ℕ → List ℕ
run_data format image lsn zero = []
run_data format image lsn (suc count) = run_data format image lsn count ++ sector_data format image (lsn + count)

-- "LSN 510 doesn't begin `SACDMTOC`", of any sector and signature, whether the sector is whole or not: whether the signature's bytes stand
-- where the sector's data begin; in no foreign format
unfoldable pub begins_with : ℕ → List ℕ → ℕ → List ℕ → Bool
begins_with format image lsn signature = not (foreign format) && signed_at image (lsn * stored_size format + data_offset format) signature
