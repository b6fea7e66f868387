-- "Headers gathered for the tape store." (02, item 13.) Assumes nothing.
use Rattle.std.specs.Prelude.{◌≡◌, ℕ, zero, suc, ◌+◌, ◌*◌, cond, List, [], ◌++◌, Result, Ok, Err, eqb, length, drop}
use Rattle.sectors.specs.Audit.{header_format}
use Rattle.sectors.specs.Fill.{part}
use Rattle.sectors.specs.Format.{sector_size}
use Rattle.sectors.specs.Sector.{sector_count}
use Rattle.tape.specs.declared.store.UnequalLengths.{UnequalLengths}

-- "12-byte heads, then all data, then all 4-byte tails": what a stored sector is made of
abbrev pub head_size : ℕ
head_size = 12

abbrev pub tail_size : ℕ
tail_size = 4

-- its bytes before the tail, and all of them
abbrev pub tail_offset : ℕ
tail_offset = head_size + sector_size

abbrev pub raw_size : ℕ
raw_size = tail_offset + tail_size

-- "For a format 2 image": its whole sectors
unfoldable pub sectors_in : List ℕ → ℕ
sectors_in image = sector_count header_format (length image)

-- the first `n` of a row of lists, one after another
unfoldable pub blocks : (ℕ → List ℕ) → ℕ → List ℕ
blocks f zero = []
blocks f (suc n) = blocks f n ++ f n

-- ---- gathered

-- `size` bytes of stored sector `k`, from `offset` on
unfoldable pub piece_of : ℕ → ℕ → List ℕ → ℕ → List ℕ
piece_of offset size image k = part (k * raw_size + offset) size image

-- its head, its data and its tail
unfoldable pub head_of : List ℕ → ℕ → List ℕ
head_of = piece_of 0 head_size

unfoldable pub data_of : List ℕ → ℕ → List ℕ
data_of = piece_of head_size sector_size

unfoldable pub tail_of : List ℕ → ℕ → List ℕ
tail_of = piece_of tail_offset tail_size

-- "write all 12-byte heads, then all data, then all 4-byte tails, then any rest shorter than a sector as it came": of `n` sectors
unfoldable pub gathered : ℕ → List ℕ → List ℕ
gathered n image =
    blocks (head_of image) n ++ (blocks (data_of image) n ++ (blocks (tail_of image) n ++ drop (n * raw_size) image))

-- ---- scattered

-- piece `k` of gathered ones: before it stand `offset` bytes of each of `n` sectors, and `k` pieces as long as it
unfoldable pub piece_from : ℕ → ℕ → ℕ → List ℕ → ℕ → List ℕ
piece_from n offset size bytes k = part (n * offset + k * size) size bytes

-- a sector is its head, its data and its tail
unfoldable pub sector_from : ℕ → List ℕ → ℕ → List ℕ
sector_from n bytes k =
    piece_from n 0 head_size bytes k ++ (piece_from n head_size sector_size bytes k ++ piece_from n tail_offset tail_size bytes k)

-- "The way back": sector by sector, then the rest
unfoldable pub scattered : ℕ → List ℕ → List ℕ
scattered n bytes = blocks (sector_from n bytes) n ++ drop (n * raw_size) bytes

-- ---- what a call answers

-- "20, unequal lengths"
abbrev pub unequal_lengths : ℕ
unequal_lengths = 20

-- the number of an answer, 0 for no refusal
unfoldable pub refusal_of : Result (Unit {0}) UnequalLengths → ℕ
refusal_of (Ok value) = 0
refusal_of (Err refusal) = unequal_lengths

-- "The two lent buffers are of equal length.": the refusal, 0 for none
unfoldable pub lengths_refusal : ℕ → ℕ → ℕ
lengths_refusal read written = cond (eqb read written) 0 unequal_lengths

-- "changing neither buffer": what is in the written one after the call; the other is only read
unfoldable pub gather_into : List ℕ → List ℕ → List ℕ
gather_into image old = cond (eqb (length image) (length old)) (gathered (sectors_in image) image) old

unfoldable pub scatter_into : List ℕ → List ℕ → List ℕ
scatter_into bytes old = cond (eqb (length bytes) (length old)) (scattered (sectors_in bytes) bytes) old

-- "The way back restores each image of any length byte for byte.": what the other way makes of what is written, in any buffer as long
unfoldable pub Restores : (List ℕ → List ℕ → List ℕ) → List ℕ → List ℕ → Type 0
Restores other read written = (old : List ℕ) → length read ≡ length old → other written old ≡ read
