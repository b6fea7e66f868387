-- Two rips of one disc (02, item 8); and what is read from, one image or two rips. Assumes nothing.
use Rattle.std.specs.Prelude.{ℕ, ◌+◌, ◌*◌, max, cond, ◌&&◌, Bool, List, length, nat_lt, Result, Ok, Err, Some, None}
use Rattle.std.specs.Prelude as std
use Rattle.std.proofs.Math.Option.{Option, some}
use Rattle.sectors.specs.Options.{only_if}
use Rattle.sectors.specs.Fill.{start_at}
use Rattle.sectors.specs.Format.{stored_size, data_offset}
use Rattle.sectors.specs.Refusal.{number_of}
use Rattle.sectors.specs.Sector.{sector_count, readable, sector_data, data_start}
use Rattle.sectors.specs.Header.{is_sound}
use Rattle.sectors.specs.Audit.{header_format, header_at}
use Rattle.sectors.specs.Source.{Source, image_source}
use Rattle.sectors.specs.declared.refusal.Refusal.{Refusal}
use Rattle.sectors.specs.declared.refusal.Refusal.TheVariants as refusal
use Rattle.sectors.specs.declared.pool.Rip.{Rip}
use Rattle.sectors.specs.declared.pool.Rip.TheVariants as rip
use Rattle.sectors.specs.declared.pool.PoolAnswer.{PoolAnswer}
use Rattle.sectors.specs.declared.source.Source as lent
use Rattle.sectors.specs.declared.source.Source.TheVariants as source

-- "Operators rip a bad disc twice, both as format 2": a rip is an image of the format that has headers, `header_format`.

-- "if its header is sound". "A sector beyond a rip counts as unsound there"
unfoldable pub sound_in : List ℕ → ℕ → Bool
sound_in rip lsn = readable header_format (length rip) lsn 1 && is_sound (header_at rip lsn)

-- "the data bytes come back as a part of the first rip if its header is sound, else of the second if that is, else lost"
unfoldable pub pooled_at : List ℕ → List ℕ → ℕ → Option (List ℕ)
pooled_at first second lsn =
    cond (sound_in first lsn) (some (sector_data header_format first lsn)) (only_if (sound_in second lsn) (some (sector_data header_format second lsn)))

-- "The pooled image has as many sectors as the longer rip.": of two rips of so many bytes
unfoldable pub pooled_count : ℕ → ℕ → ℕ
pooled_count first second = max (sector_count header_format first) (sector_count header_format second)

-- "the pooled image", "a lost sector being unreadable"
unfoldable pub pooled_source : List ℕ → List ℕ → Source
pooled_source first second = record { count = pooled_count (length first) (length second); at = pooled_at first second }

-- ---- "come back as a part of the first rip": where the data bytes begin
-- in a rip
unfoldable pub data_place : ℕ → ℕ
data_place lsn = lsn * stored_size header_format + data_offset header_format

-- in the memory of the rip that has the sector; at the first rip's start if none has it
unfoldable pub pooled_start : List ℕ → List ℕ → ℕ → ℕ × ℕ → ℕ × ℕ → ℕ × ℕ
pooled_start first second lsn a b =
    cond (sound_in first lsn) (start_at a (data_place lsn)) (cond (sound_in second lsn) (start_at b (data_place lsn)) (start_at a 0))

-- ---- which rip has a sector
-- the numbers of the rips, and of none
abbrev pub first_rip : ℕ
first_rip = 1

abbrev pub second_rip : ℕ
second_rip = 2

abbrev pub lost_rip : ℕ
lost_rip = 0

-- "a definition states this paper's number and values for each of the enum's cases" (01): of a sector that a rip has also the place of its data there
unfoldable pub answer_of : ℕ → Result (std.Option Rip) Refusal → PoolAnswer
answer_of lsn (Ok (Some rip.First)) = record { refusal = 0; rip = first_rip; place = data_place lsn }
answer_of lsn (Ok (Some rip.Second)) = record { refusal = 0; rip = second_rip; place = data_place lsn }
answer_of lsn (Ok None) = record { refusal = 0; rip = lost_rip; place = 0 }
answer_of lsn (Err r) = record { refusal = number_of r; rip = lost_rip; place = 0 }

-- "part of the first rip .., else of the second .., else lost."
unfoldable pub rip_of : List ℕ → List ℕ → ℕ → std.Option Rip
rip_of first second lsn = cond (sound_in first lsn) (Some rip.First) (cond (sound_in second lsn) (Some rip.Second) None)

-- "one beyond both is refused 8."
unfoldable pub which_rip : List ℕ → List ℕ → ℕ → Result (std.Option Rip) Refusal
which_rip first second lsn =
    cond (nat_lt lsn (pooled_count (length first) (length second))) (Ok (rip_of first second lsn)) (Err refusal.NoSuchEntry)

unfoldable pub pool_of : List ℕ → List ℕ → ℕ → PoolAnswer
pool_of first second lsn = answer_of lsn (which_rip first second lsn)

-- ---- what is read from: two rips, or one image in a format
unfoldable pub source_of : lent.Source → Source
source_of (source.Image image) = image_source image.format image.bytes.now
source_of (source.Rips rips) = pooled_source rips.first.now rips.second.now

-- where the data bytes of a sector begin, in the memory of a rip or of the image
unfoldable pub source_start : lent.Source → ℕ → ℕ × ℕ
source_start (source.Image image) lsn = start_at image.bytes.ref_ptr (data_start image.format (length image.bytes.now) lsn)
source_start (source.Rips rips) lsn = pooled_start rips.first.now rips.second.now lsn rips.first.ref_ptr rips.second.ref_ptr
