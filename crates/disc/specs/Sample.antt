-- Discs for the controls of demand 3: 603 sectors of format 0, zero but for a master table at LSN 510 and two tables of three sectors, at LSN 600
-- (TOC-1) and LSN 1 (TOC-2), such as that of 01's listing example. No byte of it is computed: its parts are what fills them. Assumes nothing.
use Rattle.std.specs.Prelude.{ℕ, ◌+◌, ◌*◌, ◌≤◌, true, false, ◌≢◌, ◌≡◌, length, get_or, replicate}
use Rattle.std.proofs.Common.{arith, sym, ◌∙◌}
use mathlib.Core.List.{List, [], ◌∷◌, ◌++◌}
use Rattle.std.proofs.Math.Path.{refl, ap}
use Rattle.std.proofs.lemmas.List.{length-replicate}
use Rattle.sectors.specs.Fill.{part, fill}
use Rattle.sectors.specs.FillLaws.{part_all, part_front, length_fill, part_filled, part_before}
use Rattle.sectors.specs.Format.{sector_size}
use Rattle.sectors.specs.Number.{be_at}
use Rattle.sectors.specs.NumberLaws.{be_byte, be_split, be_part}
use Rattle.sectors.specs.Sector.{sector_count}
use Rattle.sectors.proofs.SectorLaws.{is_readable, plain_count, plain_run}
use Rattle.sectors.specs.Signature.{signed_at}
use Rattle.sectors.proofs.SignatureLaws.{signed_here, signed_part, signed_other}
use Rattle.area.specs.Area.{two_channel_signature, multichannel_signature, kind_of}
use Rattle.area.specs.Chain.{track_list1_signature, track_list2_signature}
use Rattle.area.specs.Skip.{skip_of}
use Rattle.area.proofs.SkipLaws.{two_channel_serves, multichannel_serves, unsigned_skipped as neither-skipped, skip_none}
use Rattle.area.specs.Warning.{area_signature_invalid}
use Rattle.area.specs.UnitLaws.{lsn_number}
use Rattle.disc.specs.Slot.{two_channel}
use Rattle.disc.specs.Master.{master_lsn, master_sectors, master_signature, is_scarlet_book, major_version, pointer_at, pointer_of, master_of}
use Rattle.disc.specs.Demand3.{Served, HasSecond, first_place, second_place, master_table, copy_bytes, pointer}

-- so many zero bytes
blank : ℕ → List ℕ
blank n = replicate n 0

blank_length : (n : ℕ) → length (blank n) ≡ n
unfolding blank
blank_length n = length-replicate n 0

-- ---- numbers of two and four bytes, byte by byte

be_more : (table : List ℕ) (at w : ℕ) → be_at table at (w + 1) ≡ be_at table at w * 256 + get_or table (at + w) 0
be_more table at w = omega (arith, be_split w 1 table at, be_byte table (at + w))

be_two : (table : List ℕ) (at : ℕ) → be_at table at 2 ≡ get_or table at 0 * 256 + get_or table (at + 1) 0
be_two table at = omega (arith, be_more table at 1, be_byte table at)

be_four : (table : List ℕ) (at : ℕ)
    → be_at table at 4 ≡ ((get_or table at 0 * 256 + get_or table (at + 1) 0) * 256 + get_or table (at + 2) 0) * 256 + get_or table (at + 3) 0
be_four table at = omega (arith, be_more table at 3, be_more table at 2, be_two table at)

-- what begins with a signature is signed
signed_front : (signature rest : List ℕ) → signed_at (signature ++ rest) 0 signature ≡ true
signed_front signature rest =
    signed_here (signature ++ rest) 0 signature (part_front signature rest 0 (length signature) (omega arith) ∙ part_all (length signature) signature (omega arith))

-- ---- a list of which a part is known

module _ (l : List ℕ) (at n : ℕ) (known : List ℕ) (inside : at + n ≤ length l) (is : part at n l ≡ known) where
  part_number : (place width : ℕ) → place + width ≤ n → be_at l (at + place) width ≡ be_at known place width
  part_number place width h = sym (be_part width at n l place h) ∙ ap (λ (k : List ℕ). be_at k place width) is

  part_signed : (signature : List ℕ) → length signature ≤ n → signed_at l (at + 0) signature ≡ signed_at known 0 signature
  part_signed signature h = sym (signed_part at n l 0 signature (omega arith) inside) ∙ ap (λ (k : List ℕ). signed_at k 0 signature) is

-- ---- the area table: "Three sectors, zero but for: `TWOCHTOC` at 0; byte 20 = 4; byte 64 = 1; byte 69 = 1; the four-byte numbers 1000 at 72,
-- 2000 at 76, 1000 at 2056, 500 at 3076; `SACDTRL1` at 2048; `SACDTRL2` at 4096, bytes 1 0 1 at 5124."
abbrev head_rest : List ℕ
head_rest =
    0 ∷ 0 ∷ 0 ∷ 0 ∷ 0 ∷ 0 ∷ 0 ∷ 0 ∷ 0 ∷ 0 ∷ 0 ∷ 0 ∷ 4 ∷ 0 ∷ 0 ∷ 0 ∷ 0 ∷ 0 ∷ 0 ∷ 0 ∷ 0 ∷ 0 ∷ 0 ∷ 0
    ∷ 0 ∷ 0 ∷ 0 ∷ 0 ∷ 0 ∷ 0 ∷ 0 ∷ 0 ∷ 0 ∷ 0 ∷ 0 ∷ 0 ∷ 0 ∷ 0 ∷ 0 ∷ 0 ∷ 0 ∷ 0 ∷ 0 ∷ 0 ∷ 0 ∷ 0 ∷ 0 ∷ 0
    ∷ 0 ∷ 0 ∷ 0 ∷ 0 ∷ 0 ∷ 0 ∷ 0 ∷ 0 ∷ 1 ∷ 0 ∷ 0 ∷ 0 ∷ 0 ∷ 1 ∷ 0 ∷ 0 ∷ 0 ∷ 0 ∷ 3 ∷ 232 ∷ 0 ∷ 0 ∷ 7 ∷ 208 ∷ []

abbrev first_list : List ℕ
first_list = track_list1_signature ++ (0 ∷ 0 ∷ 3 ∷ 232 ∷ [])

-- .. with any first three bytes: in these the two signatures differ
module _ (a b c : ℕ) where
  abbrev signature : List ℕ
  signature = a ∷ b ∷ c ∷ 67 ∷ 72 ∷ 84 ∷ 79 ∷ 67 ∷ []

  abbrev head_bytes : List ℕ
  head_bytes = signature ++ head_rest

  with_head : List ℕ
  with_head = fill 0 head_bytes (blank 6144)

  with_first : List ℕ
  with_first = fill 2048 first_list with_head

  with_lengths : List ℕ
  with_lengths = fill 3076 (0 ∷ 0 ∷ 1 ∷ 244 ∷ []) with_first

  with_second : List ℕ
  with_second = fill 4096 track_list2_signature with_lengths

  pub marked_table : List ℕ
  marked_table = fill 5124 (1 ∷ 0 ∷ 1 ∷ []) with_second

  -- each of them has 6,144 bytes
  long_head : length with_head ≡ 6144
  unfolding with_head
  long_head = let n = blank_length 6144 in length_fill 0 head_bytes (blank 6144) (omega arith) ∙ n

  long_first : length with_first ≡ 6144
  unfolding with_first
  long_first = let n = long_head in length_fill 2048 first_list with_head (omega arith) ∙ n

  long_lengths : length with_lengths ≡ 6144
  unfolding with_lengths
  long_lengths = let n = long_first in length_fill 3076 (0 ∷ 0 ∷ 1 ∷ 244 ∷ []) with_first (omega arith) ∙ n

  long_second : length with_second ≡ 6144
  unfolding with_second
  long_second = let n = long_lengths in length_fill 4096 track_list2_signature with_lengths (omega arith) ∙ n

  pub marked_length : length marked_table ≡ 6144
  unfolding marked_table
  marked_length = let n = long_second in length_fill 5124 (1 ∷ 0 ∷ 1 ∷ []) with_second (omega arith) ∙ n

  -- what was filled in later stands behind
  head_there : part 0 80 marked_table ≡ head_bytes
  unfolding marked_table with_second with_lengths with_first with_head
  head_there =
      let a = blank_length 6144 in let b = long_head in let c = long_first in let d = long_lengths in let e = long_second in
      part_before 5124 (1 ∷ 0 ∷ 1 ∷ []) with_second (omega arith) 0 80 (omega arith)
      ∙ part_before 4096 track_list2_signature with_lengths (omega arith) 0 80 (omega arith)
      ∙ part_before 3076 (0 ∷ 0 ∷ 1 ∷ 244 ∷ []) with_first (omega arith) 0 80 (omega arith)
      ∙ part_before 2048 first_list with_head (omega arith) 0 80 (omega arith)
      ∙ part_filled 0 head_bytes (blank 6144) (omega arith)

  first_there : part 2048 12 marked_table ≡ first_list
  unfolding marked_table with_second with_lengths with_first
  first_there =
      let b = long_head in let c = long_first in let d = long_lengths in let e = long_second in
      part_before 5124 (1 ∷ 0 ∷ 1 ∷ []) with_second (omega arith) 2048 12 (omega arith)
      ∙ part_before 4096 track_list2_signature with_lengths (omega arith) 2048 12 (omega arith)
      ∙ part_before 3076 (0 ∷ 0 ∷ 1 ∷ 244 ∷ []) with_first (omega arith) 2048 12 (omega arith)
      ∙ part_filled 2048 first_list with_head (omega arith)

  second_there : part 4096 8 marked_table ≡ track_list2_signature
  unfolding marked_table with_second
  second_there =
      let d = long_lengths in let e = long_second in
      part_before 5124 (1 ∷ 0 ∷ 1 ∷ []) with_second (omega arith) 4096 8 (omega arith)
      ∙ part_filled 4096 track_list2_signature with_lengths (omega arith)

  head_number : (place width : ℕ) → place + width ≤ 80 → be_at marked_table (0 + place) width ≡ be_at head_bytes place width
  head_number = let n = marked_length in part_number marked_table 0 80 head_bytes (omega arith) head_there

  marked : signed_at marked_table 0 signature ≡ true
  marked = let n = marked_length in part_signed marked_table 0 80 head_bytes (omega arith) head_there signature (omega arith) ∙ signed_front signature head_rest

  -- where the signature is one of the two it is not skipped
  pub marked_kept : kind_of marked_table ≢ 0 → skip_of marked_table ≡ 0
  marked_kept kind =
      let n = marked_length in
      let first = part_signed marked_table 2048 12 first_list (omega arith) first_there track_list1_signature (omega arith) ∙ signed_front track_list1_signature (0 ∷ 0 ∷ 3 ∷ 232 ∷ []) in
      let start = head_number 72 4 (omega arith) ∙ be_four head_bytes 72 in
      let end = head_number 76 4 (omega arith) ∙ be_four head_bytes 76 in
      skip_none marked_table n kind first (signed_here marked_table 4096 track_list2_signature second_there) (omega (arith, start, end))

  -- and it has one track
  pub marked_count : be_at marked_table 69 1 ≡ 1
  marked_count = head_number 69 1 (omega arith) ∙ be_byte head_bytes 69

-- that of the example, which begins `TWOCHTOC`; the same with `MULCHTOC`; and with neither
abbrev pub sample_table : List ℕ
sample_table = marked_table 84 87 79

abbrev pub other_table : List ℕ
other_table = marked_table 77 85 76

abbrev pub unsigned_table : List ℕ
unsigned_table = marked_table 0 0 0

pub sample_kept : skip_of sample_table ≡ 0
sample_kept = marked_kept 84 87 79 (two_channel_serves sample_table (marked 84 87 79))

pub other_kept : skip_of other_table ≡ 0
other_kept = marked_kept 77 85 76 (multichannel_serves other_table (marked 77 85 76))

-- where one of them stands, none that begins otherwise does
begins_otherwise : (a b c : ℕ) (own : List ℕ) → length own ≡ 8 → (a ≡ get_or own 0 0 → ⊥) → signed_at (marked_table a b c) 0 own ≡ false
begins_otherwise a b c own eight differ =
    signed_other (marked_table a b c) 0 (signature a b c) own (marked a b c) eight (λ e. differ (ap (λ (l : List ℕ). get_or l 0 0) e))

pub other_unsigned : signed_at other_table 0 two_channel_signature ≡ false
other_unsigned = begins_otherwise 77 85 76 two_channel_signature refl (omega arith)

pub unsigned_skipped : skip_of unsigned_table ≡ area_signature_invalid
unsigned_skipped =
    neither-skipped unsigned_table (begins_otherwise 0 0 0 two_channel_signature refl (omega arith)) (begins_otherwise 0 0 0 multichannel_signature refl (omega arith))

-- ---- the image

-- the master table's first 88 bytes: `SACDMTOC`, version 1 and a minor version, TOC-1 600, TOC-2 1, three sectors
master_rest : ℕ → List ℕ
master_rest minor =
    1 ∷ minor ∷ 0 ∷ 0 ∷ 0 ∷ 0 ∷ 0 ∷ 0 ∷ 0 ∷ 0 ∷ 0 ∷ 0 ∷ 0 ∷ 0 ∷ 0 ∷ 0 ∷ 0 ∷ 0 ∷ 0 ∷ 0 ∷ 0 ∷ 0 ∷ 0 ∷ 0
    ∷ 0 ∷ 0 ∷ 0 ∷ 0 ∷ 0 ∷ 0 ∷ 0 ∷ 0 ∷ 0 ∷ 0 ∷ 0 ∷ 0 ∷ 0 ∷ 0 ∷ 0 ∷ 0 ∷ 0 ∷ 0 ∷ 0 ∷ 0 ∷ 0 ∷ 0 ∷ 0 ∷ 0 ∷ 0 ∷ 0 ∷ 0 ∷ 0 ∷ 0 ∷ 0 ∷ 0 ∷ 0
    ∷ 0 ∷ 0 ∷ 2 ∷ 88 ∷ 0 ∷ 0 ∷ 0 ∷ 1 ∷ 0 ∷ 0 ∷ 0 ∷ 0 ∷ 0 ∷ 0 ∷ 0 ∷ 0 ∷ 0 ∷ 0 ∷ 0 ∷ 0 ∷ 0 ∷ 3 ∷ 0 ∷ 0 ∷ []

-- a disc: its minor version, and its two copies
pub record Sample : Type 0 where
  pub minor : ℕ
  pub first : List ℕ
  pub second : List ℕ
  pub first_size : length first ≡ 6144
  pub second_size : length second ≡ 6144

module _ (disc : Sample) where
  master_head : List ℕ
  master_head = master_signature ++ master_rest disc.minor

  head_size_lem : length master_head ≡ 88
  unfolding master_head master_rest
  head_size_lem = refl

  -- 603 sectors, with the second copy, the master table, the first copy
  with_copy : List ℕ
  with_copy = fill 2048 disc.second (blank 1234944)

  with_master : List ℕ
  with_master = fill 1044480 master_head with_copy

  pub sample_image : List ℕ
  sample_image = fill 1228800 disc.first with_master

  long_copy : length with_copy ≡ 1234944
  unfolding with_copy
  long_copy = let n = blank_length 1234944 in let t = disc.second_size in length_fill 2048 disc.second (blank 1234944) (omega arith) ∙ n

  long_master : length with_master ≡ 1234944
  unfolding with_master
  long_master = let n = long_copy in let h = head_size_lem in length_fill 1044480 master_head with_copy (omega arith) ∙ n

  pub image_length : length sample_image ≡ 1234944
  unfolding sample_image
  image_length = let n = long_master in let t = disc.first_size in length_fill 1228800 disc.first with_master (omega arith) ∙ n

  pub image_sectors : sector_count 0 (length sample_image) ≡ 603
  image_sectors = ap (sector_count 0) image_length ∙ plain_count 603 0 (omega arith)

  -- a run of its sectors is a part of it
  image_run : (lsn n : ℕ) → lsn + n ≤ 603 → copy_bytes 0 sample_image (record { lsn = lsn; sectors = n }) ≡ part (lsn * sector_size) (n * sector_size) sample_image
  unfolding copy_bytes
  image_run lsn n h = let c = image_sectors in plain_run sample_image lsn n (is_readable 0 (length sample_image) lsn n (omega arith))

  -- ---- its copies

  pub first_bytes : copy_bytes 0 sample_image (record { lsn = 600; sectors = 3 }) ≡ disc.first
  unfolding sample_image
  first_bytes =
      let t = disc.first_size in let n = long_master in
      image_run 600 3 (omega arith) ∙ ap (λ (k : ℕ). part 1228800 k sample_image) (sym t) ∙ part_filled 1228800 disc.first with_master (omega arith)

  pub second_bytes : copy_bytes 0 sample_image (record { lsn = 1; sectors = 3 }) ≡ disc.second
  unfolding sample_image with_master with_copy
  second_bytes =
      let f = disc.first_size in let t = disc.second_size in
      let n = long_master in let c = long_copy in let h = head_size_lem in let b = blank_length 1234944 in
      image_run 1 3 (omega arith)
      ∙ part_before 1228800 disc.first with_master (omega arith) 2048 6144 (omega arith)
      ∙ part_before 1044480 master_head with_copy (omega arith) 2048 6144 (omega arith)
      ∙ ap (λ (k : ℕ). part 2048 k with_copy) (sym t)
      ∙ part_filled 2048 disc.second (blank 1234944) (omega arith)

  -- ---- its master table

  head_in_image : part 1044480 88 sample_image ≡ master_head
  unfolding sample_image with_master
  head_in_image =
      let t = disc.first_size in let n = long_master in let c = long_copy in let h = head_size_lem in
      part_before 1228800 disc.first with_master (omega arith) 1044480 88 (omega arith)
      ∙ ap (λ (k : ℕ). part 1044480 k with_master) (sym h)
      ∙ part_filled 1044480 master_head with_copy (omega arith)

  table_part : master_table 0 sample_image ≡ part 1044480 20480 sample_image
  unfolding master_table copy_bytes
  table_part = image_run master_lsn master_sectors (omega arith)

  master_number : (place width : ℕ) → place + width ≤ 88 → be_at (master_table 0 sample_image) place width ≡ be_at master_head place width
  master_number place width h =
      let n = image_length in
      ap (λ (k : List ℕ). be_at k place width) table_part
      ∙ be_part width 1044480 20480 sample_image place (omega arith)
      ∙ part_number sample_image 1044480 88 master_head (omega arith) head_in_image place width h

  pub sample_scarlet : is_scarlet_book (master_table 0 sample_image) ≡ true
  unfolding is_scarlet_book master_head
  sample_scarlet =
      let n = image_length in
      ap (λ (k : List ℕ). signed_at k 0 master_signature) table_part
      ∙ signed_part 1044480 20480 sample_image 0 master_signature (omega arith) (omega arith)
      ∙ part_signed sample_image 1044480 88 master_head (omega arith) head_in_image master_signature (omega arith)
      ∙ signed_front master_signature (master_rest disc.minor)

  pub sample_version : major_version (master_table 0 sample_image) ≡ 1
  unfolding major_version master_head master_rest
  sample_version = master_number 8 1 (omega arith) ∙ be_byte master_head 8

  pub sample_minor : (master_of (master_table 0 sample_image)).version.minor ≡ disc.minor
  unfolding master_of master_head master_rest
  sample_minor = master_number 9 1 (omega arith) ∙ be_byte master_head 9

  -- what it names for the two-channel slot
  toc1_is : (pointer 0 sample_image two_channel).toc1_lsn.0 ≡ 600
  unfolding pointer pointer_of pointer_at master_head master_rest
  toc1_is = lsn_number (master_table 0 sample_image) 64 ∙ master_number 64 4 (omega arith) ∙ be_four master_head 64

  toc2_is : (pointer 0 sample_image two_channel).toc2_lsn.0 ≡ 1
  unfolding pointer pointer_of pointer_at master_head master_rest
  toc2_is = lsn_number (master_table 0 sample_image) 68 ∙ master_number 68 4 (omega arith) ∙ be_four master_head 68

  sectors_is : (pointer 0 sample_image two_channel).toc_sectors ≡ 3
  unfolding pointer pointer_of pointer_at master_head master_rest
  sectors_is = master_number 84 2 (omega arith) ∙ be_two master_head 84

  pub sample_served : Served (pointer 0 sample_image two_channel)
  sample_served =
      let a = toc1_is in let b = sectors_is in
      record { toc1_nonzero = omega (arith, a); sectors_nonzero = omega (arith, b); sectors_few = omega (arith, b) }

  pub sample_second : HasSecond (pointer 0 sample_image two_channel)
  sample_second = omega (arith, toc2_is)

  pub first_place_lem : first_place (pointer 0 sample_image two_channel) ≡ record { lsn = 600; sectors = 3 }
  unfolding first_place
  first_place_lem = λ i. record { lsn = toc1_is i; sectors = sectors_is i }

  pub second_place_lem : second_place (pointer 0 sample_image two_channel) ≡ record { lsn = 1; sectors = 3 }
  unfolding second_place
  second_place_lem = λ i. record { lsn = toc2_is i; sectors = sectors_is i }
