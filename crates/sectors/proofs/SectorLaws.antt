-- Laws of formats and of an image's sectors: their sizes, which of them are readable, and their data bytes. Assumes nothing.
use Rattle.std.specs.Prelude.{◌≡◌, ℕ, zero, suc, ◌+◌, ◌-◌, ◌*◌, ◌/◌, ◌<◌, ◌≤◌, Bool, true, false, is_none, ◌≢◌, ◌↔◌, List, [], ◌++◌, length, drop, slice_index}
use Rattle.std.proofs.Common.{add-zero, add-suc, add_assoc, div-le_self, div-mul-le_self, le-div_iff_mul-le, mul-le-mul_right, sym, ◌∙◌, ext_get_or, take_at, take-add, drop-drop, leb-true, leb-false, le-leb}
use Rattle.std.proofs.Math.Nat.{div-zero, lt-mul-div-succ}
use native.Mathlib.Omega.{arith}
use Rattle.std.proofs.Math.Path.{refl, ap}
use mathlib.Core.List.{append-nil, append_assoc}
use Rattle.std.proofs.Math.ListN.{length-append}
use Rattle.std.proofs.Math.Seq.{drop_at}
use Rattle.std.proofs.lemmas.Bool.{lt-leb}
use Rattle.sectors.specs.Fill.{part}
use Rattle.sectors.specs.FillLaws.{part_length, part_at, part_part}
use Rattle.sectors.specs.Format.{foreign, layout_of, stored_size, data_offset, sector_size}
use Rattle.sectors.specs.Sector.{sector_count, readable, sector_data, data_start, run_data}

-- ---- formats

-- "format is not 0 (`Plain`), 1 (`Raw2054`), 2 (`Raw2064`)"
pub foreign_when : (format : ℕ) → (foreign format ≡ true) ↔ ((format ≢ 0) × ((format ≢ 1) × (format ≢ 2)))
unfolding foreign
foreign_when format = (
  (λ e. let above = leb-true 3 format e in (omega arith, (omega arith, omega arith))),
  (λ n.
      let zeroth = n.0 in let first = n.1.0 in let second = n.1.1 in
      le-leb 3 format (omega arith)),
)

-- a foreign format has no layout
pub foreign_none : (format : ℕ) → is_none (layout_of format) ≡ foreign format
unfolding layout_of foreign
foreign_none zero = refl
foreign_none (suc zero) = refl
foreign_none (suc (suc zero)) = refl
foreign_none (suc (suc (suc n))) = sym (le-leb 3 (suc (suc (suc n))) (omega arith))

-- and no stored size
pub foreign_size : (format : ℕ) → foreign format ≡ true → stored_size format ≡ 0
unfolding stored_size layout_of foreign
foreign_size zero h = cc
foreign_size (suc zero) h = cc
foreign_size (suc (suc zero)) h = cc
foreign_size (suc (suc (suc n))) h = refl

-- `Raw2064`
pub raw2064_size : stored_size 2 ≡ 2064
unfolding stored_size layout_of
raw2064_size = refl

-- in any format that is not foreign the data lie in the stored sector
pub data_inside : (format : ℕ) → foreign format ≡ false → data_offset format + sector_size ≤ stored_size format
unfolding stored_size data_offset layout_of foreign
data_inside zero h = omega arith
data_inside (suc zero) h = omega arith
data_inside (suc (suc zero)) h = omega arith
data_inside (suc (suc (suc n))) h = omega (arith, leb-false 3 (suc (suc (suc n))) h)

-- ---- which sectors are readable

-- `readable` says that the run ends by the last whole sector, and nothing else
pub readable_true : (format bytes lsn count : ℕ) → readable format bytes lsn count ≡ true → lsn + count ≤ sector_count format bytes
unfolding readable
readable_true format bytes lsn count h = leb-true (lsn + count) (sector_count format bytes) h

pub readable_false : (format bytes lsn count : ℕ) → readable format bytes lsn count ≡ false → sector_count format bytes < lsn + count
unfolding readable
readable_false format bytes lsn count h = leb-false (lsn + count) (sector_count format bytes) h

pub is_readable : (format bytes lsn count : ℕ) → lsn + count ≤ sector_count format bytes → readable format bytes lsn count ≡ true
unfolding readable
is_readable format bytes lsn count h = le-leb (lsn + count) (sector_count format bytes) h

pub not_readable : (format bytes lsn count : ℕ) → sector_count format bytes < lsn + count → readable format bytes lsn count ≡ false
unfolding readable
not_readable format bytes lsn count h = lt-leb (lsn + count) (sector_count format bytes) h

-- a foreign format has no whole sector
pub foreign_count : (format bytes : ℕ) → foreign format ≡ true → sector_count format bytes ≡ 0
unfolding sector_count
foreign_count format bytes h = rw (foreign_size format h) (div-zero _)

-- a format that has a whole sector is not foreign
pub count_known : (format bytes : ℕ) → 0 < sector_count format bytes → foreign format ≡ false
count_known format bytes h = go (foreign format) refl
  where
    go : (b : Bool) → foreign format ≡ b → b ≡ false
    go false e = refl
    go true e = absurd (omega (arith, foreign_count format bytes e))

-- whole sectors lie in the image
pub count_fits : (format bytes n : ℕ) → n ≤ sector_count format bytes → n * stored_size format ≤ bytes
unfolding sector_count
count_fits format bytes n h = omega (arith, mul-le-mul_right (stored_size format) h, div-mul-le_self bytes (stored_size format))

-- "rounded down": what is behind them is shorter than a sector
pub count_most : (format bytes : ℕ) → 0 < stored_size format → bytes < (sector_count format bytes + 1) * stored_size format
unfolding sector_count
count_most format bytes positive = omega (arith, lt-mul-div-succ bytes positive)

-- there are no more sectors than bytes
pub count_bound : (format bytes : ℕ) → sector_count format bytes ≤ bytes
unfolding sector_count
count_bound format bytes = div-le_self bytes (stored_size format)

-- a longer image has no fewer sectors
pub count_mono : (format m n : ℕ) → m ≤ n → sector_count format m ≤ sector_count format n
unfolding sector_count
count_mono format m n h = go (foreign format) refl
  where
    go : (b : Bool) → foreign format ≡ b → m / stored_size format ≤ n / stored_size format
    go false e =
        let k = data_inside format e in
        let positive : 0 < stored_size format = omega arith in
        let low = div-mul-le_self m (stored_size format) in
        (le-div_iff_mul-le positive).1 (omega arith)
    go true e = simp (foreign_size format e, div-zero) (omega arith)

-- ---- data bytes

module _ (format : ℕ) (image : List ℕ) where
  -- the stored bytes of a sector that is in the image are in it
  pub stored_inside : (lsn : ℕ) → readable format (length image) lsn 1 ≡ true → lsn * stored_size format + stored_size format ≤ length image
  stored_inside lsn h =
      omega (arith, count_fits format (length image) (lsn + 1) (readable_true format (length image) lsn 1 h))

  -- and its data lie in them
  pub data_fits : (lsn : ℕ) → readable format (length image) lsn 1 ≡ true → data_offset format + sector_size ≤ stored_size format
  data_fits lsn h =
      let r = readable_true format (length image) lsn 1 h in data_inside format (count_known format (length image) (omega arith))

  pub sector_inside : (lsn : ℕ) → readable format (length image) lsn 1 ≡ true → lsn * stored_size format + data_offset format + sector_size ≤ length image
  sector_inside lsn h = omega (arith, stored_inside lsn h, data_fits lsn h)

  pub sector_is : (lsn : ℕ) → readable format (length image) lsn 1 ≡ true
      → sector_data format image lsn ≡ part (lsn * stored_size format + data_offset format) sector_size image
  unfolding sector_data
  sector_is lsn h = rw h

  -- one that is not has no data bytes
  pub sector_missing : (lsn : ℕ) → readable format (length image) lsn 1 ≡ false → sector_data format image lsn ≡ []
  unfolding sector_data
  sector_missing lsn h = rw h

  pub sector_length : (lsn : ℕ) → readable format (length image) lsn 1 ≡ true → length (sector_data format image lsn) ≡ sector_size
  sector_length lsn h =
      ap length (sector_is lsn h) ∙ part_length (lsn * stored_size format + data_offset format) sector_size image (sector_inside lsn h)

  -- data byte i of a sector, as a byte of the image
  pub sector_byte : (lsn i : ℕ) → readable format (length image) lsn 1 ≡ true → i < sector_size
      → slice_index (sector_data format image lsn) i ≡ slice_index image (lsn * stored_size format + data_offset format + i)
  sector_byte lsn i h q =
      ap (λ (s : List ℕ). slice_index s i) (sector_is lsn h) ∙ part_at (lsn * stored_size format + data_offset format) sector_size image i 0 q

  -- each sector of a readable run is in the image
  pub sector_of_run : (lsn count k : ℕ) → readable format (length image) lsn count ≡ true → k < count
      → readable format (length image) (lsn + k) 1 ≡ true
  sector_of_run lsn count k h l =
      let r = readable_true format (length image) lsn count h in is_readable format (length image) (lsn + k) 1 (omega arith)

  -- the start of a readable run is readable
  pub run_shorter : (lsn count k : ℕ) → readable format (length image) lsn count ≡ true → k ≤ count
      → readable format (length image) lsn k ≡ true
  run_shorter lsn count k h l =
      let r = readable_true format (length image) lsn count h in is_readable format (length image) lsn k (omega arith)

  pub run_length : (lsn count : ℕ) → readable format (length image) lsn count ≡ true
      → length (run_data format image lsn count) ≡ count * sector_size
  unfolding run_data
  run_length lsn zero h = refl
  run_length lsn (suc count) h =
      let e = run_length lsn count (run_shorter lsn (suc count) count h (omega arith)) in
      let d = sector_length (lsn + count) (sector_of_run lsn (suc count) count h (omega arith)) in
      rw length-append (omega arith)

  -- a run of m and n sectors is a run of m and the run of the n after them
  pub run_append : (lsn m n : ℕ) → run_data format image lsn (m + n) ≡ run_data format image lsn m ++ run_data format image (lsn + m) n
  unfolding run_data
  run_append lsn m zero = simp (add-zero, append-nil)
  run_append lsn m (suc n) = simp (add-suc, run_append lsn m n, append_assoc, add_assoc)

  -- sector k of a readable run
  pub run_part : (lsn count k : ℕ) → readable format (length image) lsn count ≡ true → k < count
      → part (k * sector_size) sector_size (run_data format image lsn count) ≡ sector_data format image (lsn + k)
  unfolding part run_data
  run_part lsn count k h l =
      let rest = run_data format image (lsn + suc k) (count - suc k) in
      let here = sector_data format image (lsn + k) in
      let total : suc k + (count - suc k) ≡ count = omega arith in
      let whole : run_data format image lsn count ≡ run_data format image lsn k ++ (here ++ rest) =
      ap (run_data format image lsn) (sym total) ∙ run_append lsn (suc k) (count - suc k) ∙ append_assoc (run_data format image lsn k) here rest in
      let front = run_length lsn k (run_shorter lsn count k h (omega arith)) in
      let size = sector_length (lsn + k) (sector_of_run lsn count k h l) in
      rw (whole, drop_at (run_data format image lsn k) (here ++ rest) (k * sector_size) front) (take_at here rest sector_size size)

  -- byte i of sector k of a readable run, as a byte of the image
  pub run_byte : (lsn count k i : ℕ) → readable format (length image) lsn count ≡ true → k < count → i < sector_size
      → slice_index (run_data format image lsn count) (k * sector_size + i)
      ≡ slice_index image ((lsn + k) * stored_size format + data_offset format + i)
  run_byte lsn count k i h l q =
      sym (part_at (k * sector_size) sector_size (run_data format image lsn count) i 0 q)
      ∙ ap (λ (s : List ℕ). slice_index s i) (run_part lsn count k h l)
      ∙ sector_byte (lsn + k) i (sector_of_run lsn count k h l) q

  -- bytes of sector k of a readable run, as a part of the image
  pub run_section : (lsn count k i n : ℕ) → readable format (length image) lsn count ≡ true → k < count → i + n ≤ sector_size
      → part (k * sector_size + i) n (run_data format image lsn count) ≡ part ((lsn + k) * stored_size format + data_offset format + i) n image
  run_section lsn count k i n h l q =
      let there = sector_of_run lsn count k h l in
      let long = run_length lsn count h in
      sym (part_part (k * sector_size) sector_size i n (run_data format image lsn count) q (omega arith))
      ∙ ap (part i n) (run_part lsn count k h l ∙ sector_is (lsn + k) there)
      ∙ part_part ((lsn + k) * stored_size format + data_offset format) sector_size i n image q (sector_inside (lsn + k) there)

-- two images that agree on a sector's data bytes have the same sector
pub sector_ext : (format : ℕ) (a b : List ℕ) (lsn : ℕ)
    → readable format (length a) lsn 1 ≡ true → readable format (length b) lsn 1 ≡ true
    → ((i : ℕ) → i < sector_size
    → slice_index a (lsn * stored_size format + data_offset format + i) ≡ slice_index b (lsn * stored_size format + data_offset format + i))
    → sector_data format a lsn ≡ sector_data format b lsn
sector_ext format a b lsn ha hb each =
    let la = sector_length format a lsn ha in
    ext_get_or 0 (sector_data format a lsn) (sector_data format b lsn) (la ∙ sym (sector_length format b lsn hb))
    (λ i q.
    let small : i < sector_size = omega arith in
    sector_byte format a lsn i ha small ∙ each i small ∙ sym (sector_byte format b lsn i hb small))

-- where a sector's data begin
pub data_starts : (format bytes lsn : ℕ) → readable format bytes lsn 1 ≡ true → data_start format bytes lsn ≡ lsn * stored_size format + data_offset format
unfolding data_start
data_starts format bytes lsn there = simp there

-- without data: at the image's start
pub data_missing : (format bytes lsn : ℕ) → readable format bytes lsn 1 ≡ false → data_start format bytes lsn ≡ 0
unfolding data_start
data_missing format bytes lsn missing = simp missing

-- ---- format 0, which stores a sector's data and nothing else
pub plain_count : (n rest : ℕ) → rest < sector_size → sector_count 0 (n * sector_size + rest) ≡ n
unfolding sector_count stored_size layout_of
plain_count n rest h = omega arith

-- a run of its sectors is a part of the image
pub plain_run : (image : List ℕ) (lsn n : ℕ) → readable 0 (length image) lsn n ≡ true
    → run_data 0 image lsn n ≡ part (lsn * sector_size) (n * sector_size) image
unfolding run_data part stored_size data_offset layout_of
plain_run image lsn zero h = refl
plain_run image lsn (suc n) h =
    let front = plain_run image lsn n (run_shorter 0 image lsn (suc n) n h (omega arith)) in
    let last = sector_is 0 image (lsn + n) (sector_of_run 0 image lsn (suc n) n h (omega arith)) in
    let place : (lsn + n) * sector_size + 0 ≡ lsn * sector_size + n * sector_size = omega arith in
    let size : suc n * sector_size ≡ n * sector_size + sector_size = omega arith in
    rw (front, last, place, size, take-add (n * sector_size) sector_size (drop (lsn * sector_size) image), drop-drop (n * sector_size) (lsn * sector_size) image)
