-- Mending a header (02, item 7). Assumes nothing.
use Rattle.std.specs.Prelude.{◌≡◌, ℕ, Result, Ok, Err, zero, suc, ◌*◌, ◌/◌, ◌%◌, ◌<◌, cond, ◌≢◌, List, slice_index, slice_set}
use Rattle.sectors.specs.Refusal.{beyond_mending, number_of}
use Rattle.sectors.specs.Header.{SixBytes, Multiple, is_multiple, six_zeros}
use Rattle.sectors.specs.Audit.{header_size, header_or}
use Rattle.sectors.specs.declared.refusal.Refusal.{Refusal}
use Rattle.sectors.specs.declared.mend.Mended.{Mended}

-- "differ .. in at most one place": equal at every place but that one
abbrev pub EqualBut : ℕ → List ℕ → List ℕ → Type 0
EqualBut place h m = (i : ℕ) → i ≢ place → slice_index h i ≡ slice_index m i

-- "the six bytes that are a multiple of the polynomial and differ from its header in at most one place"; "a blank one counts as correct here": a
-- multiple, sound or blank.
pub record Mends (h m : List ℕ) : Type 0 where
  pub six_bytes : SixBytes m
  pub its_multiple : Multiple m
  pub place : ℕ
  pub inside : place < header_size
  pub equal_but : EqualBut place h m

-- ---- the answer

-- the bytes that are returned, or a refusal and zeros
unfoldable pub mended_to : List ℕ → Mended
mended_to m = record { refusal = 0; header = m }

unfoldable pub unmended : ℕ → Mended
unmended number = record { refusal = number; header = six_zeros }

-- "a definition states this paper's number and values for each of the enum's cases" (01)
unfoldable pub mended_by : Result (List ℕ) Refusal → Mended
mended_by (Ok m) = mended_to m
mended_by (Err r) = unmended (number_of r)

-- Each header that differs from h in at most one place is one of 6 x 256 candidates, h itself six of them: the byte n % 256 at the place n / 256.
unfoldable pub candidate : List ℕ → ℕ → List ℕ
candidate h n = slice_set h (n / 256) (n % 256)

-- among the first n candidates the header that is a multiple; no two that differ are (`multiples_apart` of `DistanceLaws`)
unfoldable pub mended_in : List ℕ → ℕ → Mended
mended_in h zero = unmended beyond_mending
mended_in h (suc n) = cond (is_multiple (candidate h n)) (mended_to (candidate h n)) (mended_in h n)

unfoldable pub mended_of : List ℕ → Mended
mended_of h = mended_in h (header_size * 256)

-- "Checks: the audit's, then 14, beyond mending"
unfoldable pub mend_of : ℕ → List ℕ → ℕ → Mended
mend_of format image lsn = header_or unmended mended_of format image lsn

-- ---- what the answer means

pub record Mendable (h : List ℕ) : Type 0 where
  pub mended : List ℕ
  pub mends : Mends h mended

-- "beyond mending, exactly when no such header exists"
pub record BeyondMending (h : List ℕ) : Type 0 where
  pub none_mends : ¬ Mendable h

-- "A correct header with just one byte changed"
pub record OneByteChanged (correct h : List ℕ) : Type 0 where
  pub is_correct : Multiple correct
  pub place : ℕ
  pub inside : place < header_size
  pub byte : ℕ
  pub is_changed : h ≡ slice_set correct place byte
