-- A sector's header (01, "Header"; ECMA-267): "4 bytes ID, 2 bytes IED", the coefficients of a polynomial over the field, "first
-- byte highest". Assumes nothing.
use Rattle.std.specs.Prelude.{◌≡◌, ℕ, ◌<◌, Bool, not, ◌&&◌, List, [], ◌∷◌, length, fold, ◌==◌, slice_index}
use Rattle.sectors.specs.Bytes.{same}
use Rattle.sectors.specs.Field.{◌⊕◌, times_alpha}

-- "the six", of any header
pub record SixBytes (h : List ℕ) : Type 0 where
  pub its_length : length h ≡ 6
  pub its_bytes : (i : ℕ) → slice_index h i < 256

-- A polynomial times x + r, where `times` is the product with r and `last` the coefficient before.
unfoldable pub times_root : (ℕ → ℕ) → ℕ → List ℕ → List ℕ
times_root times last [] = times last ∷ []
times_root times last (a ∷ rest) = a ⊕ times last ∷ times_root times a rest

-- A polynomial times "(x + 1)(x + α)".
unfoldable pub product : List ℕ → List ℕ
product q = times_root times_alpha 0 (times_root (λ a. a) 0 q)

-- "the six, first byte highest, are a multiple of (x + 1)(x + α)": there is a quotient of four bytes whose product they are.
pub record Multiple (h : List ℕ) : Type 0 where
  pub a : ℕ
  pub b : ℕ
  pub c : ℕ
  pub d : ℕ
  pub a_byte : a < 256
  pub b_byte : b < 256
  pub c_byte : c < 256
  pub d_byte : d < 256
  pub multiple : product (a ∷ b ∷ c ∷ d ∷ []) ≡ h

-- 02, item 2: "Unwritten stretches have six zero bytes"; "blank being exactly those six zeros".
abbrev pub six_zeros : List ℕ
six_zeros = 0 ∷ 0 ∷ 0 ∷ 0 ∷ 0 ∷ 0 ∷ []

pub record Blank (h : List ℕ) : Type 0 where
  pub is_zeros : h ≡ six_zeros

-- "It is sound when the six .. are a multiple of (x + 1)(x + α)"; 02, item 2, of blank ones: "The definition of sound in document 01 excludes them
-- from then on".
pub record Sound (h : List ℕ) : Type 0 where
  pub its_multiple : Multiple h
  pub not_blank : ¬ Blank h

-- "The audit shall answer sound, blank or unsound": unsound is the rest, what is no multiple at all.
pub record Unsound (h : List ℕ) : Type 0 where
  pub no_multiple : ¬ Multiple h

-- The polynomial's value at 1 and at α, its syndromes, by Horner's rule.
unfoldable pub at_one : List ℕ → ℕ
at_one h = fold ◌⊕◌ 0 h

unfoldable pub at_alpha : List ℕ → ℕ
at_alpha h = fold (λ v a. times_alpha v ⊕ a) 0 h

-- The tests that decide `Multiple`, `Blank` and `Sound` of six bytes: zero at both roots; the six zeros; the one without the other.
unfoldable pub is_multiple : List ℕ → Bool
is_multiple h = at_one h == 0 && at_alpha h == 0

unfoldable pub is_blank : List ℕ → Bool
is_blank h = same h six_zeros

unfoldable pub is_sound : List ℕ → Bool
is_sound h = is_multiple h && not (is_blank h)
