-- Laws of `padded`: a text in so many bytes, that is all there with zeros past it. Assumes nothing.
use Rattle.std.specs.Prelude.{ℕ, zero, suc, ◌-◌, ◌≤◌, ◌≡◌, refl, List, [], ◌∷◌, ◌++◌, get_or, take, replicate}
use native.Mathlib.Omega.{arith}
use Rattle.std.proofs.Common.{◌∙◌, append-nil, length-append}
use Rattle.std.proofs.Math.ListN.{length, get_or-eq_default}
use Rattle.std.proofs.lemmas.List.{length-replicate}
use Rattle.std.proofs.Math.Seq.{take-append_seam}
use Rattle.text.specs.Padded.{padded}

-- A text held in `size` bytes, of which `len` are the text's.
pub record TextIn (size : ℕ) (bytes : List ℕ) (len : ℕ) : Type 0 where
  pub short : len ≤ size
  pub full : length bytes ≡ size
  pub past : (i : ℕ) → len ≤ i → get_or bytes i 0 ≡ 0

zeros_at : (n i : ℕ) → get_or {A = ℕ} (replicate n 0) i 0 ≡ 0
zeros_at zero i = refl
zeros_at (suc n) zero = refl
zeros_at (suc n) (suc i) = zeros_at n i

zeros_behind : (n : ℕ) (text : List ℕ) (i : ℕ) → get_or (text ++ replicate n 0) i 0 ≡ get_or text i 0
zeros_behind n [] i = zeros_at n i
zeros_behind n (x ∷ xs) zero = refl
zeros_behind n (x ∷ xs) (suc i) = zeros_behind n xs i

module _ (size : ℕ) (text : List ℕ) where
  -- byte i is the text's, and zero past it
  pub padded_at : (i : ℕ) → get_or (padded size text) i 0 ≡ get_or text i 0
  unfolding padded
  padded_at i = zeros_behind (size - length text) text i

  -- the first bytes are the text
  pub padded_text : take (length text) (padded size text) ≡ text
  unfolding padded
  padded_text = take-append_seam text (replicate (size - length text) 0)

  -- a text that fills the bytes is padded with nothing
  pub padded_full : size ≤ length text → padded size text ≡ text
  unfolding padded
  padded_full h = let none : size - length text ≡ 0 = omega arith in rw none (append-nil text)

  -- a text that fits is held
  pub padded_held : length text ≤ size → TextIn size (padded size text) (length text)
  unfolding padded
  padded_held h =
      record {
        short = h;
        full = rw (length-append, length-replicate) (omega arith);
        past = λ i p. padded_at i ∙ get_or-eq_default text 0 p;
      }
