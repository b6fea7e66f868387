-- Turns of the loops that write a text to the start of a page: what is written so far, and one character more. Assumes nothing.
use mathlib.Core.Path.{◌≡◌, sym, ap, ◌∙◌}
use mathlib.Core.List.{List, [], ◌∷◌, ◌++◌, map, map-append}
use Prim.Native.Nat.{ℕ, ◌+◌, ◌≤◌, ◌<◌}
use native.Mathlib.Nat.{le_of_lt, zero-add}
use native.Mathlib.Numerals.{add-one}
use native.Mathlib.Omega.{arith}
use lib.ListN.{length, get_or, set, take, length-append, length-map}
use lib.Seq.{take-suc, length-take-le}
use Rattle.sectors.specs.Fill.{fill}
use Rattle.sectors.specs.FillLaws.{fill_more, fill_one, length_fill}
use Rattle.text.specs.Utf8.{utf8, blanked, encoded}
use Rattle.text.specs.Utf8Laws.{encoded_snoc}

-- the front of a list, and the next element
pub take_next : (l : List ℕ) (i : ℕ) → i < length l → take (i + 1) l ≡ take i l ++ (get_or l i 0 ∷ [])
take_next l i inside = ap (λ (n : ℕ). take n l) (add-one i) ∙ take-suc l i 0 inside

module _ (done : List ℕ) (point : ℕ) where
  -- a text and one character more
  pub next_length : length (encoded (done ++ (point ∷ []))) ≡ length (encoded done) + length (utf8 (blanked point))
  next_length = ap length (encoded_snoc done point) ∙ length-append (encoded done) (utf8 (blanked point))

  -- the character is written behind those before it
  pub next_written : (page₀ : List ℕ) → length (encoded (done ++ (point ∷ []))) ≤ length page₀
      → {page last : List ℕ} {at end : ℕ} → at ≡ length (encoded done) → page ≡ fill 0 (encoded done) page₀
      → (last ≡ fill at (utf8 (blanked point)) page) × (end ≡ at + length (utf8 (blanked point)))
      → (end ≡ length (encoded (done ++ (point ∷ [])))) × (length last ≡ length page₀) × (last ≡ fill 0 (encoded (done ++ (point ∷ []))) page₀)
  next_written page₀ room {last = last} place so_far put =
      let size = next_length in
      let whole : last ≡ fill 0 (encoded (done ++ (point ∷ []))) page₀ =
      put.0
      ∙ (λ j. fill ((place ∙ sym (zero-add (length (encoded done)))) j) (utf8 (blanked point)) (so_far j))
      ∙ fill_more 0 (encoded done) page₀ (omega arith) (utf8 (blanked point)) (omega arith)
      ∙ ap (λ (t : List ℕ). fill 0 t page₀) (sym (encoded_snoc done point)) in
      (omega (arith, put.1), ap length whole ∙ length_fill 0 (encoded (done ++ (point ∷ []))) page₀ (omega arith), whole)

-- of an ASCII text: one byte more
pub byte_written : (bytes page₀ : List ℕ) (i : ℕ) → i < length bytes → length bytes ≤ length page₀
    → set (fill 0 (map blanked (take i bytes)) page₀) i (blanked (get_or bytes i 0)) ≡ fill 0 (map blanked (take (i + 1) bytes)) page₀
byte_written bytes page₀ i inside room =
    let n : length (map blanked (take i bytes)) ≡ i = length-map (take i bytes) blanked ∙ length-take-le i bytes (le_of_lt inside) in
    let more = ap (map blanked) (take_next bytes i inside) ∙ map-append blanked (take i bytes) (get_or bytes i 0 ∷ []) in
    let here : 0 + length (map blanked (take i bytes)) ≡ i = omega arith in
    ap (λ (k : ℕ). set (fill 0 (map blanked (take i bytes)) page₀) k (blanked (get_or bytes i 0))) (sym here)
    ∙ fill_one 0 (map blanked (take i bytes)) page₀ (omega arith) (blanked (get_or bytes i 0)) (omega arith)
    ∙ ap (λ (t : List ℕ). fill 0 t page₀) (sym more)
