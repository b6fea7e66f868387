-- One byte of a header changed: the value at 1 changes by what the byte does, and the value at α by that times α to the number of bytes behind it.
-- Both are Horner's rule for a product that goes through sums. Assumes nothing.
use Rattle.std.specs.Prelude.{◌≡◌, ℕ, zero, suc, ◌-◌, ◌<◌, List, [], ◌∷◌, length, slice_index, fold, slice_index_or, slice_set}
use Rattle.std.proofs.Math.Path.{refl, ap}
use Rattle.std.proofs.Common.{sym, ◌∙◌, zero-le, suc-le-suc, le_of_suc-le-suc, not-suc-le-zero}
use Rattle.std.proofs.Math.Nat.{sub-zero, suc-sub-suc}
use Rattle.sectors.specs.Field.{◌⊕◌, times_alpha}
use Rattle.sectors.specs.Header.{at_one, at_alpha}
use Rattle.sectors.specs.Log.{repeated, times_power}
use Rattle.sectors.proofs.XorLaws.{sums, sum_lt, sum_assoc}
use Rattle.sectors.proofs.AlphaLaws.{linear, alpha_lt}

-- a polynomial's value by Horner's rule, from v on, where f is the product with the argument
abbrev value : (ℕ → ℕ) → ℕ → List ℕ → ℕ
value f v h = fold (λ v a. f v ⊕ a) v h

module _ (f : ℕ → ℕ) (linear-f : (a b : ℕ) → a < 256 → b < 256 → f (a ⊕ b) ≡ f a ⊕ f b) (f_lt : (a : ℕ) → a < 256 → f a < 256) where
  carried : (h : List ℕ) → ((i : ℕ) → slice_index h i < 256) → (v s : ℕ) → v < 256 → s < 256
      → value f (v ⊕ s) h ≡ value f v h ⊕ repeated f (length h) s
  unfolding repeated
  carried [] bytes v s v-lt s-lt = refl
  carried (a ∷ rest) bytes v s v-lt s-lt =
      ap (λ (n : ℕ). value f (n ⊕ a) rest) (linear-f v s v-lt s-lt) ∙ ap (λ (n : ℕ). value f n rest) (simp sums)
      ∙ carried rest (λ i. bytes (suc i)) (f v ⊕ a) (f s) (sum_lt (f_lt v v-lt) (bytes 0)) (f_lt s s-lt)

  changed : (h : List ℕ) → ((i : ℕ) → slice_index h i < 256) → (v k s : ℕ) → v < 256 → s < 256 → k < length h
      → value f v (slice_set h k (slice_index_or h k 0 ⊕ s)) ≡ value f v h ⊕ repeated f (length h - suc k) s
  changed [] bytes v k s v-lt s-lt inside = absurd (not-suc-le-zero inside)
  changed (a ∷ rest) bytes v zero s v-lt s-lt inside =
      ap (λ (n : ℕ). value f n rest) (sym (sum_assoc (f v) a s))
      ∙ carried rest (λ i. bytes (suc i)) (f v ⊕ a) s (sum_lt (f_lt v v-lt) (bytes 0)) s-lt
      ∙ ap (λ (n : ℕ). value f v (a ∷ rest) ⊕ repeated f n s) (sym (suc-sub-suc (length rest) 0 ∙ sub-zero (length rest)))
  changed (a ∷ rest) bytes v (suc k) s v-lt s-lt inside =
      changed rest (λ i. bytes (suc i)) (f v ⊕ a) k s (sum_lt (f_lt v v-lt) (bytes 0)) s-lt (le_of_suc-le-suc inside)
      ∙ ap (λ (n : ℕ). value f v (a ∷ rest) ⊕ repeated f n s) (sym (suc-sub-suc (length rest) (suc k)))

unmoved : (n s : ℕ) → repeated (λ a. a) n s ≡ s
unfolding repeated
unmoved zero s = refl
unmoved (suc n) s = unmoved n s

module _ (h : List ℕ) (bytes : (i : ℕ) → slice_index h i < 256) (k s : ℕ) (s-lt : s < 256) (inside : k < length h) where
  pub one_changed : at_one (slice_set h k (slice_index_or h k 0 ⊕ s)) ≡ at_one h ⊕ s
  unfolding at_one
  one_changed =
      changed (λ a. a) (λ a b _ _. refl) (λ a a_lt. a_lt) h bytes 0 k s (suc-le-suc zero-le) s-lt inside
      ∙ ap (λ (n : ℕ). at_one h ⊕ n) (unmoved (length h - suc k) s)

  pub alpha_changed : at_alpha (slice_set h k (slice_index_or h k 0 ⊕ s)) ≡ at_alpha h ⊕ times_power (length h - suc k) s
  unfolding at_alpha times_power
  alpha_changed = changed times_alpha linear (λ a a_lt. alpha_lt a_lt) h bytes 0 k s (suc-le-suc zero-le) s-lt inside
