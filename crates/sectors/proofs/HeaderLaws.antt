-- Six bytes are a multiple of (x + 1)(x + α) where they are zero at 1 and at α, and only there. A product is zero at both. The other
-- way, Horner's values at α are the quotient by x + α; that is zero at 1 too, so x + 1 divides it. Assumes nothing.
use Rattle.std.specs.Prelude.{◌≡◌, ℕ, ◌<◌, true, not, ◌↔◌, List, [], ◌∷◌, ◌==◌}
use Rattle.std.proofs.Common.{sym, ap, ◌∙◌, eqb-true, arith}
use Rattle.std.proofs.Math.Bool.{and-eq-true_iff}
use Rattle.std.proofs.lemmas.Bool.{not-true}
use Rattle.sectors.specs.BytesLaws.{same_eq, same_refl}
use Rattle.sectors.specs.CheckLaws.{fails}
use Rattle.sectors.specs.Field.{◌⊕◌, times_alpha}
use Rattle.sectors.specs.Header.{SixBytes, times_root, product, Multiple, Blank, Sound, Unsound, six_zeros, at_one, at_alpha, is_multiple, is_blank, is_sound}
use Rattle.sectors.proofs.XorLaws.{sums, sum_lt, zero_sum, equal_if_zero}
use Rattle.sectors.proofs.AlphaLaws.{linear, alpha_zero, alpha_lt, only_zero_stays}
use Rattle.sectors.specs.TableLaws.{values, places}

product_passes : (a b c d : ℕ) → a < 256 → b < 256 → c < 256 → d < 256 → is_multiple (product (a ∷ b ∷ c ∷ d ∷ [])) ≡ true
unfolding is_multiple at_one at_alpha product times_root
product_passes a b c d a_lt b_lt c_lt d-lt = simp (sums, linear, alpha_zero)

module _ (p₁ p₂ p₃ p₄ p₅ : ℕ) (p₁-lt : p₁ < 256) (p₂-lt : p₂ < 256) (p₃-lt : p₃ < 256) (p₄-lt : p₄ < 256) (p₅-lt : p₅ < 256) where
  -- p times x + α is at 1 the value of p there times 1 + α, so p is zero at 1 where that is
  zero_at_one_multiple : at_one (times_root times_alpha 0 (p₁ ∷ p₂ ∷ p₃ ∷ p₄ ∷ p₅ ∷ [])) ≡ 0
      → Multiple (times_root times_alpha 0 (p₁ ∷ p₂ ∷ p₃ ∷ p₄ ∷ p₅ ∷ []))
  unfolding at_one product times_root
  zero_at_one_multiple zero_at_one =
      let c_lt = sum_lt p₄-lt p₅-lt in
      let b_lt = sum_lt p₃-lt c_lt in
      let a_lt = sum_lt p₂-lt b_lt in
      let first : p₁ ≡ p₂ ⊕ (p₃ ⊕ (p₄ ⊕ p₅)) =
      equal_if_zero p₁ _ (only_zero_stays _ (sum_lt p₁-lt a_lt) ((simp (sums, linear, alpha_zero)) ∙ zero_at_one)) in
      record {
        a = _;
        b = _;
        c = _;
        d = _;
        a_byte = a_lt;
        b_byte = b_lt;
        c_byte = c_lt;
        d_byte = p₅-lt;
        multiple = rw first (simp (sums, alpha_zero));
      }

module _ (h₀ h₁ h₂ h₃ h₄ h₅ : ℕ) (h₀-lt : h₀ < 256) (h₁-lt : h₁ < 256) (h₂-lt : h₂ < 256) (h₃-lt : h₃ < 256) (h₄-lt : h₄ < 256) where
  abbrev six : List ℕ
  six = h₀ ∷ h₁ ∷ h₂ ∷ h₃ ∷ h₄ ∷ h₅ ∷ []

  -- Horner's values at α, where the last is zero, are the quotient by x + α
  six_zeros_multiple : at_one six ≡ 0 → at_alpha six ≡ 0 → Multiple six
  unfolding at_alpha times_root
  six_zeros_multiple zero_at_one zero_at_alpha =
      let p₂ = times_alpha h₀ ⊕ h₁ in
      let p₃ = times_alpha p₂ ⊕ h₂ in
      let p₄ = times_alpha p₃ ⊕ h₃ in
      let p₅ = times_alpha p₄ ⊕ h₄ in
      let p₂-lt = sum_lt (alpha_lt h₀-lt) h₁-lt in
      let p₃-lt = sum_lt (alpha_lt p₂-lt) h₂-lt in
      let p₄-lt = sum_lt (alpha_lt p₃-lt) h₃-lt in
      let p₅-lt = sum_lt (alpha_lt p₄-lt) h₄-lt in
      let last : times_alpha p₅ ≡ h₅ = equal_if_zero _ h₅ ((simp (zero_sum, alpha_zero)) ∙ zero_at_alpha) in
      let divided : times_root times_alpha 0 (h₀ ∷ p₂ ∷ p₃ ∷ p₄ ∷ p₅ ∷ []) ≡ six = rw last (simp (sums, alpha_zero)) in
      rw divided at (zero_at_one_multiple h₀ p₂ p₃ p₄ p₅ h₀-lt p₂-lt p₃-lt p₄-lt p₅-lt (ap at_one divided ∙ zero_at_one))

pub zeros_multiple : (h : List ℕ) → SixBytes h → at_one h ≡ 0 → at_alpha h ≡ 0 → Multiple h
unfolding values
zeros_multiple h six =
    let byte = six.its_bytes in
    rw (places h 6 six.its_length) (six_zeros_multiple _ _ _ _ _ _ (byte 0) (byte 1) (byte 2) (byte 3) (byte 4))

multiple_passes : (h : List ℕ) → Multiple h → is_multiple h ≡ true
multiple_passes h q = rw q.multiple at (product_passes q.a q.b q.c q.d q.a_byte q.b_byte q.c_byte q.d_byte)

both_zero : (h : List ℕ) → is_multiple h ≡ true → (at_one h ≡ 0) × (at_alpha h ≡ 0)
unfolding is_multiple
both_zero h e = let zeros = (and-eq-true_iff (at_one h == 0) (at_alpha h == 0)).0 e in (eqb-true _ _ zeros.0, eqb-true _ _ zeros.1)

pub multiple_zeros : (h : List ℕ) → Multiple h → (at_one h ≡ 0) × (at_alpha h ≡ 0)
multiple_zeros h q = both_zero h (multiple_passes h q)

-- the test finds the multiples, of any six bytes, and only them
pub finds_multiples : (h : List ℕ) → SixBytes h → is_multiple h ≡ true ↔ Multiple h
finds_multiples h six = ((λ e. let zeros = both_zero h e in zeros_multiple h six zeros.0 zeros.1), multiple_passes h)

-- "blank being exactly those six zeros"
pub finds_blanks : (h : List ℕ) → is_blank h ≡ true ↔ Blank h
unfolding is_blank
finds_blanks h = ((λ e. record { is_zeros = same_eq h six_zeros e }), (λ b. rw b.is_zeros (same_refl six_zeros)))

-- "zero is a multiple of everything"
pub blank_multiple : (h : List ℕ) → Blank h → Multiple h
unfolding product times_root
blank_multiple h b =
    let byte : 0 < 256 = omega arith in
    record {
      a = 0;
      b = 0;
      c = 0;
      d = 0;
      a_byte = byte;
      b_byte = byte;
      c_byte = byte;
      d_byte = byte;
      multiple = (simp (sums, alpha_zero)) ∙ sym b.is_zeros;
    }

pub blank_not_unsound : (h : List ℕ) → Blank h → ¬ Unsound h
blank_not_unsound h b u = u.no_multiple (blank_multiple h b)

-- "It is sound when the six, first byte highest, are a multiple of (x + 1)(x + α)", but for blank ones: of any six bytes the test passes where they
-- are sound, and only there.
pub decides : (h : List ℕ) → SixBytes h → is_sound h ≡ true ↔ Sound h
unfolding is_sound
decides h six =
    let multiple = finds_multiples h six in
    let blank = fails (is_blank h) (finds_blanks h) in
    let both = and-eq-true_iff (is_multiple h) (not (is_blank h)) in (
      (λ e. record { its_multiple = multiple.0 (both.0 e).0; not_blank = blank.0 (not-true (is_blank h) (both.0 e).1) }),
      (λ s. both.1 (multiple.1 s.its_multiple, ap not (blank.1 s.not_blank))),
    )
