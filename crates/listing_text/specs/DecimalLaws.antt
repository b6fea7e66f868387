-- Laws of decimal numbers: one digit below 10, else those of a tenth and the last. Assumes nothing.
use Rattle.std.specs.Prelude.{◌≡◌, refl, Bool, true, false, cond, List, [], ◌∷◌, ◌++◌, ℕ, zero, suc, ◌/◌, ◌%◌, ◌≤◌, ◌<◌, ltb}
use Rattle.std.proofs.Common.{ap, ◌∙◌, arith, lt-ltb, le-ltb, ltb-false}
use Rattle.listing_text.specs.Decimal.{digit, digits_within, decimal}

-- a number has one digit, or equal tenths and its last
either : (n : ℕ) {tenth other : List ℕ} → (10 ≤ n → tenth ≡ other) → (t : Bool) → ltb n 10 ≡ t
    → cond t (digit n ∷ []) (tenth ++ (digit (n % 10) ∷ [])) ≡ cond t (digit n ∷ []) (other ++ (digit (n % 10) ∷ []))
either n same true e = refl
either n same false e = ap (λ (l : List ℕ). l ++ (digit (n % 10) ∷ [])) (same (ltb-false n 10 e))

-- tenths past the number are not taken
tenths_enough : (k j n : ℕ) → n ≤ k → n ≤ j → digits_within k n ≡ digits_within j n
unfolding digits_within
tenths_enough zero zero n p q = refl
tenths_enough zero (suc j) n p q = simp (lt-ltb n 10 (omega arith))
tenths_enough (suc k) zero n p q = simp (lt-ltb n 10 (omega arith))
tenths_enough (suc k) (suc j) n p q = either n (λ large. tenths_enough k j (n / 10) (omega arith) (omega arith)) (ltb n 10) refl

-- below 10
pub decimal_digit : (n : ℕ) → n < 10 → decimal n ≡ digit n ∷ []
unfolding decimal digits_within
decimal_digit n small = tenths_enough n (suc n) n (omega arith) (omega arith) ∙ simp (lt-ltb n 10 small)

-- from 10 on
pub decimal_more : (n : ℕ) → 10 ≤ n → decimal n ≡ decimal (n / 10) ++ (digit (n % 10) ∷ [])
unfolding decimal digits_within
decimal_more n large =
    tenths_enough n (suc n) n (omega arith) (omega arith)
    ∙ simp (le-ltb n 10 large) (ap (λ (l : List ℕ). l ++ (digit (n % 10) ∷ [])) (tenths_enough n (n / 10) (n / 10) (omega arith) (omega arith)))
