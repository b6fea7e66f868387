-- The laws of ⊕, with which `simp sums` brings every sum to one form, and its equations. A sum's halves are summed and its lowest
-- bit is that of the numbers' own sum, so the laws that the library lacks go by induction over halves. Assumes nothing.
use Rattle.std.specs.Prelude.{◌≡◌, ℕ, ◌+◌, ◌*◌, ◌/◌, ◌%◌, ◌^◌, ◌<◌, refl}
use Rattle.std.proofs.Common.{sym, ap, ◌∙◌, add-zero, arith, pow_pos}
use Rattle.std.proofs.Math.Arith.{bin_ind}
use Rattle.std.proofs.lemmas.Nat.{xor_block, xor_shr, xor_mod, xor_comm, xor_lt}
use Rattle.std.specs.Int.Bits.{xor_self, xor_zero_r, xor_add_and}
use Rattle.sectors.specs.Field.{◌⊕◌}

pub sum_comm : (a b : ℕ) → a ⊕ b ≡ b ⊕ a
unfolding ◌⊕◌
sum_comm a b = xor_comm a b

pub sum_self : (a : ℕ) → a ⊕ a ≡ 0
unfolding ◌⊕◌
sum_self a = xor_self a

pub zero_sum : (a : ℕ) → 0 ⊕ a ≡ a
unfolding ◌⊕◌
zero_sum a = refl

pub sum_zero : (a : ℕ) → a ⊕ 0 ≡ a
unfolding ◌⊕◌
sum_zero a = xor_zero_r a

pub sum_lt : {a b : ℕ} → a < 256 → b < 256 → a ⊕ b < 256
unfolding ◌⊕◌
sum_lt {a} {b} ha hb = xor_lt 8 a b ha hb

-- a sum moved up or down, and its low bits
pub sum_up : (k a b : ℕ) → (a ⊕ b) * 2 ^ k ≡ a * 2 ^ k ⊕ b * 2 ^ k
unfolding ◌⊕◌
sum_up k a b = sym (simp add-zero at (xor_block k a b 0 0 (pow_pos k) (pow_pos k)))

pub sum_down : (k a b : ℕ) → (a ⊕ b) / 2 ^ k ≡ a / 2 ^ k ⊕ b / 2 ^ k
unfolding ◌⊕◌
sum_down k a b = xor_shr a b k

pub sum_low : (k a b : ℕ) → (a ⊕ b) % 2 ^ k ≡ a % 2 ^ k ⊕ b % 2 ^ k
unfolding ◌⊕◌
sum_low k a b = xor_mod a b k

lowest : (a b : ℕ) → (a ⊕ b) % 2 ≡ (a + b) % 2
unfolding ◌⊕◌
lowest a b = omega (arith, xor_add_and a b)

lowest_assoc : (a b c : ℕ) → (a ⊕ b ⊕ c) % 2 ≡ (a ⊕ (b ⊕ c)) % 2
lowest_assoc a b c =
    let left : (a ⊕ b ⊕ c) % 2 ≡ (a + b + c) % 2 = omega (arith, lowest (a ⊕ b) c, lowest a b) in
    left ∙ omega (arith, lowest a (b ⊕ c), lowest b c)

pub sum_assoc : (a b c : ℕ) → a ⊕ b ⊕ c ≡ a ⊕ (b ⊕ c)
sum_assoc a =
    bin_ind (λ (n : ℕ). (b c : ℕ) → n ⊕ b ⊕ c ≡ n ⊕ (b ⊕ c)) (λ b c. simp zero_sum)
    (λ n halves b c.
    let high : (n ⊕ b ⊕ c) / 2 ≡ (n ⊕ (b ⊕ c)) / 2 = simp (sum_down 1) (halves (b / 2) (c / 2)) in
    omega (arith, lowest_assoc n b c)) a

pub sum_left_comm : (a b c : ℕ) → a ⊕ (b ⊕ c) ≡ b ⊕ (a ⊕ c)
sum_left_comm a b c = sym (sum_assoc a b c) ∙ ap (λ (n : ℕ). n ⊕ c) (sum_comm a b) ∙ sum_assoc b a c

pub sum_again : (a b : ℕ) → a ⊕ (a ⊕ b) ≡ b
sum_again a b = sym (sum_assoc a a b) ∙ (simp (sum_self, zero_sum))

pub ruleset sums = (sum_assoc, sum_comm, sum_left_comm, sum_self, sum_again, zero_sum, sum_zero)

pub equal_if_zero : (a b : ℕ) → a ⊕ b ≡ 0 → a ≡ b
equal_if_zero a b e = sym (sum_zero a) ∙ ap (λ (n : ℕ). a ⊕ n) (sym e) ∙ sum_again a b
