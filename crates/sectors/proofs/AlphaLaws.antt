-- The product of a byte with α: it is a byte, that of a sum is the sum of the products, and only 0 is its own product. What is said of
-- one byte is tested at all 256; the sum follows from a form of the product, so tested, that is made of sums. Assumes nothing.
use Rattle.std.specs.Prelude.{◌≡◌, ℕ, ◌-◌, ◌*◌, ◌/◌, ◌%◌, ◌^◌, ◌<◌, ◌≤◌, Bool, cond, ◌==◌, bit_xor, refl}
use Rattle.std.proofs.Common.{sym, ap, ◌∙◌, arith, le-ltb, eq-eqb}
use Rattle.sectors.specs.Field.{◌⊕◌, times_alpha}
use Rattle.sectors.specs.TableLaws.{values, agree}
use Rattle.sectors.proofs.XorLaws.{sums, sum_lt, sum_up, sum_down, sum_low}

-- as the program comes to it: the double of a byte whose top bit is set is x^8 more than what a byte keeps of it
pub doubled_high : (x : ℕ) → 128 ≤ x → x < 256 → bit_xor (x * 2 % 256) 0x1d ≡ times_alpha x
unfolding times_alpha ◌⊕◌
doubled_high x high byte = let less : x * 2 % 256 ≡ x * 2 - 256 = omega arith in rw less (simp (le-ltb x 128 high))

pub alpha_zero : times_alpha 0 ≡ 0
unfolding times_alpha
alpha_zero = refl

pub alpha_lt : {a : ℕ} → a < 256 → times_alpha a < 256
unfolding values times_alpha ◌⊕◌
alpha_lt {a} h = omega (arith, agree (λ a. times_alpha a / 256) (λ a. 0) 256 refl a h)

pub only_zero_stays : (a : ℕ) → a < 256 → a ⊕ times_alpha a ≡ 0 → a ≡ 0
unfolding values times_alpha ◌⊕◌
only_zero_stays a h e =
    ap (λ (b : Bool). cond b a 0) (sym (eq-eqb (a ⊕ times_alpha a) 0 e))
    ∙ agree (λ a. cond ((a ⊕ times_alpha a) == 0) a 0) (λ a. 0) 256 refl a h

-- the doubled byte's low eight bits, and x^4 + x^3 + x^2 + 1 where it has a ninth
as_sum : ℕ → ℕ
as_sum a = a * 2 ^ 1 % 2 ^ 8 ⊕ a / 2 ^ 7 * 2 ^ 4 ⊕ a / 2 ^ 7 * 2 ^ 3 ⊕ a / 2 ^ 7 * 2 ^ 2 ⊕ a / 2 ^ 7

alpha_as_sum : (a : ℕ) → a < 256 → times_alpha a ≡ as_sum a
unfolding values times_alpha ◌⊕◌ as_sum
alpha_as_sum = agree times_alpha as_sum 256 refl

pub linear : (a b : ℕ) → a < 256 → b < 256 → times_alpha (a ⊕ b) ≡ times_alpha a ⊕ times_alpha b
unfolding as_sum
linear a b ha hb =
    let sum-byte = sum_lt ha hb in
    rw (alpha_as_sum (a ⊕ b), alpha_as_sum a, alpha_as_sum b)
    (simp (sums, sum_up 1, sum_up 2, sum_up 3, sum_up 4, sum_down 7, sum_low 8))
