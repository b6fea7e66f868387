-- The low half of a product of two numbers of two digits in any base P, from three of the digits' four products. Assumes nothing.
use Rattle.std.proofs.Common.{◌≡◌, ℕ, ◌+◌, ◌*◌, ◌/◌, ◌%◌, ◌^◌, ◌<◌, sym, ap, ◌∙◌, lt_of_le_of_lt, le_of_lt, add_assoc, mul_assoc, mul_comm, add-mul, add_comm, mul-le-mul_left, mul-lt-mul_of_pos_right, div-add-mod', mul-add, mul_left_comm, pow_pos, pow-add}
use mathlib.Core.Path.{subst⁻¹}
use native.Mathlib.Nat.{add_left_comm, mul-add-mod_self_right, add-mod-mod}
use lib.Pow.{split}
use lib.Bits.{bit_and, and_mask}

pub product_lt : (k : ℕ) {a b : ℕ} → a < 2 ^ k → b < 2 ^ k → a * b < 2 ^ (k + k)
product_lt k {a} {b} ha hb =
    subst⁻¹ (λ (n : ℕ). a * b < n) (pow-add 2 k k)
    (lt_of_le_of_lt (mul-le-mul_left a (le_of_lt hb)) (mul-lt-mul_of_pos_right ha (pow_pos k)))

-- a factor may be kept to its remainder
mod_times : (x y m : ℕ) → x % m * y % m ≡ x * y % m
mod_times x y m =
    sym (mul-add-mod_self_right (x / m * y) m (x % m * y))
    ∙ ap (λ (n : ℕ). n % m) (regroup (x / m) (x % m) ∙ ap (λ (n : ℕ). n * y) (div-add-mod' x m))
  where
    regroup : (q r : ℕ) → q * y * m + r * y ≡ (q * m + r) * y
    regroup q r = simp (add-mul, mul_assoc, mul_comm, mul_left_comm)

low_half : (P a₀ a₁ b₀ b₁ : ℕ) → (a₀ * b₀ + (a₁ * b₀ + a₀ * b₁) % (P * P) * P % (P * P)) % (P * P) ≡ (a₁ * P + a₀) * (b₁ * P + b₀) % (P * P)
low_half P a₀ a₁ b₀ b₁ =
    ap (λ (n : ℕ). (a₀ * b₀ + n) % (P * P)) (mod_times (a₁ * b₀ + a₀ * b₁) P (P * P))
    ∙ add-mod-mod (a₀ * b₀) ((a₁ * b₀ + a₀ * b₁) * P) (P * P)
    ∙ sym (mul-add-mod_self_right (a₁ * b₁) (P * P) (a₀ * b₀ + (a₁ * b₀ + a₀ * b₁) * P))
    ∙ ap (λ (n : ℕ). n % (P * P)) (simp (mul-add, add-mul, mul_assoc, mul_comm, mul_left_comm, add_assoc, add_comm, add_left_comm))

-- as a program takes the halves of 32 bits
pub product_low : (a b : ℕ) → (bit_and a 0xffff_ffff * bit_and b 0xffff_ffff + (a / 2 ^ 32 * bit_and b 0xffff_ffff + bit_and a 0xffff_ffff * (b / 2 ^ 32)) % 2 ^ 64 * 2 ^ 32 % 2 ^ 64) % 2 ^ 64 ≡ a * b % 2 ^ 64
product_low a b =
    (λ i. (and_mask a 32 i * and_mask b 32 i + (a / 2 ^ 32 * and_mask b 32 i + and_mask a 32 i * (b / 2 ^ 32)) % 2 ^ 64 * 2 ^ 32 % 2 ^ 64) % 2 ^ 64)
    ∙ low_half (2 ^ 32) (a % 2 ^ 32) (a / 2 ^ 32) (b % 2 ^ 32) (b / 2 ^ 32)
    ∙ (λ i. split a 32 i * split b 32 i % 2 ^ 64)
