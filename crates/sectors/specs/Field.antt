-- The field of 256 elements "of x^8 + x^4 + x^3 + x^2 + 1" (01, "Header"; ECMA-267): a byte's bits are an element's coefficients.
-- Assumes nothing.
use Rattle.std.specs.Prelude.{ℕ, ◌-◌, ◌*◌, cond, bit_xor, nat_lt}

-- the sum of two elements, coefficient by coefficient
unfoldable pub ◌⊕◌ : ℕ → ℕ → ℕ
◌⊕◌ a b = bit_xor a b

infixl 68 ◌⊕◌
-- 02, item 3, of the product with α, the element x: "Multiply by doubling, and add hexadecimal 1D when the top bit was set." The doubled top bit is
-- x^8, which goes; 1D is what x^8 is in the field, x^4 + x^3 + x^2 + 1.
unfoldable pub times_alpha : ℕ → ℕ
times_alpha a = cond (nat_lt a 128) (a * 2) ((a * 2 - 256) ⊕ 0x1d)
