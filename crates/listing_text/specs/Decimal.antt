-- Decimal numbers (01, "Header, fingerprint, listing": "Every field is a decimal number"). Assumes nothing.
use Rattle.std.specs.Prelude.{ℕ, zero, suc, ◌+◌, ◌/◌, ◌%◌, cond, List, [], ◌∷◌, ◌++◌, ltb}

-- the ASCII code of a digit
unfoldable pub digit : ℕ → ℕ
digit d = 48 + d

-- The digits of a number, the highest first: below 10 the one, else those of a tenth, and the last. So many tenths are taken at most.
unfoldable pub digits_within : ℕ → ℕ → List ℕ
digits_within zero n = digit n ∷ []
digits_within (suc tenths) n = cond (ltb n 10) (digit n ∷ []) (digits_within tenths (n / 10) ++ (digit (n % 10) ∷ []))

-- "Every field is a decimal number": n tenths are enough for n
unfoldable pub decimal : ℕ → List ℕ
decimal n = digits_within n n
