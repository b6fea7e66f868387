-- Logarithms in the field, to the base α (02, item 7). Assumes nothing.
use Rattle.std.specs.Prelude.{◌≡◌, ℕ, zero, suc, ◌-◌, ◌≤◌, ◌≢◌, List, [], ◌∷◌, replicate, slice_index, slice_set}
use Rattle.sectors.specs.Field.{times_alpha}

-- f, n times over
unfoldable pub repeated : (ℕ → ℕ) → ℕ → ℕ → ℕ
repeated f zero a = a
repeated f (suc n) a = repeated f n (f a)

-- the product with α to the n
unfoldable pub times_power : ℕ → ℕ → ℕ
times_power n a = repeated times_alpha n a

-- "the 255 nonzero field values"
abbrev pub nonzero_count : ℕ
nonzero_count = 255

-- a, α a, α² a, .., n of them
unfoldable pub powers_from : ℕ → ℕ → List ℕ
powers_from a zero = []
powers_from a (suc n) = a ∷ powers_from (times_alpha a) n

-- 1, α, α², ..
unfoldable pub powers : List ℕ
powers = powers_from 1 nonzero_count

-- a table with n, n + 1, .. stored as the entries of these powers, the entry of x at x - 1
unfoldable pub stored : ℕ → List ℕ → List ℕ → List ℕ
stored n [] table = table
stored n (power ∷ rest) table = stored (suc n) rest (slice_set table (power - 1) n)

-- "The logarithms of the 255 nonzero field values form a table"
unfoldable pub logs : List ℕ
logs = stored 0 powers (replicate nonzero_count 0)

-- the logarithm of a nonzero value
unfoldable pub log : ℕ → ℕ
log x = slice_index logs (x - 1)

-- ---- a step of the program, no rule of 02: the least n for which α to the n times a is b, or that there is none

pub record LeastExponent (a b n : ℕ) : Type 0 where
  pub takes : times_power n a ≡ b
  pub is_least : (k : ℕ) → times_power k a ≡ b → n ≤ k

pub record NoExponent (a b : ℕ) : Type 0 where
  pub none_takes : (k : ℕ) → times_power k a ≢ b
