-- Lent memory: a list that fills a part of another. Assumes nothing.
use Rattle.std.specs.Prelude.{ℕ, ◌+◌, ◌-◌, List, ◌++◌, length, take, drop}

module _ {A : Type 0} where
  -- the `n` elements from a place on
  unfoldable pub part : ℕ → ℕ → List A → List A
  part at n l = take n (drop at l)

  -- "fill .. Everything else is unchanged": `old`, with `new` in the place of as many elements from `at` on
  unfoldable pub fill : ℕ → List A → List A → List A
  fill at new old = take at old ++ (new ++ drop (at + length new) old)

  -- what does not fit is not copied: `old`, filled from `at` on with as many elements of `new` as fit
  unfoldable pub copy_into : ℕ → List A → List A → List A
  copy_into at new old = fill at (take (length old - at) new) old

-- "as a part of the caller's table": where a part begins in the memory of bytes that it is a part of. (A pointer is a block of memory
-- and a place in it.)
unfoldable pub start_at : ℕ × ℕ → ℕ → ℕ × ℕ
start_at whole at = (whole.0, whole.1 + at)
