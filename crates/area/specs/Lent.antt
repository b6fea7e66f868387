-- Lent lists, and what is written into them. Assumes nothing.
use Rattle.std.specs.Prelude.{ℕ, ◌+◌, ◌-◌, min, Bool, true, false, List, [], ◌∷◌, length}
use Rattle.std.specs.Borrow.{Bor, MutBor}
use denote.Triple.Both.{Both}

-- a list that a call only reads, and one that is lent to it, as the call finds it and as it leaves it
abbrev pub Shown : Type 0 → Type 0
Shown A = Both (Bor (List A)) (Bor (List A))

abbrev pub Lent : Type 0 → Type 0
Lent A = Both (MutBor (List A)) (MutBor (List A))

module _ {A : Type 0} where
  -- one element or none
  unfoldable pub when_true : Bool → A → List A
  when_true true x = x ∷ []
  when_true false x = []

module _ {A B : Type 0} where
  -- the count of words after new ones are written from a count on: those that fit are counted
  unfoldable pub counted : List A → ℕ → List B → ℕ
  counted old count new = count + min (length new) (length old - count)
