-- A value or nothing: small functions on `Option`. Assumes nothing.
use Rattle.std.specs.Prelude.{◌≡◌, Bool, true, false, List, []}
use Rattle.std.proofs.Math.Option.{Option, none, some}

module _ {A : Type 0} where
  -- the value if the test passes
  abbrev pub only_if : Bool → Option A → Option A
  only_if true x = x
  only_if false x = none

  -- there is a value
  abbrev pub Known : Option A → Type 0
  Known x = (a : A) × (x ≡ some a)

  -- whether there is one
  unfoldable pub is_there : Option A → Bool
  is_there none = false
  is_there (some a) = true

  -- a list that is there; else the empty one
  unfoldable pub given : Option (List A) → List A
  given none = []
  given (some l) = l
