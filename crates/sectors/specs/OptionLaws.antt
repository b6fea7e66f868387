-- What follows from a value that is there, and from one that is not. Assumes nothing.
use Rattle.std.specs.Prelude.{◌≡◌, ℕ, true, false, List, ◌≢◌, refl}
use Rattle.std.proofs.Common.{arith, sym, ap, ◌∙◌}
use Rattle.std.proofs.Math.Option.{Option, none, some, some-injective, some-ne-none}
use Rattle.sectors.specs.Options.{Known, is_there, given}

module _ {A : Type 0} where
  pub some_eq : {a b : A} → some a ≡ some b → a ≡ b
  some_eq {a} {b} e = some-injective a b e

  pub no_some : {x : Option A} {a : A} → x ≡ none → x ≢ some a
  no_some {a = a} e q = some-ne-none a (sym q ∙ e)

  -- the test tells whether there is a value
  pub there_known : (x : Option A) → is_there x ≡ true → Known x
  unfolding is_there
  there_known none e = let z : ◌≡◌ {A = ℕ} 0 1 = cc in absurd (omega arith)
  there_known (some a) e = (a, refl)

  pub known_there : (x : Option A) → Known x → is_there x ≡ true
  unfolding is_there
  known_there x k = ap is_there k.1

  pub not_there : (x : Option A) → is_there x ≡ false → x ≡ none
  unfolding is_there
  not_there none e = refl
  not_there (some a) e = let z : ◌≡◌ {A = ℕ} 0 1 = cc in absurd (omega arith)

pub given_known : {A : Type 0} (x : Option (List A)) → Known x → x ≡ some (given x)
unfolding given
given_known none k = absurd (no_some refl k.1)
given_known (some l) k = refl
