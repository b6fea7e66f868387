-- A refusal is known by its number, which is not 0, and so is an answer by a record that holds 0 and a value, or a refusal's number. Assumes nothing.
use Rattle.std.specs.Prelude.{◌≡◌, ℕ, ◌<◌, cond, Result, Ok, Err, OnOk, IfErr, ◌==◌, refl}
use Rattle.std.proofs.Common.{sym, ap, ◌∙◌, arith}
use Rattle.sectors.specs.Refusal.{foreign_format, short_buffer, no_such_entry, no_header, number_of, refusal_of}
use Rattle.sectors.specs.declared.refusal.Refusal.{Refusal}
use Rattle.sectors.specs.declared.refusal.Refusal.TheVariants as refusal

-- the refusal of which this is the number
refusal_from : ℕ → Refusal
refusal_from n =
    cond (n == foreign_format) refusal.ForeignFormat
    (cond (n == short_buffer) refusal.ShortBuffer
    (cond (n == no_such_entry) refusal.NoSuchEntry (cond (n == no_header) refusal.NoHeader refusal.BeyondMending)))

found_again : (r : Refusal) → refusal_from (number_of r) ≡ r
unfolding number_of refusal_from
found_again refusal.ForeignFormat = refl
found_again refusal.ShortBuffer = refl
found_again refusal.NoSuchEntry = refl
found_again refusal.NoHeader = refl
found_again refusal.BeyondMending = refl

pub number_tells : (r s : Refusal) → number_of r ≡ number_of s → r ≡ s
number_tells r s e = sym (found_again r) ∙ ap refusal_from e ∙ found_again s

pub number_some : (r : Refusal) → 0 < number_of r
unfolding number_of
number_some refusal.ForeignFormat = omega arith
number_some refusal.ShortBuffer = omega arith
number_some refusal.NoSuchEntry = omega arith
number_some refusal.NoHeader = omega arith
number_some refusal.BeyondMending = omega arith

-- of any record made of an answer: the number that it holds, and what it says of a value
module _ {A B : Type 0} (made : Result A Refusal → B) (held : B → ℕ) where
  pub tells : ((a : A) → held (made (Ok a)) ≡ 0) → ((r : Refusal) → held (made (Err r)) ≡ number_of r) → ((a b : A) → made (Ok a) ≡ made (Ok b) → a ≡ b)
      → (x y : Result A Refusal) → made x ≡ made y → x ≡ y
  tells zero number value (Ok a) (Ok b) e = ap Ok (value a b e)
  tells zero number value (Ok a) (Err s) e = absurd (omega (arith, number_some s, zero a, number s, ap held e))
  tells zero number value (Err r) (Ok b) e = absurd (omega (arith, number_some r, zero b, number r, ap held e))
  tells zero number value (Err r) (Err s) e = ap Err (number_tells r s (sym (number r) ∙ ap held e ∙ number s))

-- what is 0 where nothing is refused, and the refusal's number where it is, is the answer's number
pub number_is : {A : Type 0} (answer : Result A Refusal) (number : ℕ) → OnOk answer (number ≡ 0) → IfErr answer (λ r. number ≡ number_of r)
    → number ≡ refusal_of answer
unfolding refusal_of
number_is (Ok value) number none refused = none
number_is (Err r) number none refused = refused
