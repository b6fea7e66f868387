-- A refusal of decoding is known by its number, which is not 0; so the record of an answer tells the answer. Assumes nothing.
use Rattle.std.specs.Prelude.{◌≡◌, ℕ, ◌<◌, cond, ◌==◌, Result, Ok, Err, refl}
use Rattle.std.proofs.Common.{sym, ap, ◌∙◌, arith}
use Rattle.sectors.specs.Refusal.{short_buffer, no_such_entry}
use Rattle.text.specs.Refusal.{set_not_held, short_page, number_of}
use Rattle.text.specs.Decode.{giving, refusing, answer_by}
use Rattle.text.specs.declared.decode.DecodeAnswer.{DecodeAnswer}
use Rattle.text.specs.declared.decode.DecodeRefusal.{DecodeRefusal}
use Rattle.text.specs.declared.decode.DecodeRefusal.TheVariants as refusal

-- the refusal of which this is the number
refusal_from : ℕ → DecodeRefusal
refusal_from n =
    cond (n == short_buffer) refusal.ShortBuffer
    (cond (n == no_such_entry) refusal.NoSuchEntry
    (cond (n == set_not_held) refusal.SetNotHeld (cond (n == short_page) refusal.ShortPage refusal.BadMapping)))

found_again : (r : DecodeRefusal) → refusal_from (number_of r) ≡ r
unfolding number_of refusal_from
found_again refusal.ShortBuffer = refl
found_again refusal.NoSuchEntry = refl
found_again refusal.SetNotHeld = refl
found_again refusal.ShortPage = refl
found_again refusal.BadMapping = refl

number_tells : (r s : DecodeRefusal) → number_of r ≡ number_of s → r ≡ s
number_tells r s e = sym (found_again r) ∙ ap refusal_from e ∙ found_again s

number_some : (r : DecodeRefusal) → 0 < number_of r
unfolding number_of
number_some refusal.ShortBuffer = omega arith
number_some refusal.NoSuchEntry = omega arith
number_some refusal.SetNotHeld = omega arith
number_some refusal.ShortPage = omega arith
number_some refusal.BadMapping = omega arith

pub answer_tells : (x y : Result ℕ DecodeRefusal) → answer_by x ≡ answer_by y → x ≡ y
unfolding answer_by giving refusing
answer_tells (Ok m) (Ok n) e = ap Ok (ap (λ (a : DecodeAnswer). a.len) e)
answer_tells (Ok m) (Err s) e = absurd (omega (arith, number_some s, ap (λ (a : DecodeAnswer). a.refusal) e))
answer_tells (Err r) (Ok n) e = absurd (omega (arith, number_some r, ap (λ (a : DecodeAnswer). a.refusal) e))
answer_tells (Err r) (Err s) e = ap Err (number_tells r s (ap (λ (a : DecodeAnswer). a.refusal) e))
