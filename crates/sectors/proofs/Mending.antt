-- Mending as the program does it: where a power of α that is a place's takes a header's value at 1 to its value at α, the header changed at that place
-- mends; where none does, no header mends. An answer that is the definition's means what the contract says. Assumes nothing.
use Rattle.std.proofs.Common.{◌≡◌, ℕ, Result, Ok, Err, ◌≢◌, refl, ap, subst, suc, ◌-◌, ◌<◌, ◌≤◌, ◌↔◌, List, length, get_or, set, sym, ◌∙◌, arith, get_or-set_other}
use Rattle.std.proofs.lemmas.Result.{IfOk-at_ok, IfErr-at_err}
use Rattle.sectors.specs.Refusal.{beyond_mending, number_of, refusal_of}
use Rattle.sectors.specs.Field.{◌⊕◌}
use Rattle.sectors.specs.Header.{SixBytes, at_one, at_alpha}
use Rattle.sectors.specs.Audit.{HeaderIn, header_refusal, header_at}
use Rattle.sectors.specs.Log.{times_power, LeastExponent, NoExponent}
use Rattle.sectors.specs.Mend.{Mends, Mendable, BeyondMending, OneByteChanged, mended_by, mended_to, unmended, mended_of, mend_of}
use Rattle.sectors.proofs.XorLaws.{sum_lt, sum_self}
use Rattle.sectors.proofs.HeaderLaws.{zeros_multiple}
use Rattle.sectors.proofs.ChangeLaws.{one_changed, alpha_changed}
use Rattle.sectors.proofs.DistanceLaws.{six_set, alpha_tells_place}
use Rattle.sectors.proofs.MendLaws.{found, none_found, mendable, returned_mends, beyond, changed_back, mended_tells}
use Rattle.sectors.proofs.RefusalLaws.{number_tells, number_some}
use Rattle.sectors.proofs.HeaderCases.{never_beyond, none_there, refused_answer, found_answer, holds_there, holds_of}
use Rattle.sectors.specs.declared.refusal.Refusal.{Refusal}
use Rattle.sectors.specs.declared.refusal.Refusal.TheVariants as refusal
use Rattle.sectors.specs.declared.mend.Mended.{Mended}

-- a header changed by s at the place that n bytes stand behind
abbrev changed_at : ℕ → ℕ → List ℕ → List ℕ
changed_at n s h = set h (5 - n) (get_or h (5 - n) 0 ⊕ s)

-- six bytes, and their values at 1 and at α
module _ (h : List ℕ) (six : SixBytes h) {s t : ℕ} (one_is : s ≡ at_one h) (alpha_is : t ≡ at_alpha h) where
  -- where one byte is bad, the exponent that is its place's takes the one value to the other
  takes : (w : Mendable h) → times_power (5 - w.mends.place) s ≡ t
  takes w = rw (one_is, alpha_is) (sym (alpha_tells_place h w.mended six w.mends))

  none_answer : ((k : ℕ) → k < 6 → times_power k s ≢ t) → unmended beyond_mending ≡ mended_of h
  none_answer never = sym (none_found h six (record { none_mends = λ w. never (5 - w.mends.place) (omega (arith, w.mends.inside)) (takes w) }))

  pub beyond_answer : NoExponent s t → unmended beyond_mending ≡ mended_of h
  beyond_answer none = none_answer (λ k l. none.none_takes k)

  module _ {n : ℕ} (least : LeastExponent s t n) where
    pub far_answer : 6 ≤ n → unmended beyond_mending ≡ mended_of h
    far_answer far = none_answer (λ k l e. absurd (omega (arith, least.is_least k e)))

    module _ (near : n < 6) (s-lt : s < 256) where
      inside : 5 - n < length h
      inside = omega (arith, six.its_length)

      changed_six : SixBytes (changed_at n s h)
      changed_six = six_set h (5 - n) _ six (sum_lt (six.its_bytes (5 - n)) s-lt)

      zero_at_one : at_one (changed_at n s h) ≡ 0
      zero_at_one = one_changed h six.its_bytes (5 - n) s s-lt inside ∙ (rw (← one_is) (sum_self s))

      zero_at_alpha : at_alpha (changed_at n s h) ≡ 0
      zero_at_alpha =
          let behind : length h - suc (5 - n) ≡ n = omega (arith, six.its_length) in
          alpha_changed h six.its_bytes (5 - n) s s-lt inside ∙ (rw (behind, least.takes, ← alpha_is) (sum_self t))

      pub changed_answer : mended_to (changed_at n s h) ≡ mended_of h
      changed_answer =
          sym (found h six (changed_at n s h) (record {
            six_bytes = changed_six;
            its_multiple = zeros_multiple (changed_at n s h) changed_six zero_at_one zero_at_alpha;
            place = 5 - n;
            inside = omega arith;
            equal_but = λ i other. sym (get_or-set_other h (5 - n) i _ 0 other);
          }))

-- What the contracts say of an answer: what is said of it, and what that means of a header, which is `h` and of which a property is said by `Of`.
abbrev pub Right : Mended → ((List ℕ → Type 0) → Type 0) → List ℕ → Result (List ℕ) Refusal → Type 0
Right said Of h r = record {
  answer : mended_by r ≡ said;
  mendable : refusal_of r ≡ 0 ↔ Of Mendable;
  mends : (g : List ℕ) → r ≡ Ok g → Mends h g;
  beyond : r ≡ Err refusal.BeyondMending ↔ Of BeyondMending;
  comes_back : (g : List ℕ) → Of (OneByteChanged g) → r ≡ Ok g;
}

-- of six bytes
same_number : (r : Result (List ℕ) Refusal) → refusal_of r ≡ (mended_by r).refusal
unfolding refusal_of mended_by mended_to unmended
same_number (Ok m) = refl
same_number (Err x) = refl

err_number : (r : Result (List ℕ) Refusal) → r ≡ Err refusal.BeyondMending ↔ (mended_by r).refusal ≡ beyond_mending
unfolding mended_by mended_to unmended number_of
err_number (Ok m) = ((λ e. absurd (IfErr-at_err (λ y. ⊥) e tt)), (λ e. absurd (omega (arith, e))))
err_number (Err x) = ((λ e. ap number_of (IfErr-at_err (λ y. x ≡ y) e refl)), (λ e. ap Err (number_tells x refusal.BeyondMending e)))

module _ (h : List ℕ) (six : SixBytes h) (r : Result (List ℕ) Refusal) (e : mended_by r ≡ mended_of h) where
  number : refusal_of r ≡ (mended_of h).refusal
  number = same_number r ∙ ap (λ (a : Mended). a.refusal) e

  returned : (g : List ℕ) → r ≡ Ok g → Mends h g
  unfolding mended_by mended_to
  returned g is =
      let said = sym e ∙ ap mended_by is in
      subst (λ (a : Mended). Mends h a.header) said (returned_mends h six (ap (λ (a : Mended). a.refusal) said))

  pub right_six : Right (mended_of h) (λ P. P h) h r
  unfolding mended_by
  right_six =
      let some = err_number r in let mends_iff = mendable h six in let beyond_iff = beyond h six in
      record {
        answer = e;
        mendable = ((λ o. mends_iff.0 (sym number ∙ o)), (λ m. number ∙ mends_iff.1 m));
        mends = returned;
        beyond = ((λ o. beyond_iff.0 (rw e at some.0 o)), (λ b. some.1 (rw e (beyond_iff.1 b))));
        comes_back = λ g w. mended_tells r (Ok g) (e ∙ changed_back g h six w);
      }

-- of a sector of an image
module _ (format : ℕ) (image : List ℕ) (lsn : ℕ) where
  abbrev Here : (List ℕ → Type 0) → Type 0
  Here P = HeaderIn P format image lsn

  abbrev RightHere : Result (List ℕ) Refusal → Type 0
  RightHere r = Right (mend_of format image lsn) Here (header_at image lsn) r

  module _ (x : Refusal) (refused : number_of x ≡ header_refusal format image lsn) where
    never : {P : List ℕ → Type 0} → ¬ Here P
    never s = none_there format image lsn _ (number_some x) refused (s.has_header, s.lies_there)

    pub right_refused : RightHere (Err x)
    unfolding mended_by mend_of number_of refusal_of
    right_refused = record {
      answer = refused_answer format image lsn _ (number_some x) refused _ _;
      mendable = ((λ o. absurd (omega (arith, o, number_some x))), (λ s. absurd (never s)));
      mends = λ g e. absurd (IfOk-at_ok (λ y. ⊥) e tt);
      beyond = ((λ e. absurd (never_beyond format image lsn (sym refused ∙ ap number_of (IfErr-at_err (λ y. x ≡ y) e refl)))), (λ s. absurd (never s)));
      comes_back = λ g s. absurd (never s);
    }

  module _ (h : List ℕ) (there : HeaderIn (λ g. g ≡ h) format image lsn) (r : Result (List ℕ) Refusal) where
    to : {P : List ℕ → Type 0} → P h → Here P
    to p = holds_there format image lsn h there p

    back : {P : List ℕ → Type 0} → Here P → P h
    back s = holds_of format image lsn h there s

    pub right_found : Right (mended_of h) (λ P. P h) h r → RightHere r
    unfolding mend_of
    right_found m = record {
      answer = m.answer ∙ found_answer format image lsn h there _ _;
      mendable = ((λ o. to (m.mendable.0 o)), (λ s. m.mendable.1 (back s)));
      mends = λ g e. subst (λ (f : List ℕ). Mends f g) (sym there.its_header) (m.mends g e);
      beyond = ((λ o. to (m.beyond.0 o)), (λ s. m.beyond.1 (back s)));
      comes_back = λ g s. m.comes_back g (back s);
    }
