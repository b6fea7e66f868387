-- Laws of what is written into lent memory: runs of stores one after another, and their count. Assumes nothing.
use Rattle.std.specs.Prelude.{◌≡◌, Bool, cond, List, [], ◌∷◌, ◌++◌, map, ℕ, suc, ◌+◌, ◌≤◌, ltb, length, set, option_to_list}
use Rattle.std.specs.Bool.{then_some}
use Rattle.std.proofs.Math.Path.{refl}
use Rattle.std.proofs.Common.{sym, ap, ◌∙◌, add-zero, add-suc, suc-add, ltb-true, ltb-false}
use Rattle.std.proofs.Math.Bool.{true, false}
use Rattle.std.proofs.lemmas.List.{map-append, length-map}
use native.Mathlib.Omega.{arith}
use Rattle.std.proofs.Math.ListN.{length-append}
use Rattle.std.proofs.lemmas.List.Edits.{sets}
use Rattle.std.proofs.Math.Seq.{set_out, length-sets}
use Rattle.area.specs.Lent.{when_true, counted}

module _ {A : Type 0} where
  -- a test gives one element or none
  pub when_length : (t : Bool) (x : A) → length (when_true t x) ≡ cond t 1 0
  unfolding when_true
  when_length true x = refl
  when_length false x = refl

  pub when_listed : (t : Bool) (x : A) → option_to_list (then_some t x) ≡ when_true t x
  unfolding when_true
  when_listed true x = refl
  when_listed false x = refl

  pub when_given : (x : A) → when_true true x ≡ x ∷ []
  unfolding when_true
  when_given x = refl

  -- two runs, the second where the first ends, are one
  pub sets_then : (xs ys old : List A) (at : ℕ) → sets (sets old at xs) (at + length xs) ys ≡ sets old at (xs ++ ys)
  sets_then [] ys old at = ap (λ (n : ℕ). sets old n ys) (add-zero at)
  sets_then (x ∷ xs) ys old at =
      ap (λ (n : ℕ). sets (sets (set old at x) (suc at) xs) n ys) (add-suc at (length xs) ∙ sym (suc-add at (length xs)))
      ∙ sets_then xs ys (set old at x) (suc at)

  -- what does not fit is not stored
  pub sets_past : (xs old : List A) (at : ℕ) → length old ≤ at → sets old at xs ≡ old
  sets_past [] old at h = refl
  sets_past (x ∷ xs) old at h =
      ap (λ (l : List A). sets l (suc at) xs) (set_out old at x h) ∙ sets_past xs old (suc at) (omega arith)

-- nothing new is counted
pub counted_none : {A : Type 0} (B : Type 0) (old : List A) (at : ℕ) → counted {B = B} old at [] ≡ at
unfolding counted
counted_none B old at = omega arith

module _ {A B : Type 0} where
  -- all that fit are counted
  pub counted_all : (old : List A) (at : ℕ) (new : List B) → at + length new ≤ length old → counted old at new ≡ at + length new
  unfolding counted
  counted_all old at new h = omega arith

  -- past the end nothing is counted
  pub counted_full : (old : List A) (at : ℕ) (new : List B) → length old ≤ at → counted old at new ≡ at
  unfolding counted
  counted_full old at new h = omega arith

  -- the count stays within
  pub counted_within : (old : List A) (at : ℕ) (new : List B) → at ≤ length old → counted old at new ≤ length old
  unfolding counted
  counted_within old at new h = omega arith

  -- where something does not fit, the end is counted to
  counted_past : (old : List A) (at : ℕ) (new : List B) (after : List A) → length after ≡ length old → length old ≤ at + length new
      → length after ≤ counted old at new
  unfolding counted
  counted_past old at new after e h = omega arith

  -- the count of two runs, the second where the first is counted to
  pub counted_then : (old after : List A) (at : ℕ) (xs ys : List B) → length after ≡ length old
      → counted after (counted old at xs) ys ≡ counted old at (xs ++ ys)
  unfolding counted
  counted_then old after at xs ys e = let n = length-append xs ys in omega arith

  -- .. and they are one run, whatever the elements are written as
  pub sets_counted : (f : B → A) (old : List A) (at : ℕ) (xs ys : List B)
      → sets (sets old at (map f xs)) (counted old at xs) (map f ys) ≡ sets old at (map f (xs ++ ys))
  sets_counted f old at xs ys = go (ltb (length old) (at + length xs)) refl
    where
      there : ℕ
      there = at + length (map f xs)

      joined : sets (sets old at (map f xs)) there (map f ys) ≡ sets old at (map f (xs ++ ys))
      joined = sets_then (map f xs) (map f ys) old at ∙ ap (sets old at) (sym (map-append f xs ys))

      past : (m : ℕ) → m ≡ there → length (sets old at (map f xs)) ≡ length old → length old ≤ at + length xs → length (sets old at (map f xs)) ≤ m
      past m e n h = let k = length-map xs f in omega (arith, e)

      go : (t : Bool) → ltb (length old) (at + length xs) ≡ t
          → sets (sets old at (map f xs)) (counted old at xs) (map f ys) ≡ sets old at (map f (xs ++ ys))
      go false q =
          ap (λ (n : ℕ). sets (sets old at (map f xs)) n (map f ys)) (counted_all old at xs (ltb-false (length old) (at + length xs) q) ∙ ap (λ (n : ℕ). at + n) (sym (length-map xs f)))
          ∙ joined
      go true q =
          let long = ltb-true (length old) (at + length xs) q in let n = length-sets old at (map f xs) in
          sets_past (map f ys) (sets old at (map f xs)) _ (counted_past old at xs (sets old at (map f xs)) n (omega arith))
          ∙ sym (sets_past (map f ys) (sets old at (map f xs)) there (past there refl n (omega arith))) ∙ joined

-- what lent elements are and their count, after new ones are written from a count on
abbrev pub Pushed : {A B : Type 0} → (B → A) → List A → ℕ → List B → List A → ℕ → Type 0
Pushed f old count new after n = (after ≡ sets old count (map f new)) × (n ≡ counted old count new)

-- two runs, the second where the first is counted to, are one
pub pushed_then : {A B : Type 0} (f : B → A) (old middle after : List A) (count n m : ℕ) (xs ys : List B) → Pushed f old count xs middle n
    → Pushed f middle n ys after m → Pushed f old count (xs ++ ys) after m
pushed_then f old middle after count n m xs ys p q = (
  q.0 ∙ (λ i. sets (p.0 i) (p.1 i) (map f ys)) ∙ sets_counted f old count xs ys,
  q.1 ∙ ap (λ (k : ℕ). counted middle k ys) p.1 ∙ counted_then old middle count xs ys (ap length p.0 ∙ length-sets old count (map f xs)),
)
