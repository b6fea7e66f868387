-- Laws of `same`: it tells lists apart exactly when they differ, and goes through parts. Assumes nothing.
use Rattle.std.specs.Prelude.{◌≡◌, ℕ, ◌+◌, ◌<◌, Bool, true, false, not, ◌&&◌, List, [], ◌∷◌, ◌++◌, length, take, ◌==◌, slice_index, refl}
use Rattle.std.proofs.Common.{add-one, le_of_lt, arith, sym, ap, ◌∙◌, length-take-le, take-suc}
use Rattle.std.proofs.Math.Bool.{and_assoc, and-true}
use Rattle.std.proofs.lemmas.Slice.Eq.{bytes_eq-Decides}
use Rattle.sectors.specs.Bytes.{same}

pub same_eq : (a b : List ℕ) → same a b ≡ true → a ≡ b
unfolding same
same_eq a b e = (bytes_eq-Decides a b).0 e

pub same_refl : (a : List ℕ) → same a a ≡ true
unfolding same
same_refl a = (bytes_eq-Decides a a).1 refl

-- whichever stands first
pub same_turned : (a b : List ℕ) → same a b ≡ same b a
same_turned a b = go (same a b) (same b a) refl refl
  where
    go : (s t : Bool) → same a b ≡ s → same b a ≡ t → s ≡ t
    go true true e f = refl
    go false false e f = refl
    go true false e f = sym (same_refl b) ∙ rw (same_eq a b e) at f
    go false true e f = sym (sym (same_refl a) ∙ rw (same_eq b a f) at e)

-- what a test by `!=` says of it
pub differ_tells : (a b : List ℕ) {r t : Bool} → r ≡ not (same a b) → r ≡ t → same a b ≡ not t
differ_tells a b e f = not_not (same a b) ∙ ap not (sym e ∙ f)
  where
    not_not : (s : Bool) → s ≡ not (not s)
    not_not true = refl
    not_not false = refl

-- of lists in two parts, the first parts of one length
pub same_append : (a b c d : List ℕ) → length a ≡ length b → same (a ++ c) (b ++ d) ≡ (same a b && same c d)
unfolding same
same_append [] [] c d e = refl
same_append [] (y ∷ ys) c d e = absurd (omega arith)
same_append (x ∷ xs) [] c d e = absurd (omega arith)
same_append (x ∷ xs) (y ∷ ys) c d e = rw (same_append xs ys c d (omega arith)) (sym (and_assoc (x == y) (same xs ys) (same c d)))

-- one byte more
pub same_more : (a b : List ℕ) (i : ℕ) → i < length a → i < length b
    → same (take (i + 1) a) (take (i + 1) b) ≡ (same (take i a) (take i b) && slice_index a i == slice_index b i)
unfolding same
same_more a b i ha hb =
    let la = length-take-le i a (le_of_lt ha) in
    let lb = length-take-le i b (le_of_lt hb) in
    rw (add-one, take-suc a i 0, take-suc b i 0, same_append (take i a) (take i b) (slice_index a i ∷ []) (slice_index b i ∷ []) (la ∙ sym lb))
    (ap (λ (t : Bool). same (take i a) (take i b) && t) (and-true (slice_index a i == slice_index b i)))
