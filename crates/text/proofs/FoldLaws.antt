-- A test of each element, all of them looked at: a fold by `&`, and one by `|`. Assumes nothing.
use Rattle.std.specs.Prelude.{◌≡◌, Bool, true, false, ◌&&◌, ◌||◌, List, [], ◌∷◌, fold}
use Rattle.std.specs.List.{list_all, list_any}
use Rattle.std.proofs.Common.{sym, ◌∙◌}
use Rattle.std.proofs.Math.Bool.{and-true, and_assoc, or-false, or_assoc}

module _ {A : Type 0} (test : A → Bool) where
  fold_and : (so_far : Bool) (l : List A) → fold (λ sound x. sound && test x) so_far l ≡ (so_far && list_all test l)
  fold_and so_far [] = sym (and-true so_far)
  fold_and so_far (x ∷ l) = fold_and (so_far && test x) l ∙ and_assoc so_far (test x) (list_all test l)

  pub fold_all : (l : List A) → fold (λ sound x. sound && test x) true l ≡ list_all test l
  fold_all l = fold_and true l

  fold_or : (so_far : Bool) (l : List A) → fold (λ found x. found || test x) so_far l ≡ (so_far || list_any test l)
  fold_or so_far [] = sym (or-false so_far)
  fold_or so_far (x ∷ l) = fold_or (so_far || test x) l ∙ or_assoc so_far (test x) (list_any test l)

  pub fold_any : (l : List A) → fold (λ found x. found || test x) false l ≡ list_any test l
  fold_any l = fold_or false l
