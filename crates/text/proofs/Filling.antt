-- Code points written one after another: the next one of some of them has room, and is one. Assumes nothing.
use Rattle.std.specs.Prelude.{◌≡◌, true, ℕ, ◌≤◌, ◌<◌, length, leb, not}
use Rattle.std.proofs.Common.{sym, ap, ◌∙◌, arith, leb-true, append_assoc, length-append}
use Rattle.std.proofs.Math.Bool.{and-eq-true_iff}
use Rattle.std.proofs.lemmas.List.Folds.{list_all-append}
use mathlib.Core.List.{List, [], ◌∷◌, ◌++◌}
use Rattle.text.specs.Mapping.{is_point, is_surrogate, last_point, all_points}
use Rattle.text.specs.Utf8.{encoded}
use Rattle.text.specs.Utf8Laws.{encoded_append}

module _ (points done left : List ℕ) {point : ℕ} {behind : List ℕ} (whole : points ≡ done ++ left) (next : left ≡ point ∷ behind) where
  -- behind the next the others follow
  pub next_whole : points ≡ done ++ (point ∷ []) ++ behind
  next_whole = whole ∙ ap (λ (l : List ℕ). done ++ l) next ∙ sym (append_assoc done (point ∷ []) behind)

  -- its text is a part of the whole
  pub next_room : (room : ℕ) → length (encoded points) ≤ room → length (encoded (done ++ (point ∷ []))) ≤ room
  next_room room h =
      let parts = ap length (ap encoded next_whole ∙ encoded_append (done ++ (point ∷ [])) behind) in
      omega (arith, length-append (encoded (done ++ (point ∷ []))) (encoded behind))

  pub next_is : all_points points ≡ true → point < 0x110000
  unfolding all_points is_point
  next_is sound =
      let rest = (and-eq-true_iff (all_points done) (all_points left)).0 (sym (list_all-append is_point done left) ∙ sym (ap all_points whole) ∙ sound) in
      let first = (and-eq-true_iff (is_point point) (all_points behind)).0 (sym (ap all_points next) ∙ rest.1) in
      omega (arith, leb-true point last_point ((and-eq-true_iff (leb point last_point) (not (is_surrogate point))).0 first.0).0)
