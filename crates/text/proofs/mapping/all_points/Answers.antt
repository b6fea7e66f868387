-- The closure joins the test of a word to those before: a fold by `&` is whether all are.
use Rattle.std.proofs.Common.{true, ◌&&◌, rules, ◌∙◌}
use Rattle.std.proofs.lemmas.Iterator.{YieldsList-from_slice}
use Rattle.std.proofs.lemmas.Iterator.Consumers.{fold_from_yields_List}
use Rattle.text.specs.Mapping.{is_point, all_points}
use Rattle.text.proofs.FoldLaws.{fold_all}
use Rattle.text.proofs.mapping.all_points.Goals as goal

pub returns : goal.returns
unfolding all_points
returns c =
    let words = c.args.words.now in
    fold_from_yields_List _ (λ sound word. sound && is_point word) true _ c.fold.ensures.ran (YieldsList-from_slice words cc) (λ a x b q k. search rules)
    ∙ fold_all is_point words
