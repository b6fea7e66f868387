-- The closure joins the test of a text to those before: a fold by `|` is whether any is.
use Rattle.std.proofs.Common.{false, ◌||◌, rules, ◌∙◌}
use Rattle.std.proofs.lemmas.Iterator.{YieldsList-from_slice}
use Rattle.std.proofs.lemmas.Iterator.Consumers.{fold_from_yields_List}
use Rattle.text.proofs.FoldLaws.{fold_any}
use Rattle.area.specs.TextPlaces.{is_unterminated, any_unterminated}
use Rattle.area.proofs.text_places.any_unterminated.Goals as goal

pub returns : goal.returns
unfolding any_unterminated is_unterminated
returns c =
    let texts = c.args.texts in
    fold_from_yields_List _ (λ any text. any || is_unterminated text) false _ c.fold.ensures.ran (YieldsList-from_slice texts cc) (λ a x b q k. search rules)
    ∙ fold_any is_unterminated texts
