-- The closure joins the test of a pair to those before: a fold by `|` is whether any is.
use Rattle.std.proofs.Common.{false, ◌||◌, eqb, rules, ◌∙◌}
use Rattle.std.proofs.lemmas.Iterator.{YieldsList-from_slice}
use Rattle.std.proofs.lemmas.Iterator.Consumers.{fold_from_yields_List}
use Rattle.text.specs.Mapped.{is_reserved, reserved_pairs}
use Rattle.text.proofs.FoldLaws.{fold_any}
use Rattle.text.proofs.points.is_reserved.Goals as goal

pub returns : goal.returns
unfolding is_reserved
returns c =
    let key = c.args.key in
    fold_from_yields_List _ (λ any pair. any || eqb pair key) false _ c.fold.ensures.ran (YieldsList-from_slice reserved_pairs cc) (λ a x b q k. search rules)
    ∙ fold_any (λ pair. eqb pair key) reserved_pairs
