-- The closure is a step of Horner's rule.
use Rattle.std.proofs.Common.{rules}
use Rattle.std.proofs.lemmas.Iterator.{YieldsList-from_slice}
use Rattle.std.proofs.lemmas.Iterator.Consumers.{fold_from_yields_List}
use Rattle.sectors.specs.Field.{◌⊕◌, times_alpha}
use Rattle.sectors.specs.Header.{at_alpha}
use Rattle.sectors.proofs.header.at_alpha.Goals as goal

pub returns : goal.returns
unfolding at_alpha ◌⊕◌
returns c =
    fold_from_yields_List _ (λ v a. times_alpha v ⊕ a) 0 _ c.fold.ensures.ran (YieldsList-from_slice c.args.h.now cc) (λ v b r q k. search rules)
