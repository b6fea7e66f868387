-- The closure adds a byte: the fold is by ⊕.
use Rattle.std.proofs.Common.{rules}
use Rattle.std.proofs.lemmas.Iterator.{YieldsList-from_slice}
use Rattle.std.proofs.lemmas.Iterator.Consumers.{fold_from_yields_List}
use Rattle.sectors.specs.Field.{◌⊕◌}
use Rattle.sectors.specs.Header.{at_one}
use Rattle.sectors.proofs.header.at_one.Goals as goal

pub returns : goal.returns
unfolding at_one ◌⊕◌
returns c = fold_from_yields_List _ ◌⊕◌ 0 _ c.fold.ensures.ran (YieldsList-from_slice c.args.h.now cc) (λ v b r q k. search rules)
