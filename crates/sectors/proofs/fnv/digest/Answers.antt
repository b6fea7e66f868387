-- The closure is a step as published.
use Rattle.std.proofs.Common.{rules}
use Rattle.std.proofs.lemmas.Iterator.{YieldsList-from_slice}
use Rattle.std.proofs.lemmas.Iterator.Consumers.{fold_from_yields_List}
use Rattle.sectors.specs.Fnv.{digest_of, fnv_step, offset_basis}
use Rattle.sectors.proofs.fnv.digest.Goals as goal

pub returns : goal.returns
unfolding digest_of fnv_step
returns c =
    fold_from_yields_List _ fnv_step offset_basis _ c.fold.ensures.ran (YieldsList-from_slice c.args.bytes.now cc) (λ hash byte r q k. search rules)
