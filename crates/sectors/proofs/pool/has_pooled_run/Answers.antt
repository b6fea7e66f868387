-- Each sector of a run that ends by the pool's count is asked for.
use Rattle.std.proofs.Common.{◌≡◌, true, false, sym, refl, ◌∙◌, arith, leb-true}
use Rattle.std.proofs.lemmas.Iterator.{cases_from_all, YieldsList-from_range}
use Rattle.sectors.specs.Options.{is_there}
use Rattle.sectors.specs.Pool.{pooled_at, pooled_source}
use Rattle.sectors.proofs.PoolCases.{has_any}
use Rattle.sectors.proofs.Turns.{pool_all}
use Rattle.sectors.proofs.pool.has_pooled_run.Goals as goal
use Rattle.sectors.proofs.pool.has_pooled_run.Goals.{then-n-sectors, else-n-sectors}

pub returns-then-count-sectors : goal.returns-then-count-sectors
unfolding pooled_source
returns-then-count-sectors c =
    let first = c.args.rips.first.now in let second = c.args.rips.second.now in let n = c.args.n in let count = c.args.count in
    let each =
    cases_from_all _ _ _ (λ k. is_there (pooled_at first second k) ≡ true) (λ k. is_there (pooled_at first second k) ≡ false) c.all.ensures.ran
    (YieldsList-from_range n _ count refl (omega arith)) (λ x q k. grind (arith, has_any)) (λ x q k. grind (arith, has_any)) in
    elim c.if-n-sectors.branch [
      | then-n-sectors w ↦ pool_all first second n count c.pooled_count-sectors.ensures (omega (arith, leb-true count _ (sym w.value-is ∙ c.if-count-sectors.true))) _ each
      | else-n-sectors w ↦ absurd (omega (arith, leb-true n _ (sym w.value-is ∙ c.if-count-sectors.true)))
    ]
