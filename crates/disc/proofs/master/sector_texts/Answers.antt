-- Each entry is what the closure gives of its index.
use Rattle.std.proofs.Common.{rules}
use Rattle.disc.specs.Master.{sector_texts, disc_texts}
use Rattle.area.specs.TabulateLaws.{tabulated}
use Rattle.disc.proofs.master.sector_texts.Goals as goal

pub returns : goal.returns
unfolding sector_texts
returns c = tabulated disc_texts _ c.from_fn.result c.from_fn.ensures.items.long (λ i d lt. let given = c.from_fn.ensures.items.at i d lt in search rules)
