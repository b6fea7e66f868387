-- Where the loop is left, at no known signature, what is kept is the table's chain.
use Rattle.std.proofs.Common.{sym, ◌∙◌}
use Rattle.area.proofs.Walking.{left_end}
use Rattle.area.proofs.chain.walk.Goals as goal

pub returns : goal.returns
returns c =
    let l = c.loop-structure in left_end c.args.table.now l.place l.chain (sym c.structure_at.ensures ∙ c.in_default.is) l.invariant.0
