-- `area::chain::walk` meets its contract: what is left of the walk leads to the table's chain. Assumes nothing.
use Rattle.std.proofs.Common.{length, ◌+◌, ◌-◌, ◌≤◌}
use Rattle.area.proofs.Walking.{Left}
use Rattle.area.proofs.chain.walk.Given as goal

abbrev pub invariant-loop-structure : goal.invariant-loop-structure
invariant-loop-structure l = Left l.table l.place l.chain × (l.place ≤ length l.table + 65536)

abbrev pub decreases-loop-structure : goal.decreases-loop-structure
decreases-loop-structure l = length l.table - l.place
