-- After so many turns so many answers are written.
use Rattle.std.proofs.Common.{◌≡◌}
use Rattle.draws.proofs.print_draws.Given as goal

abbrev pub invariant-loop : goal.invariant-loop
invariant-loop g l = l.written ≡ l.counter
