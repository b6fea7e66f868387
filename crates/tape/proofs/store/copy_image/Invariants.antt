-- After k turns the first k sectors are copied.
use Rattle.std.proofs.Common.{◌≡◌}
use Rattle.tape.proofs.Turns.{copied_to}
use Rattle.tape.proofs.store.copy_image.Given as goal

abbrev pub invariant-loop-k : goal.invariant-loop-k
invariant-loop-k l = l.to ≡ copied_to l.way l.n l.from l.initial.to l.k
