-- After k turns the data of k sectors fill the buffer.
use Rattle.std.proofs.Common.{◌≡◌}
use Rattle.sectors.specs.Fill.{fill}
use Rattle.sectors.specs.Options.{given}
use Rattle.sectors.specs.Pool.{source_of}
use Rattle.sectors.specs.Source.{run_of}
use Rattle.sectors.proofs.source.copy_run.Given as goal

abbrev pub invariant-loop-k : goal.invariant-loop-k
invariant-loop-k l = l.buf ≡ fill l.at (given (run_of (source_of l.source) l.lsn.0 l.k)) l.fn.buf
