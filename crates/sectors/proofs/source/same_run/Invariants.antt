-- After k turns the data of k sectors are the lent bytes.
use Rattle.std.proofs.Common.{◌≡◌, ◌*◌, true, take}
use Rattle.sectors.specs.Bytes.{same}
use Rattle.sectors.specs.Format.{sector_size}
use Rattle.sectors.specs.Options.{given}
use Rattle.sectors.specs.Pool.{source_of}
use Rattle.sectors.specs.Source.{run_of}
use Rattle.sectors.proofs.source.same_run.Given as goal

abbrev pub invariant-loop-k : goal.invariant-loop-k
invariant-loop-k l = same (given (run_of (source_of l.source) l.lsn.0 l.k)) (take (l.k * sector_size) l.bytes) ≡ true
