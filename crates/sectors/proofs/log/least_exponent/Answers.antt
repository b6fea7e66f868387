-- Two values that are not zero are told apart by their logarithms.
use Rattle.std.proofs.Common.{arith}
use Rattle.sectors.proofs.LogLaws.{by_logs}
use Rattle.sectors.proofs.log.least_exponent.Goals as goal

pub returns-clause-least : goal.returns-clause-least
returns-clause-least c = by_logs _ _ (omega arith) (omega arith) c.if-from-eq0.false c.if-to-eq0.false c.log_of-2.ensures c.log_of.ensures
