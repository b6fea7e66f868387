-- Its table is that of the definition, which antt computes and compares.
use Rattle.std.proofs.Common.{refl}
use Rattle.sectors.specs.Field.{times_alpha, ◌⊕◌}
use Rattle.sectors.specs.Log.{powers_from, powers, stored, logs, log}
use Rattle.sectors.proofs.log.log_of.Goals as goal

pub returns : goal.returns
unfolding log logs powers powers_from stored times_alpha ◌⊕◌
returns c = refl
