-- By the exponent that is found a header mends, or none does.
use Rattle.std.proofs.Common.{arith}
use Rattle.sectors.specs.Refusal.{number_of}
use Rattle.sectors.specs.Field.{◌⊕◌}
use Rattle.sectors.specs.Mend.{mended_by}
use Rattle.sectors.proofs.Mending.{right_six, beyond_answer, far_answer, changed_answer}
use Rattle.sectors.proofs.mend.mend_bytes.Goals as goal

pub returns-in-Some : goal.returns-in-Some
unfolding mended_by ◌⊕◌
returns-in-Some c =
    right_six _ (record { its_length = c.told-h; its_bytes = c.fits-h }) _
    (changed_answer _ (record { its_length = c.told-h; its_bytes = c.fits-h }) c.at_one-change.ensures c.at_alpha.ensures c.in-Some.ensures.least
    (omega arith) (omega arith))

pub returns-in_default : goal.returns-in_default
unfolding mended_by number_of
returns-in_default c =
    right_six _ (record { its_length = c.told-h; its_bytes = c.fits-h }) _
    (far_answer _ (record { its_length = c.told-h; its_bytes = c.fits-h }) c.at_one-change.ensures c.at_alpha.ensures c.in-Some.ensures.least
    (omega arith))

pub returns-in_default-2 : goal.returns-in_default-2
unfolding mended_by number_of
returns-in_default-2 c =
    right_six _ (record { its_length = c.told-h; its_bytes = c.fits-h }) _
    (beyond_answer _ (record { its_length = c.told-h; its_bytes = c.fits-h }) c.at_one-change.ensures c.at_alpha.ensures c.in_default.ensures.none)
