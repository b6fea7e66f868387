-- The tests in the program's order give the definition's number, and the number means what it says.
use mathlib.Core.Bool.{and-false}
use Rattle.sectors.specs.Header.{is_sound}
use Rattle.sectors.specs.Audit.{verdict_number, verdict_of}
use Rattle.sectors.proofs.AuditLaws.{judged_means}
use Rattle.sectors.proofs.header.judge.Goals as goal

pub returns-then-is_blank : goal.returns-then-is_blank
unfolding verdict_number verdict_of is_sound
returns-then-is_blank c =
    judged_means _ (record { its_length = c.told-h; its_bytes = c.fits-h }) _ (rw (← c.is_blank.ensures, c.if-is_blank.true, and-false _))

pub returns-then-is_multiple : goal.returns-then-is_multiple
unfolding verdict_number verdict_of is_sound
returns-then-is_multiple c =
    judged_means _ (record { its_length = c.told-h; its_bytes = c.fits-h }) _ (rw (← c.is_blank.ensures, c.if-is_blank.false, ← c.is_multiple.ensures, c.if-is_multiple.true))

pub returns : goal.returns
unfolding verdict_number verdict_of is_sound
returns c =
    judged_means _ (record { its_length = c.told-h; its_bytes = c.fits-h }) _ (rw (← c.is_blank.ensures, c.if-is_blank.false, ← c.is_multiple.ensures, c.if-is_multiple.false))
