-- The numbers are those of the audit's answer, and mean what the law of the verdicts says.
use Rattle.std.proofs.Common.{◌≡◌, arith, rules}
use Rattle.sectors.proofs.AuditLaws.{verdict_means}
use Rattle.sectors.specs.Audit.{audit_of}
use Rattle.scarletbook.proofs.scarletbook_audit.Goals as goal

pub returns : goal.returns
returns c =
    let a = c.args in
    let e : c.into.result ≡ audit_of a.format a.image.now a.lsn.0 = search rules in
    let means = verdict_means a.format a.image.now a.lsn.0 (λ i. omega (arith, c.type_inv.image i)) in
    record { answer = e; sound = rw e means.sound_iff; blank = rw e means.blank_iff; unsound = rw e means.unsound_iff }
