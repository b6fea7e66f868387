-- The record is that of mending, and says what its law says.
use Rattle.std.proofs.Common.{◌≡◌, ◌∙◌, arith, rules}
use Rattle.sectors.proofs.MendLaws.{mend_means}
use Rattle.sectors.specs.Mend.{mend_of}
use Rattle.scarletbook.proofs.scarletbook_mend.Goals as goal

pub returns : goal.returns
returns c =
    let a = c.args in
    let e : c.into.result ≡ mend_of a.format a.image.now a.lsn.0 = search rules in
    let means = mend_means a.format a.image.now a.lsn.0 (λ i. omega (arith, c.type_inv.image i)) in
    record {
      answer = e;
      mendable = rw e means.mendable_iff;
      mends = rw e means.header_mends;
      beyond = rw e means.beyond_iff;
      comes_back = λ g changed. e ∙ means.comes_back g changed;
    }
