-- What is said of the header that is found, or its refusal.
use Rattle.std.proofs.lemmas.Result.{err_from_is_err_and}
use Rattle.sectors.specs.Refusal.{refusal_of}
use Rattle.sectors.proofs.AuditCases.{right_refused, right_found}
use Rattle.sectors.proofs.header.audit.Goals as goal

pub returns-in_err-header_of : goal.returns-in_err-header_of
unfolding refusal_of
returns-in_err-header_of c =
    let p = err_from_is_err_and c.from_residual.result c.from_residual.ensures.1 in
    rw (p.1, p.2) (right_refused _ _ _ _ c.in_err-header_of.ensures.refusal)

pub returns : goal.returns
returns c = right_found _ _ _ _ c.in_ok-header_of.ensures.found _ c.judge.ensures
