-- What stands from the place on begins with the signature where it stands there.
use Rattle.std.proofs.Common.{◌∙◌}
use Rattle.sectors.proofs.SignatureLaws.{signed_begun}
use Rattle.sectors.proofs.signature.has_signature.Goals as goal

pub returns-in-Some : goal.returns-in-Some
returns-in-Some c = c.starts_with.ensures.value ∙ signed_begun _ _ _ _ c.in-Some.ensures.lookup.0.2
