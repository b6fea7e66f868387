-- The capping rule of the code: any function whose contract gives, of a call, the four equations with `read_disc` keeps to it in each call.
-- Assumes nothing.
use Rattle.std.proofs.Common.{subst}
use seplogic.Ra.Ura.{Ura}
use base.Logic.{SProp, ent, via}
use contract.Monad.{fact, fact_mono}
use Rattle.disc.specs.Calls.{Call, Said, told}
use Rattle.disc.specs.Capping.{TracksCapped}
use Rattle.disc.proofs.CappingLaws.{disc_capped}

said_capped : (c : Call) → Said c → TracksCapped c.outcome
said_capped c e = subst TracksCapped (told c e) (disc_capped c.format c.image c.memory)

-- from a contract with these equations, of a call with such arguments: every track that comes out keeps to the rule
pub call_capped : {M : Type 1} (𝓤 : Ura M) {X : Type 0} (clause : X → SProp 𝓤) (call : X → Call)
    → ((x : X) → ent 𝓤 (clause x) (fact 𝓤 (Said (call x)))) → (x : X) → ent 𝓤 (clause x) (fact 𝓤 (TracksCapped (call x).outcome))
call_capped 𝓤 clause call says x =
    via 𝓤 (fact 𝓤 (Said (call x))) (says x) (fact_mono 𝓤 (Said (call x)) (TracksCapped (call x).outcome) (said_capped (call x)))
