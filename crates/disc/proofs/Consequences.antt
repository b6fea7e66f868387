-- What follows from the contract of `read_disc` alone, from its very clause `ensures-1`: demand 3, and the capping rule. Assumes nothing.
use seplogic.Ra.Ura.{Ura}
use base.Logic.{SProp, ent}
use prog.Memory.{Memory as Store}
use prog.Routine.{Routine}
use types.Logic.{Logic}
use contract.Lifetimes.{Lfts}
use contract.Monad.{Fun, fact}
use Rattle.disc.specs.Calls.{LentCall, lent_call, lent_says}
use Rattle.disc.specs.Capping.{TracksCapped}
use Rattle.disc.proofs.CappingCalls.{call_capped}
use Rattle.disc.specs.Demand3Calls.{Demanded, demanded}
use Rattle.disc.specs.contracts.disc.read_disc as read

module _ {M : Type 1} {𝓤 : Ura M} (𝓛 : Logic 𝓤) (mem : Store → SProp 𝓤) (run : Routine → Fun 𝓤) (κs : Lfts 4) where
  -- the clause, of a call
  abbrev clause : LentCall → SProp 𝓤
  clause x =
      read.ensures-1 𝓛 κs mem run x.format x.image.entry x.work.entry x.tracks.entry x.words.entry
      (record { entry = x.format; exit = x.format }) x.image x.work x.tracks x.words x.answer

  pub read_disc_demanded : Demanded 𝓤 clause lent_call
  read_disc_demanded = demanded 𝓤 clause lent_call (lent_says 𝓤)

  pub read_disc_capped : (x : LentCall) → ent 𝓤 (clause x) (fact 𝓤 (TracksCapped (lent_call x).outcome))
  read_disc_capped = call_capped 𝓤 clause lent_call (lent_says 𝓤)
