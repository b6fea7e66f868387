-- What follows from the contract of `read_disc_by_value` alone, from its very clause `ensures-1`: demand 3, and the capping rule. Assumes nothing.
use Prim.Native.Nat.{ℕ}
use mathlib.Core.List.{List}
use seplogic.Ra.Ura.{Ura}
use base.Logic.{SProp, ent, id⊢}
use prog.Memory.{Memory as Store}
use prog.Routine.{Routine}
use types.Logic.{Logic}
use contract.Lifetimes.{Lfts}
use contract.Monad.{Fun, fact}
use Rattle.area.specs.Lent.{Shown, Lent}
use Rattle.area.specs.declared.track.Track.{Track}
use Rattle.disc.specs.Calls.{Call}
use Rattle.disc.specs.Capping.{TracksCapped}
use Rattle.disc.proofs.CappingCalls.{call_capped}
use Rattle.disc.specs.Demand3Calls.{Demanded, demanded}
use Rattle.disc_values.specs.declared.reading.Reading.{Reading}
use Rattle.disc_values.specs.contracts.reading.read_disc_by_value as read

-- the arguments of a call, and what it returns: the list of tracks is of both
pub record ByValue : Type 0 where
  pub format : ℕ
  pub image : Shown ℕ
  pub work : Lent ℕ
  pub tracks : List Track
  pub words : Lent ℕ
  pub reading : Reading

abbrev call : ByValue → Call
call x = record {
  format = x.format;
  image = x.image.entry.now;
  memory = record { work = x.work.entry.now; tracks = x.tracks; words = x.words.entry.now };
  outcome = record {
    answer = x.reading.answer;
    memory = record { work = x.work.exit.now; tracks = x.reading.tracks; words = x.words.exit.now };
  };
}

module _ {M : Type 1} {𝓤 : Ura M} (𝓛 : Logic 𝓤) (mem : Store → SProp 𝓤) (run : Routine → Fun 𝓤) (κs : Lfts 3) where
  -- the clause, of a call
  abbrev clause : ByValue → SProp 𝓤
  clause x =
      read.ensures-1 𝓛 κs mem run x.format x.image.entry x.work.entry x.tracks x.words.entry
      (record { entry = x.format; exit = x.format }) x.image x.work (record { entry = x.tracks; exit = x.tracks }) x.words x.reading

  pub by_value_demanded : Demanded 𝓤 clause call
  by_value_demanded = demanded 𝓤 clause call (λ x. id⊢ 𝓤 (clause x))

  pub by_value_capped : (x : ByValue) → ent 𝓤 (clause x) (fact 𝓤 (TracksCapped (call x).outcome))
  by_value_capped = call_capped 𝓤 clause call (λ x. id⊢ 𝓤 (clause x))
