-- What follows from the contract of `read_table` alone, from its very clause `ensures-1`: the capping rule. Assumes nothing.
use seplogic.Ra.Ura.{Ura}
use base.Logic.{SProp, ent, id⊢}
use prog.Memory.{Memory as Store}
use prog.Routine.{Routine}
use types.Logic.{Logic}
use contract.Lifetimes.{Lfts}
use contract.Monad.{Fun, fact}
use Rattle.area.proofs.CappingCalls.{TableCall, TableCapped, table_capped}
use Rattle.area.specs.contracts.lone.read_table as read

module _ {M : Type 1} {𝓤 : Ura M} (𝓛 : Logic 𝓤) (mem : Store → SProp 𝓤) (run : Routine → Fun 𝓤) (κs : Lfts 3) where
  -- the clause, of a call
  abbrev clause : TableCall → SProp 𝓤
  clause c =
      read.ensures-1 𝓛 κs mem run c.table.entry c.tracks.entry c.words.entry c.table c.tracks c.words c.answer

  pub read_table_capped : (c : TableCall) → ent 𝓤 (clause c) (fact 𝓤 (TableCapped c))
  read_table_capped = table_capped 𝓤 clause (λ c. id⊢ 𝓤 (clause c))
