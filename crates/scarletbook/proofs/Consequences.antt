-- What follows from the contracts alone of two calls that are linked, from their very clauses `ensures-1`: demand 3 of `scarletbook_read_disc`, and the
-- capping rule of it and of `scarletbook_read_table`. Assumes nothing.
use seplogic.Ra.Ura.{Ura}
use base.Logic.{SProp, ent, id⊢}
use prog.Memory.{Memory as Store}
use prog.Routine.{Routine}
use types.Logic.{Logic}
use contract.Lifetimes.{Lfts}
use contract.Monad.{Fun, fact}
use Rattle.area.proofs.CappingCalls.{TableCall, TableCapped, table_capped}
use Rattle.disc.specs.Calls.{LentCall, lent_call, lent_says}
use Rattle.disc.specs.Capping.{TracksCapped}
use Rattle.disc.proofs.CappingCalls.{call_capped}
use Rattle.disc.specs.Demand3Calls.{Demanded, demanded}
use Rattle.scarletbook.specs.contracts.scarletbook_read_disc as read
use Rattle.scarletbook.specs.contracts.scarletbook_read_table as read_table

module _ {M : Type 1} {𝓤 : Ura M} (𝓛 : Logic 𝓤) (mem : Store → SProp 𝓤) (run : Routine → Fun 𝓤) where
  -- the clause of `scarletbook_read_disc`, of a call
  module _ (κs : Lfts 4) where
    abbrev clause : LentCall → SProp 𝓤
    clause x =
        read.ensures-1 𝓛 κs mem run x.format x.image.entry x.work.entry x.tracks.entry x.words.entry
        (record { entry = x.format; exit = x.format }) x.image x.work x.tracks x.words x.answer

    pub scarletbook_read_disc_demanded : Demanded 𝓤 clause lent_call
    scarletbook_read_disc_demanded = demanded 𝓤 clause lent_call (lent_says 𝓤)

    pub scarletbook_read_disc_capped : (x : LentCall) → ent 𝓤 (clause x) (fact 𝓤 (TracksCapped (lent_call x).outcome))
    scarletbook_read_disc_capped = call_capped 𝓤 clause lent_call (lent_says 𝓤)

  -- .. of `scarletbook_read_table`
  module _ (κs : Lfts 3) where
    abbrev table_clause : TableCall → SProp 𝓤
    table_clause c =
        read_table.ensures-1 𝓛 κs mem run c.table.entry c.tracks.entry c.words.entry c.table c.tracks c.words c.answer

    pub scarletbook_read_table_capped : (c : TableCall) → ent 𝓤 (table_clause c) (fact 𝓤 (TableCapped c))
    scarletbook_read_table_capped = table_capped 𝓤 table_clause (λ c. id⊢ 𝓤 (table_clause c))
