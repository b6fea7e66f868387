-- The capping rule of the code: any function whose contract gives, of a call, the three equations with `lone_of`, of the answer and of the lent memory
-- that it leaves, keeps to it in each call. Assumes nothing.
use Rattle.std.specs.Prelude.{ℕ, ◌≡◌, length}
use seplogic.Ra.Ura.{Ura}
use base.Logic.{SProp, ent, via}
use contract.Monad.{fact, fact_mono}
use Rattle.area.specs.Capping.{LoneCapped}
use Rattle.area.proofs.CappingLaws.{lone_capped}
use Rattle.area.specs.Lent.{Shown, Lent}
use Rattle.area.specs.Lone.{Lone, lone_of, lone_answer, lone_tracks, lone_words}
use Rattle.area.specs.declared.lone.TableAnswer.{TableAnswer}
use Rattle.area.specs.declared.track.Track.{Track}

-- what is lent to it, as it finds and leaves it, and its answer
pub record TableCall : Type 0 where
  pub table : Shown ℕ
  pub tracks : Lent Track
  pub words : Lent ℕ
  pub answer : TableAnswer

-- what is to be read, by a call
abbrev lone_in : TableCall → Lone
lone_in c = lone_of c.table.entry.now (length c.tracks.entry.now) (length c.words.entry.now)

-- the three equations
abbrev pub TableSaid : TableCall → Type 0
TableSaid c =
    (c.answer ≡ lone_answer (lone_in c))
    × ((c.tracks.exit.now ≡ lone_tracks (lone_in c) c.tracks.entry.now) × (c.words.exit.now ≡ lone_words (lone_in c) c.words.entry.now))

abbrev pub TableCapped : TableCall → Type 0
TableCapped c = LoneCapped c.answer c.tracks.exit.now c.words.exit.now

said_capped : (c : TableCall) → TableSaid c → TableCapped c
said_capped c e =
    rw (e.0, e.1.0, e.1.1) (lone_capped c.table.entry.now c.tracks.entry.now c.words.entry.now)

-- from a contract with these equations: every track that a call hands back keeps to the rule
pub table_capped : {M : Type 1} (𝓤 : Ura M) (clause : TableCall → SProp 𝓤) → ((c : TableCall) → ent 𝓤 (clause c) (fact 𝓤 (TableSaid c)))
    → (c : TableCall) → ent 𝓤 (clause c) (fact 𝓤 (TableCapped c))
table_capped 𝓤 clause says c = via 𝓤 (fact 𝓤 (TableSaid c)) (says c) (fact_mono 𝓤 (TableSaid c) (TableCapped c) (said_capped c))
