-- A call that reads a disc, and what its contract says: the four equations with `read_disc`, of the answer and of the lent memory that it leaves.
-- What holds of every reading then holds of the code. Assumes nothing.
use Rattle.std.specs.Prelude.{ℕ, List, ◌≡◌}
use Rattle.std.proofs.Common.{sym}
use seplogic.Ra.Ura.{Ura}
use base.Logic.{ent}
use contract.Monad.{fact, fact_mono}
use Rattle.area.specs.Lent.{Shown, Lent}
use Rattle.area.specs.declared.track.Track.{Track}
use Rattle.disc.specs.Outcome.{Memory, Outcome}
use Rattle.disc.specs.Disc.{read_disc}
use Rattle.disc.specs.declared.answer.DiscAnswer.{DiscAnswer}

-- a call: what is lent to it, and what it hands back
pub record Call : Type 0 where
  pub format : ℕ
  pub image : List ℕ
  pub memory : Memory
  pub outcome : Outcome

-- the four equations
abbrev pub Said : Call → Type 0
Said c =
    (c.outcome.answer ≡ (read_disc c.format c.image c.memory).answer)
    × ((c.outcome.memory.work ≡ (read_disc c.format c.image c.memory).memory.work)
    × ((c.outcome.memory.tracks ≡ (read_disc c.format c.image c.memory).memory.tracks)
    × (c.outcome.memory.words ≡ (read_disc c.format c.image c.memory).memory.words)))

-- as one
pub told : (c : Call) → Said c → read_disc c.format c.image c.memory ≡ c.outcome
told c e = sym (λ i. record { answer = e.0 i; memory = record { work = e.1.0 i; tracks = e.1.1.0 i; words = e.1.1.1 i } })

-- ---- a call that is lent all memory: of `read_disc`, and of its export

-- its arguments, and its answer
pub record LentCall : Type 0 where
  pub format : ℕ
  pub image : Shown ℕ
  pub work : Lent ℕ
  pub tracks : Lent Track
  pub words : Lent ℕ
  pub answer : DiscAnswer

unfoldable pub lent_call : LentCall → Call
lent_call x = record {
  format = x.format;
  image = x.image.entry.now;
  memory = record { work = x.work.entry.now; tracks = x.tracks.entry.now; words = x.words.entry.now };
  outcome = record { answer = x.answer; memory = record { work = x.work.exit.now; tracks = x.tracks.exit.now; words = x.words.exit.now } };
}

-- the four equations, as its contract gives them
abbrev found : LentCall → Memory
found x = record { work = x.work.entry.now; tracks = x.tracks.entry.now; words = x.words.entry.now }

abbrev pub LentSaid : LentCall → Type 0
LentSaid x =
    (x.answer ≡ (read_disc x.format x.image.entry.now (found x)).answer)
    × ((x.work.exit.now ≡ (read_disc x.format x.image.entry.now (found x)).memory.work)
    × ((x.tracks.exit.now ≡ (read_disc x.format x.image.entry.now (found x)).memory.tracks)
    × (x.words.exit.now ≡ (read_disc x.format x.image.entry.now (found x)).memory.words)))

lent_said : (x : LentCall) → LentSaid x → Said (lent_call x)
unfolding lent_call
lent_said x e = e

pub lent_says : {M : Type 1} (𝓤 : Ura M) (x : LentCall) → ent 𝓤 (fact 𝓤 (LentSaid x)) (fact 𝓤 (Said (lent_call x)))
lent_says 𝓤 x = fact_mono 𝓤 (LentSaid x) (Said (lent_call x)) (lent_said x)
