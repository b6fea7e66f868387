-- Demand 3 of the code: any function whose contract gives, of a call, the four equations with `read_disc` meets every clause in each call, and the
-- clause on two cuts in any two. Assumes nothing.
use Rattle.std.specs.Prelude.{ℕ, ◌≤◌, List, ◌≡◌}
use Rattle.std.proofs.Common.{subst}
use seplogic.Ra.Ura.{Ura}
use base.Logic.{SProp, ent, sep, via, fst∗, snd∗}
use contract.Monad.{fact, fact_use, fact_mono}
use Rattle.disc.specs.Calls.{Call, Said, told}
use Rattle.disc.specs.Outcome.{Outcome}
use Rattle.disc.specs.Disc.{read_disc}
use Rattle.disc.specs.Demand3.{Roomy, Rewritten, OneCut, TwoCuts}
use Rattle.disc.specs.Demand3Proof.{demand3}

-- one call, on an image that is a cut of any uncut one, rewritten
abbrev pub OneCall : Call → List ℕ → ℕ → Type 0
OneCall c uncut cut = OneCut c.format uncut cut c.image c.memory c.outcome

said_one : (c : Call) (uncut : List ℕ) (cut : ℕ) → Rewritten c.format uncut cut c.image → Said c → OneCall c uncut cut
said_one c uncut cut r e =
    subst (OneCut c.format uncut cut c.image c.memory) (told c e) (demand3.one_cut c.format uncut cut c.image r c.memory)

-- two calls in one format, on cuts of one uncut image, rewritten, the second no shorter: "neither reading has a short buffer"
pub record TwoCalls (c d : Call) (uncut : List ℕ) : Type 0 where
  pub same_format : d.format ≡ c.format
  pub cut : ℕ
  pub cut' : ℕ
  pub rewritten : Rewritten c.format uncut cut c.image
  pub rewritten' : Rewritten c.format uncut cut' d.image
  pub no_shorter : cut ≤ cut'
  pub roomy : Roomy c.memory
  pub roomy' : Roomy d.memory

said_two : (c d : Call) (uncut : List ℕ) → TwoCalls c d uncut → Said c → Said d → TwoCuts c.format uncut c.outcome d.outcome
said_two c d uncut two e e' =
    let second = subst (λ (f : ℕ). read_disc f d.image d.memory ≡ d.outcome) two.same_format (told d e') in
    subst (λ (o : Outcome). TwoCuts c.format uncut o d.outcome) (told c e)
    (subst (TwoCuts c.format uncut (read_disc c.format c.image c.memory)) second
    (demand3.two_cuts c.format uncut two.cut c.image two.rewritten two.cut' d.image two.rewritten' two.no_shorter
    c.memory d.memory two.roomy two.roomy'))

-- what the contract says of a call with such arguments, and the call: demand 3 of one, and of two
pub record Demanded {M : Type 1} (𝓤 : Ura M) {X : Type 0} (clause : X → SProp 𝓤) (call : X → Call) : Type 1 where
  pub one_call : (x : X) (uncut : List ℕ) (cut : ℕ) → Rewritten (call x).format uncut cut (call x).image
      → ent 𝓤 (clause x) (fact 𝓤 (OneCall (call x) uncut cut))
  pub two_calls : (x y : X) (uncut : List ℕ) → TwoCalls (call x) (call y) uncut
      → ent 𝓤 (sep 𝓤 (clause x) (clause y)) (fact 𝓤 (TwoCuts (call x).format uncut (call x).outcome (call y).outcome))

-- it follows from the four equations
pub demanded : {M : Type 1} (𝓤 : Ura M) {X : Type 0} (clause : X → SProp 𝓤) (call : X → Call)
    → ((x : X) → ent 𝓤 (clause x) (fact 𝓤 (Said (call x)))) → Demanded 𝓤 clause call
demanded 𝓤 clause call says = record {
  one_call = λ x uncut cut r. via 𝓤 (fact 𝓤 (Said (call x))) (says x) (fact_mono 𝓤 (Said (call x)) _ (said_one (call x) uncut cut r));
  two_calls = λ x y uncut two.
      fact_use 𝓤 (Said (call x)) (via 𝓤 (clause x) (fst∗ 𝓤 (clause x) (clause y)) (says x)) (λ e.
      via 𝓤 (clause y) (snd∗ 𝓤 (clause x) (clause y))
      (via 𝓤 (fact 𝓤 (Said (call y))) (says y) (fact_mono 𝓤 (Said (call y)) _ (said_two (call x) (call y) uncut two e))));
}
