-- The audit's answers, as the program comes to them: a refusal by a check, and else what is said of the header that is there. Assumes nothing.
use Rattle.std.proofs.Common.{◌≡◌, ℕ, Result, Ok, Err, ◌↔◌, List, refl, ap, ◌∙◌}
use Rattle.std.proofs.lemmas.Result.{IfOk-at_ok}
use Rattle.sectors.specs.Refusal.{number_of}
use Rattle.sectors.specs.Header.{Sound, Blank, Unsound}
use Rattle.sectors.specs.Audit.{HeaderIn, verdict_number, answer_of, verdict_of, header_refusal, audit_of}
use Rattle.sectors.proofs.RefusalLaws.{number_some}
use Rattle.sectors.proofs.HeaderCases.{none_there, refused_answer, found_answer, holds_there, holds_of}
use Rattle.sectors.specs.declared.refusal.Refusal.{Refusal}
use Rattle.sectors.specs.declared.header.Verdict.{Verdict}
use Rattle.sectors.specs.declared.header.Verdict.TheVariants as verdict

module _ (format : ℕ) (image : List ℕ) (lsn : ℕ) where
  abbrev Answers : Result Verdict Refusal → Type 0
  Answers r = answer_of r ≡ audit_of format image lsn

  abbrev Exactly : Result Verdict Refusal → Verdict → (List ℕ → Type 0) → Type 0
  Exactly r v P = r ≡ Ok v ↔ HeaderIn P format image lsn

  -- what the audit's contract says of an answer
  abbrev Right : Result Verdict Refusal → Type 0
  Right r = record { answer : Answers r; sound : Exactly r verdict.Sound Sound; blank : Exactly r verdict.Blank Blank; unsound : Exactly r verdict.Unsound Unsound }

  module _ (r : Refusal) (refused : number_of r ≡ header_refusal format image lsn) where
    never : (v : Verdict) (P : List ℕ → Type 0) → Exactly (Err r) v P
    never v P = (
      (λ e. absurd (IfOk-at_ok (λ w. ⊥) e tt)),
      (λ s. absurd (none_there format image lsn _ (number_some r) refused (s.has_header, s.lies_there))),
    )

    pub right_refused : Right (Err r)
    unfolding answer_of audit_of
    right_refused = record {
      answer = refused_answer format image lsn _ (number_some r) refused _ _;
      sound = never _ _;
      blank = never _ _;
      unsound = never _ _;
    }

  module _ (h : List ℕ) (there : HeaderIn (λ g. g ≡ h) format image lsn) (v : Verdict) where
    exactly : {P : List ℕ → Type 0} (w : Verdict) → v ≡ w ↔ P h → Exactly (Ok v) w P
    exactly {P} w means = (
      (λ e. holds_there format image lsn h there (means.0 (IfOk-at_ok (λ x. v ≡ x) e refl))),
      (λ s. ap Ok (means.1 (holds_of format image lsn h there s))),
    )

    pub right_found : record { number : verdict_number v ≡ verdict_of h; sound : v ≡ verdict.Sound ↔ Sound h; blank : v ≡ verdict.Blank ↔ Blank h; unsound : v ≡ verdict.Unsound ↔ Unsound h }
        → Right (Ok v)
    unfolding answer_of audit_of
    right_found m = record {
      answer = ap (λ (n : ℕ). record { refusal = 0; verdict = n }) m.number ∙ found_answer format image lsn h there _ _;
      sound = exactly verdict.Sound m.sound;
      blank = exactly verdict.Blank m.blank;
      unsound = exactly verdict.Unsound m.unsound;
    }
