-- The audit's answers tell each other apart, and each of the three verdicts means what it says: of any image of bytes, by the tests that
-- decide sound and blank. What the checks before it give is said for any answer, that of mending too. Assumes nothing.
use Rattle.std.specs.Prelude.{◌≡◌, ℕ, Result, Ok, Err, ◌*◌, ◌<◌, Bool, true, false, cond, ◌≢◌, ◌↔◌, List, length, ◌==◌, slice_index, refl}
use Rattle.std.proofs.Math.Path.{sym}
use Rattle.std.proofs.Common.{ap, ◌∙◌, arith}
use borrow.Author.Tests.{eqb-true, ne_eqb}
use Rattle.sectors.specs.CheckLaws.{comes_here, comes_later, not_either}
use Rattle.sectors.specs.FillLaws.{part_length, part_all_hold}
use Rattle.sectors.specs.Format.{foreign, layout_of, stored_size}
use Rattle.sectors.specs.Refusal.{foreign_format, no_such_entry, no_header}
use Rattle.sectors.proofs.RefusalLaws.{tells}
use Rattle.sectors.specs.Sector.{readable}
use Rattle.sectors.proofs.SectorLaws.{stored_inside}
use Rattle.sectors.specs.Header.{SixBytes, Blank, Sound, Unsound, is_blank, is_sound}
use Rattle.sectors.proofs.HeaderLaws.{finds_blanks, blank_not_unsound, decides}
use Rattle.sectors.specs.Audit.{HeaderIn, sound_verdict, blank_verdict, unsound_verdict, verdict_number, answer_of, verdict_of, header_or, audit_of, header_format, header_size, header_at}
use Rattle.sectors.specs.declared.header.AuditAnswer.{AuditAnswer}
use Rattle.sectors.specs.declared.refusal.Refusal.{Refusal}
use Rattle.sectors.specs.declared.header.Verdict.{Verdict}
use Rattle.sectors.specs.declared.header.Verdict.TheVariants as verdict

-- the verdict of which this is the number
verdict_from : ℕ → Verdict
verdict_from n = cond (n == sound_verdict) verdict.Sound (cond (n == blank_verdict) verdict.Blank verdict.Unsound)

found_again : (v : Verdict) → verdict_from (verdict_number v) ≡ v
unfolding verdict_number verdict_from
found_again verdict.Sound = refl
found_again verdict.Blank = refl
found_again verdict.Unsound = refl

verdict_tells : (v w : Verdict) → verdict_number v ≡ verdict_number w → v ≡ w
verdict_tells v w e = sym (found_again v) ∙ ap verdict_from e ∙ found_again w

pub answer_tells : (r s : Result Verdict Refusal) → answer_of r ≡ answer_of s → r ≡ s
unfolding answer_of
answer_tells =
    tells answer_of (λ (a : AuditAnswer). a.refusal) (λ v. refl) (λ r. refl) (λ v w e. verdict_tells v w (ap (λ (a : AuditAnswer). a.verdict) e))

-- an answer is a verdict's exactly if its number is
verdict_some : (v : Verdict) → 0 < verdict_number v
unfolding verdict_number
verdict_some verdict.Sound = omega arith
verdict_some verdict.Blank = omega arith
verdict_some verdict.Unsound = omega arith

its_number : (v : Verdict) (r : Result Verdict Refusal) → r ≡ Ok v → (answer_of r).verdict ≡ verdict_number v
unfolding answer_of
its_number v r e = ap (λ (x : Result Verdict Refusal). (answer_of x).verdict) e

told : (v : Verdict) (r : Result Verdict Refusal) → (answer_of r).verdict ≡ verdict_number v → r ≡ Ok v
unfolding answer_of
told v (Ok w) e = ap Ok (verdict_tells w v e)
told v (Err s) e = absurd (omega (arith, verdict_some v, e))

-- ---- the verdict on six bytes: the three exclude each other, and one of them holds

module _ (h : List ℕ) (six : SixBytes h) where
  abbrev unless_sound : ℕ
  unless_sound = cond (is_blank h) blank_verdict unsound_verdict

  sound_verdict_lem : verdict_of h ≡ sound_verdict ↔ Sound h
  unfolding verdict_of
  sound_verdict_lem =
      comes_here (is_sound h) (decides h six) sound_verdict unless_sound
      (not_either (is_blank h) blank_verdict unsound_verdict sound_verdict (omega arith) (omega arith))

  -- any other verdict comes where the header is not sound
  not_sound : {Q : Type 0} (k : ℕ) → sound_verdict ≢ k → unless_sound ≡ k ↔ Q → verdict_of h ≡ k ↔ (¬ Sound h × Q)
  unfolding verdict_of
  not_sound k other comes = comes_later (is_sound h) (decides h six) sound_verdict unless_sound k other (λ free. comes)

  blank_verdict_lem : verdict_of h ≡ blank_verdict ↔ Blank h
  blank_verdict_lem =
      let comes = not_sound blank_verdict (omega arith) (comes_here (is_blank h) (finds_blanks h) blank_verdict unsound_verdict (omega arith)) in
      ((λ e. (comes.0 e).1), (λ b. comes.1 ((λ s. s.not_blank b), b)))

  unsound_verdict_lem : verdict_of h ≡ unsound_verdict ↔ Unsound h
  unsound_verdict_lem =
      let not_blank = comes_later (is_blank h) (finds_blanks h) blank_verdict unsound_verdict unsound_verdict (omega arith) (λ free. ((λ e. e), (λ e. e))) in
      let comes = not_sound unsound_verdict (omega arith) not_blank in (
        (λ e. let neither = comes.0 e in record { no_multiple = λ m. neither.0 (record { its_multiple = m; not_blank = neither.1.0 }) }),
        (λ u. comes.1 ((λ s. u.no_multiple s.its_multiple), ((λ b. blank_not_unsound h b u), refl))),
      )

  -- and its cases
  module _ (v : Verdict) (number : verdict_number v ≡ verdict_of h) where
    case_means : {P : Type 0} (w : Verdict) → (verdict_of h ≡ verdict_number w ↔ P) → v ≡ w ↔ P
    case_means w means = ((λ e. means.0 (sym number ∙ ap verdict_number e)), (λ p. verdict_tells v w (number ∙ means.1 p)))

    pub judged_means
        : record { number : verdict_number v ≡ verdict_of h; sound : v ≡ verdict.Sound ↔ Sound h; blank : v ≡ verdict.Blank ↔ Blank h; unsound : v ≡ verdict.Unsound ↔ Unsound h }
    unfolding verdict_number
    judged_means = record {
      number = number;
      sound = case_means verdict.Sound sound_verdict_lem;
      blank = case_means verdict.Blank blank_verdict_lem;
      unsound = case_means verdict.Unsound unsound_verdict_lem;
    }

-- ---- the checks, for any answer

pub header_length : (image : List ℕ) (lsn : ℕ) → readable header_format (length image) lsn 1 ≡ true → length (header_at image lsn) ≡ header_size
unfolding header_at stored_size layout_of
header_length image lsn there =
    part_length (lsn * stored_size header_format) header_size image (omega (arith, stored_inside header_format image lsn there))

pub header_six : (image : List ℕ) (lsn : ℕ) → ((i : ℕ) → slice_index image i < 256) → readable header_format (length image) lsn 1 ≡ true
    → SixBytes (header_at image lsn)
unfolding header_at
header_six image lsn bytes there = record {
  its_length = header_length image lsn there;
  its_bytes = part_all_hold (λ b. b < 256) _ header_size image 0 bytes;
}

abbrev pub There : ℕ → List ℕ → ℕ → Type 0
There format image lsn = (format ≡ header_format) × (readable header_format (length image) lsn 1 ≡ true)

module _ {A : Type 0} (refuse : ℕ → A) (say : List ℕ → A) (format : ℕ) (image : List ℕ) (lsn : ℕ) where
  abbrev checked : A
  checked = header_or refuse say format image lsn

  pub foreign_checked : foreign format ≡ true → checked ≡ refuse foreign_format
  unfolding header_or
  foreign_checked e = rw e

  pub no_header_checked : foreign format ≡ false → format ≢ header_format → checked ≡ refuse no_header
  unfolding header_or
  no_header_checked e other = rw (e, ne_eqb format header_format other)

  pub missing_checked : format ≡ header_format → readable header_format (length image) lsn 1 ≡ false → checked ≡ refuse no_such_entry
  unfolding header_or foreign
  missing_checked two e = rw (two, e)

  pub there_checked : There format image lsn → checked ≡ say (header_at image lsn)
  unfolding header_or foreign
  there_checked t = rw (t.0, t.1)

  -- a number that no check gives comes only where the sector is there; what it means of the six bytes, it means of the header in the image
  module _ (number : A → ℕ) (k : ℕ) (not-1 : number (refuse foreign_format) ≢ k) (not-11 : number (refuse no_header) ≢ k) (not-8 : number (refuse no_such_entry) ≢ k) where
    there_by : (far two inside : Bool) → foreign format ≡ far → (format == header_format) ≡ two → readable format (length image) lsn 1 ≡ inside
        → number checked ≡ k → There format image lsn
    unfolding header_or
    there_by true two inside e f g v = absurd (not-1 (rw e at v))
    there_by false false inside e f g v = absurd (not-11 (rw (e, f) at v))
    there_by false true false e f g v = absurd (not-8 (rw (e, f, g) at v))
    there_by false true true e f g v = let is-two = eqb-true format header_format f in (is-two, rw is-two at g)

    pub there : number checked ≡ k → There format image lsn
    there = there_by (foreign format) (format == header_format) (readable format (length image) lsn 1) refl refl refl

    pub in_image : (P : List ℕ → Type 0) → (There format image lsn → number (say (header_at image lsn)) ≡ k ↔ P (header_at image lsn))
        → number checked ≡ k ↔ HeaderIn P format image lsn
    in_image P means = (
      (λ e.
          let t = there e in
          record { has_header = t.0; lies_there = t.1; its_header = (means t).0 (sym (ap number (there_checked t)) ∙ e) }),
      (λ s.
          let t : There format image lsn = (s.has_header, s.lies_there) in
          ap number (there_checked t) ∙ (means t).1 s.its_header),
    )

-- ---- the audit's answer

module _ (format : ℕ) (image : List ℕ) (lsn : ℕ) where
  -- What each of the three answers means, both ways; they are numbers, or cases of the enum.
  pub record Means {A : Type 0} (sound blank unsound answer : A) : Type 0 where
    pub sound_iff : answer ≡ sound ↔ HeaderIn Sound format image lsn
    pub blank_iff : answer ≡ blank ↔ HeaderIn Blank format image lsn
    pub unsound_iff : answer ≡ unsound ↔ HeaderIn Unsound format image lsn

  -- "The audit shall answer sound, blank or unsound": of the numbers
  module _ (bytes : (i : ℕ) → slice_index image i < 256) where
    verdict_iff : (P : List ℕ → Type 0) (k : ℕ) → 0 < k → ((h : List ℕ) → SixBytes h → verdict_of h ≡ k ↔ P h)
        → (audit_of format image lsn).verdict ≡ k ↔ HeaderIn P format image lsn
    unfolding audit_of
    verdict_iff P k some means =
        in_image _ _ format image lsn (λ (a : AuditAnswer). a.verdict) k (omega arith) (omega arith) (omega arith) P
        (λ t. means (header_at image lsn) (header_six image lsn bytes t.1))

    pub verdict_means : Means sound_verdict blank_verdict unsound_verdict (audit_of format image lsn).verdict
    verdict_means = record {
      sound_iff = verdict_iff Sound sound_verdict (omega arith) sound_verdict_lem;
      blank_iff = verdict_iff Blank blank_verdict (omega arith) blank_verdict_lem;
      unsound_iff = verdict_iff Unsound unsound_verdict (omega arith) unsound_verdict_lem;
    }

    -- and of the cases
    module _ (r : Result Verdict Refusal) (answer : answer_of r ≡ audit_of format image lsn) where
      answer_means : {P : List ℕ → Type 0} (v : Verdict)
          → ((audit_of format image lsn).verdict ≡ verdict_number v ↔ HeaderIn P format image lsn) → r ≡ Ok v ↔ HeaderIn P format image lsn
      answer_means v means = (
        (λ e. means.0 (sym (ap (λ (a : AuditAnswer). a.verdict) answer) ∙ its_number v r e)),
        (λ p. told v r (ap (λ (a : AuditAnswer). a.verdict) answer ∙ means.1 p)),
      )

      pub result_means : Means (Ok verdict.Sound) (Ok verdict.Blank) (Ok verdict.Unsound) r
      unfolding verdict_number
      result_means = record {
        sound_iff = answer_means verdict.Sound verdict_means.sound_iff;
        blank_iff = answer_means verdict.Blank verdict_means.blank_iff;
        unsound_iff = answer_means verdict.Unsound verdict_means.unsound_iff;
      }
