-- The header audit (01, "Header"; "audit 1, 11, 8"; 02, item 2). Assumes nothing.
use Rattle.std.specs.Prelude.{◌≡◌, ℕ, Result, Ok, Err, ◌+◌, ◌*◌, true, cond, List, length, ◌==◌}
use Rattle.sectors.specs.Fill.{part}
use Rattle.sectors.specs.Refusal.{foreign_format, no_such_entry, no_header, number_of}
use Rattle.sectors.specs.Format.{foreign, stored_size}
use Rattle.sectors.specs.Sector.{readable}
use Rattle.sectors.specs.Header.{is_sound, is_blank}
use Rattle.sectors.specs.declared.refusal.Refusal.{Refusal}
use Rattle.sectors.specs.declared.header.Verdict.{Verdict}
use Rattle.sectors.specs.declared.header.Verdict.TheVariants as verdict
use Rattle.sectors.specs.declared.header.AuditAnswer.{AuditAnswer}

-- 02, item 2: "The audit shall answer sound, blank or unsound"
abbrev pub sound_verdict : ℕ
sound_verdict = 1

abbrev pub blank_verdict : ℕ
blank_verdict = 2

abbrev pub unsound_verdict : ℕ
unsound_verdict = 3

-- the answer where there is no refusal, and a refusal, which comes with no verdict: 0 is none of the three
abbrev judged : ℕ → AuditAnswer
judged verdict = record { refusal = 0; verdict = verdict }

abbrev refused : ℕ → AuditAnswer
refused number = record { refusal = number; verdict = 0 }

-- "a definition states this paper's number and values for each of the enum's cases"
unfoldable pub verdict_number : Verdict → ℕ
verdict_number verdict.Sound = sound_verdict
verdict_number verdict.Blank = blank_verdict
verdict_number verdict.Unsound = unsound_verdict

unfoldable pub answer_of : Result Verdict Refusal → AuditAnswer
answer_of (Ok v) = judged (verdict_number v)
answer_of (Err r) = refused (number_of r)

-- what is answered of a header: sound, blank, or else unsound
unfoldable pub verdict_of : List ℕ → ℕ
verdict_of h = cond (is_sound h) sound_verdict (cond (is_blank h) blank_verdict unsound_verdict)

-- "11 | no header | audit of format 0 or 1": the format that has headers is the third, 2
abbrev pub header_format : ℕ
header_format = 2

-- "Header (ECMA-267): 4 bytes ID, 2 bytes IED": the six bytes at the start of a stored sector
abbrev pub header_size : ℕ
header_size = 4 + 2

unfoldable pub header_at : List ℕ → ℕ → List ℕ
header_at image lsn = part (lsn * stored_size header_format) header_size image

-- "audit 1, 11, 8": "format is not 0 .., 1 .., 2 ..", "audit of format 0 or 1", "sector not in the image"; else what is said of the header. 02, item 7,
-- of mending: "Checks: the audit's"
unfoldable pub header_or : {A : Type 0} → (ℕ → A) → (List ℕ → A) → ℕ → List ℕ → ℕ → A
header_or refuse say format image lsn =
    cond (foreign format) (refuse foreign_format)
    (cond (format == header_format)
    (cond (readable format (length image) lsn 1) (say (header_at image lsn)) (refuse no_such_entry))
    (refuse no_header))

-- the refusal of these checks; 0 where there is a header
unfoldable pub header_refusal : ℕ → List ℕ → ℕ → ℕ
header_refusal format image lsn = header_or (λ number. number) (λ h. 0) format image lsn

unfoldable pub audit_of : ℕ → List ℕ → ℕ → AuditAnswer
audit_of format image lsn = header_or refused (λ h. judged (verdict_of h)) format image lsn

-- The sector is one of an image that has headers, and P holds of its header.
pub record HeaderIn (P : List ℕ → Type 0) (format : ℕ) (image : List ℕ) (lsn : ℕ) : Type 0 where
  pub has_header : format ≡ header_format
  pub lies_there : readable header_format (length image) lsn 1 ≡ true
  pub its_header : P (header_at image lsn)
