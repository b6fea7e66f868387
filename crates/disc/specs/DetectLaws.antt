-- What detection answers is told by its record: the refusals by their numbers, which are not 0. Assumes nothing.
use Rattle.std.specs.Prelude.{◌≡◌, ℕ, cond, Result, Ok, Err, ◌==◌, refl}
use Rattle.std.proofs.Common.{sym, ap, ◌∙◌}
use Rattle.disc.specs.Detect.{in_format, detected_by}
use Rattle.disc.specs.Refusal.{number_of, number_some}
use Rattle.disc.specs.declared.detect.DetectAnswer.{DetectAnswer}
use Rattle.disc.specs.declared.refusal.DiscRefusal.{DiscRefusal}
use Rattle.disc.specs.declared.refusal.DiscRefusal.TheVariants as refusal

-- the refusal of which this is the number
refusal_from : ℕ → DiscRefusal
refusal_from n =
    cond (n == 1) refusal.ForeignFormat
    (cond (n == 2) refusal.ShortBuffer
    (cond (n == 3) refusal.MasterTocTruncated
    (cond (n == 4) refusal.NotScarletBook (cond (n == 5) refusal.VersionUnsupported refusal.NoAudioAreas))))

found_again : (r : DiscRefusal) → refusal_from (number_of r) ≡ r
unfolding number_of refusal_from
found_again refusal.ForeignFormat = refl
found_again refusal.ShortBuffer = refl
found_again refusal.MasterTocTruncated = refl
found_again refusal.NotScarletBook = refl
found_again refusal.VersionUnsupported = refl
found_again refusal.NoAudioAreas = refl

number_tells : (r s : DiscRefusal) → number_of r ≡ number_of s → r ≡ s
number_tells r s e = sym (found_again r) ∙ ap refusal_from e ∙ found_again s

pub detected_tells : (x y : Result ℕ DiscRefusal) → detected_by x ≡ detected_by y → x ≡ y
unfolding detected_by in_format
detected_tells (Ok f) (Ok g) e = ap Ok (ap (λ (a : DetectAnswer). a.sector_format) e)
detected_tells (Ok f) (Err s) e = absurd (number_some s (sym (ap (λ (a : DetectAnswer). a.refusal) e)))
detected_tells (Err r) (Ok g) e = absurd (number_some r (ap (λ (a : DetectAnswer). a.refusal) e))
detected_tells (Err r) (Err s) e = ap Err (number_tells r s (ap (λ (a : DetectAnswer). a.refusal) e))
