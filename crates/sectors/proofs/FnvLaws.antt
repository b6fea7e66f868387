-- The fingerprint's answer as a value or a refusal. Assumes nothing.
use Rattle.std.specs.Prelude.{◌≡◌, ℕ, Result, refl}
use Rattle.std.proofs.Common.{ap}
use Rattle.sectors.specs.Fnv.{fingerprinted}
use Rattle.sectors.proofs.RefusalLaws.{tells}
use Rattle.sectors.specs.declared.refusal.Refusal.{Refusal}
use Rattle.sectors.specs.declared.fnv.FingerprintAnswer.{FingerprintAnswer}

pub fingerprint_tells : (r s : Result ℕ Refusal) → fingerprinted r ≡ fingerprinted s → r ≡ s
unfolding fingerprinted
fingerprint_tells =
    tells fingerprinted (λ (a : FingerprintAnswer). a.refusal) (λ d. refl) (λ r. refl) (λ a b e. ap (λ (f : FingerprintAnswer). f.digest) e)
