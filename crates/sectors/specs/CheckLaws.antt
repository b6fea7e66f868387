-- A test that decides a condition fails where the condition does not hold; and of several, each with a number, the first that passes gives its
-- own, which so says that its condition holds and those before it do not. Assumes nothing.
use Rattle.std.specs.Prelude.{◌≡◌, ℕ, Bool, true, false, cond, ◌≢◌, ◌↔◌, refl}
use Rattle.std.proofs.Common.{sym, true≢false}

pub fails : {P : Type 0} (test : Bool) → (test ≡ true) ↔ P → (test ≡ false) ↔ (¬ P)
fails true says = ((λ e. absurd (true≢false e)), (λ never. absurd (never (says.0 refl))))
fails false says = ((λ e p. true≢false (sym (says.1 p))), (λ never. refl))

module _ {P : Type 0} (test : Bool) (says : (test ≡ true) ↔ P) (number rest : ℕ) where
  -- its number is answered where it applies, and only there, if no later one is the same
  pub comes_here : rest ≢ number → (cond test number rest ≡ number) ↔ P
  comes_here other = go test refl
    where
      go : (t : Bool) → test ≡ t → (cond t number rest ≡ number) ↔ P
      go true e = (λ q. says.0 e, λ p. refl)
      go false e = (λ q. absurd (other q), λ p. absurd ((fails test says).0 e p))

  -- a later one's where it does not and the later one does
  pub comes_later : {Q : Type 0} (later : ℕ) → number ≢ later → (¬ P → (rest ≡ later) ↔ Q) → (cond test number rest ≡ later) ↔ (¬ P × Q)
  comes_later {Q} later other comes = go test refl
    where
      go : (t : Bool) → test ≡ t → (cond t number rest ≡ later) ↔ (¬ P × Q)
      go true e = (λ q. absurd (other q), λ p. absurd (p.0 (says.0 e)))
      go false e = let free = (fails test says).0 e in (λ q. (free, (comes free).0 q), λ p. (comes free).1 p.1)

-- a number that neither has
pub not_either : (test : Bool) (number rest other : ℕ) → number ≢ other → rest ≢ other → cond test number rest ≢ other
not_either true number rest other a b = a
not_either false number rest other a b = b
