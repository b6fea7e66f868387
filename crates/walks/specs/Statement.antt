-- Between a walk and a function's contract and statement.
--     are_known        on entry the arguments are to their machine values as their types say
--     over_one_call    a walk that rests on one callee's contract gives the generated statement
-- The first assumes `Logic`.
use Rattle.std.specs.Prelude.{◌≡◌, List, [], ◌∷◌}
use seplogic.Ra.Ura.{Ura}
use mir.Syntax.{Callee, Fn}
use base.Logic.{ent, guard_i}
use prog.Wp.{Tables, WpFn, Closed}
use prog.Model.{Model}
use prog.Routine.{Routine, Env}
use types.Logic.{Logic}
use contract.Lifetimes.{Lfts}
use contract.Monad.{fact_use}
use contract.Running.{Running, tables, tables_of}
use types.Kit.{‵, raw, ◌⊛◌, given, mean, ◌$◌, ◌∵◌, !, qed, move, use1, split, join, learn, check, done}
use denote.RattleType.{RattleType, Valss, owns}
use denote.Laws.{Are, Ises, showss, owns_show}
use denote.Signature.{Signature, types_at}
use denote.Triple.Entry.{Args, alive}
use denote.Triple.Statement.{Contract}
use denote.Triple.Spec.{Spec, triple_of, Meets}
use denote.Triple.Table.{entered, cited}

module _ {M : Type 1} {𝓤 : Ura M} (𝓛 : Logic 𝓤) (S : Signature) (c : Spec 𝓤 S) where
  abbrev Stated : Contract 𝓤
  Stated = triple_of 𝓛 S c

  abbrev Rows : Lfts S.lifetimes → List RattleType
  Rows κs = types_at S.params κs

  abbrev pub AllAre : (κs : Lfts S.lifetimes) → Args S κs → Valss (Rows κs) → Type 0
  AllAre κs = Are (Rows κs) (Ises (Rows κs))

  pub are_known : (y : Stated.Ghost) → ent 𝓤 (Stated.pre y) (mean 𝓛 (given (AllAre y.0.0 y.0.3 y.0.4) (raw (Stated.pre y))))
  are_known y =
      qed 𝓛 (((raw (alive 𝓛 S y.0.0 y.0.1) ⊛ ‵ (owns Rs y.0.3 y.0.4)) ⊛ raw ((c y.0.0 y.0.3).requires y.1)) ∷ []) ∵ split ! $ split ! $ move ! (1 ∷ []) $
      use1 𝓛 (given (Are Rs (Ises Rs) y.0.3 y.0.4) (‵ (owns Rs y.0.3 y.0.4)))
      (fact_use 𝓤 (Are Rs (Ises Rs) y.0.3 y.0.4) (owns_show 𝓛 Rs (Ises Rs) (showss 𝓛 Rs) y.0.3 y.0.4) (λ are. guard_i 𝓤 _ _ are)) $ learn ! (λ are.
      check ! are $ move ! (1 ∷ 0 ∷ []) $ join ! $ join ! $ done !)
    where
      Rs : List RattleType
      Rs = Rows y.0.0

-- γ has the routines by their keys: k is the function's key and f its MIR, g the callee's key and r its routine
module _ {M : Type 1} {𝓤 : Ura M} (𝓛 : Logic 𝓤) (𝓜 : Model 𝓤 𝓛.H) (𝓡 : Running 𝓤 𝓛.H 𝓜) (S : Signature) (c : Spec 𝓤 S) (S' : Signature) (c' : Spec 𝓤 S') where
  open 𝓛 use {H}

  pub over_one_call : (γ : Env) (k : Callee) (f : Fn) → Closed 𝓤 H (tables 𝓤 H 𝓜 𝓡 γ).C (tables 𝓤 H 𝓜 𝓡 γ).Λ k f → (g : Callee) (r : Routine) → γ g ≡ r → Meets 𝓛 S' (𝓡.run r) c'
      → ((𝓣 : Tables 𝓤 H) → Meets 𝓛 S' (𝓣.C g) c' → Meets 𝓛 S (WpFn 𝓤 H 𝓣.C 𝓣.Λ f) c) → Meets 𝓛 S ((tables 𝓤 H 𝓜 𝓡 γ).C k) c
  unfolding tables_of
  over_one_call γ k f closed g r is met walk =
      entered 𝓤 H (triple_of 𝓛 S c) (tables 𝓤 H 𝓜 𝓡 γ).C (tables 𝓤 H 𝓜 𝓡 γ).Λ k f closed
      (walk (tables_of 𝓤 H 𝓜 (tables 𝓤 H 𝓜 𝓡 γ)) (cited 𝓤 H (triple_of 𝓛 S' c') 𝓜 𝓡 γ g r is met))
