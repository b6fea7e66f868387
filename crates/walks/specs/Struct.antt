-- A struct in a walk: its MIR type, its machine values and its relation to them, so that a proof can keep them shut and its context small.
--     Struct R τ val       the laws of the type R, whose MIR type is τ and whose machine value is `val x`
--     Shut R               the same with τ and `val` inside: where it is not opened, nothing of them is seen
--     struct_laws, shut    from what the module of the declared type has
-- The laws under a model assume `Logic` where they take it.
use Rattle.std.specs.Prelude.{◌≡◌, refl, List, [], ◌∷◌, T}
use Rattle.std.proofs.Common.{◌∙◌, ap, subst}
use seplogic.Ra.Ura.{Ura}
use mir.Syntax.{Ty}
use mir.Val.{Val, has_ty, WT}
use types.Logic.{Logic}
use Rattle.std.specs.Borrow.{RattleType}
use denote.Laws.{Is, Makes, Shows, shows as all-show, Typed}
use denote.Steps.{only}
use denote.Struct.Struct.{Plains}
use denote.Struct.Declared.{Declared, fields, row}
use denote.Struct.Laws as LL

pub record Struct (R : RattleType) (τ : Ty) (val : R.Denot → Val) : Type 2 where
  pub has : R.Denot → List Val → Type 0
  pub told : (x : R.Denot) (v : Val) → has x (v ∷ []) → v ≡ val x
  pub typed : {M : Type 1} {𝓤 : Ura M} (𝓛 : Logic 𝓤) → (x : R.Denot) (v : Val) → has x (v ∷ []) → T (has_ty τ v) × WT v
  pub makes : {M : Type 1} {𝓤 : Ura M} (𝓛 : Logic 𝓤) → Makes 𝓛 R has
  pub shows : {M : Type 1} {𝓤 : Ura M} (𝓛 : Logic 𝓤) → Shows 𝓛 R has

pub record Shut (R : RattleType) : Type 2 where
  pub ty : Ty
  pub val : R.Denot → Val
  pub laws : Struct R ty val

-- what is so at a value is so at the one that the laws tell
pub still : {R : RattleType} {τ : Ty} {val : R.Denot → Val} (s : Struct R τ val) (x : R.Denot) (v : Val) → s.has x (v ∷ []) → s.has x (val x ∷ [])
still s x v is = subst (λ (u : Val). s.has x (u ∷ [])) (s.told x v is) is

module _ (D : Declared) (L : LL.Laws D) (plain : Plains (fields D)) (τ : Ty) (is-type : (v : Val) → Typed (row D).mir (v ∷ []) → T (has_ty τ v) × WT v) where
  abbrev pub struct_laws : (val : D.D → Val) → ((x : D.D) → LL.val D L x ≡ val x) → Struct (row D) τ val
  struct_laws val same = record {
    has = Is (row D);
    told = λ x v is. ap only (LL.tells D L x (v ∷ []) is) ∙ same x;
    typed = λ 𝓛 x v is. is-type v ((LL.lawful D L 𝓛).typed x (v ∷ []) is);
    makes = λ 𝓛. LL.makes D plain 𝓛;
    shows = λ 𝓛. all-show 𝓛 (row D);
  }

  abbrev pub shut : Shut (row D)
  shut = record { ty = τ; val = LL.val D L; laws = struct_laws (LL.val D L) (λ x. refl) }
