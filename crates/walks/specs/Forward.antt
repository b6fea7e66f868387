-- A function that hands everything on meets what its callee meets: where the two contracts are the same, nothing is left to prove. What differs between such functions is the list of the parameters.
--     Handed           a parameter's type, by the way in which it is handed on.        number, struct       the usual values
--     Shape            what a proof shows by `refl`: the list is that of the signature and of the MIR
--     forwards         the theorem, as a generated statement has it
-- Assumes nothing but what a statement gives.
pub use Rattle.std.specs.Prelude.{refl, List, [], ◌∷◌}
pub use seplogic.Ra.Ura.{Ura}
pub use prog.Wp.{Heap}
pub use ghost.Atoms.{Atoms}
pub use types.Logic.{Logic}
pub use contract.Lifetimes.{Lfts}
pub use Rattle.std.specs.Borrow.{u8, u32}
pub use denote.Struct.Laws.{lawful}
use Rattle.std.specs.Prelude.{◌≡◌, ◌++◌, ℕ, T}
use Rattle.std.proofs.Common.{sym, ap, subst, ◌∙◌}
use mir.Syntax.{Callee, Ty, Width, ty_ref, named, imm, Fn}
use mir.Val.{Val, has_ty, WT}
use base.Logic.{ent, via, guard_e}
use base.Fml.{Lft}
use prog.Wp.{Tables, WpFn, Closed}
use prog.Model.{Model}
use prog.Routine.{Routine, Env}
use contract.Running.{Running, tables}
use types.Kit.{Item, ‵, raw, ◌⊛◌, some, given, later, mean, ◌$◌, ◌∵◌, !, qed, move, split, join, pick, await, updating, now as at_once, show, check, done}
use denote.RattleType.{RattleType, Denots, Valss, flat, mirs}
use denote.Laws.{Typed, Is, Are, Ises, shows, Lawful, Lawfuls, all_Typed}
use denote.Memory.{pointee, lone}
use denote.Plain.{UInt, uint_Lawful}
use denote.Slice.{slice_ty, MutSlice, ShrSlice, mut_slice_Tells, mut_slice_Lawful, shr_slice_Lawful}
use denote.Struct.Declared.{Declared, row}
use denote.Struct.Laws as LL
use denote.Steps.{peeks}
use denote.Signature.{Signature, type_at, types_at}
use denote.Triple.Entry.{Res, alive}
use denote.Triple.Statement.{Contract}
use denote.Triple.Spec.{Spec, triple_of, Meets}
use Rattle.walks.specs.Handing.{Param, as_is, again, Lead, ty_of, tys_of, code_of, handing, hands_on}
use Rattle.walks.specs.Statement.{AllAre, are_known, over_one_call}

-- the machine types of each of a list of types; and of each parameter, the one
abbrev pub each_mir : List RattleType → List (List Ty)
each_mir [] = []
each_mir (R ∷ Rs) = R.mir ∷ each_mir Rs

abbrev pub each_ty : List Param → List (List Ty)
each_ty [] = []
each_ty (p ∷ ps) = (ty_of p ∷ []) ∷ each_ty ps

abbrev joined : List (List Ty) → List Ty
joined [] = []
joined (τs ∷ τss) = τs ++ joined τss

mirs_joined : (Rs : List RattleType) → joined (each_mir Rs) ≡ mirs Rs
mirs_joined [] = refl
mirs_joined (R ∷ Rs) = ap (λ (τs : List Ty). R.mir ++ τs) (mirs_joined Rs)

tys_joined : (ps : List Param) → joined (each_ty ps) ≡ tys_of ps
tys_joined [] = refl
tys_joined (p ∷ ps) = ap (λ (τs : List Ty). ty_of p ∷ τs) (tys_joined ps)

abbrev head_of : List (List Ty) → List Ty
head_of [] = []
head_of (τs ∷ τss) = τs

abbrev tail_of : List (List Ty) → List (List Ty)
tail_of [] = []
tail_of (τs ∷ τss) = τss

-- past one value
lead_past : (τ : Ty) (ps : List Param) (us vs : List Val) → Typed (τ ∷ []) us → Lead ps vs → Lead (as_is τ ∷ ps) (us ++ vs)
lead_past τ ps [] vs t l = absurd t
lead_past τ ps (u ∷ []) vs t l = l
lead_past τ ps (u ∷ w ∷ us) vs t l = absurd t.1

abbrev result_ty : (S : Signature) → Lfts S.lifetimes → Ty
result_ty S κs = lone (type_at S.result κs).mir

-- a value; a `&[T]`, which is copied; a `&mut [T]`, which is lent again and goes at its own lifetime
pub data Handed {M : Type 1} {𝓤 : Ura M} (𝓛 : Logic 𝓤) : Type 2 where
  value : (R : RattleType) → Lawful 𝓛 R → Handed 𝓛
  shared : ℕ → Lft → RattleType → Handed 𝓛
  exclusive : ℕ → Lft → RattleType → Handed 𝓛

module _ {M : Type 1} {𝓤 : Ura M} {𝓛 : Logic 𝓤} where
  abbrev pub number : Width → Handed 𝓛
  number w = value (UInt w) (uint_Lawful 𝓛 w)

  abbrev pub struct : (D : Declared) → LL.Laws D → Handed 𝓛
  struct D L = value (row D) (LL.lawful D L 𝓛)

  -- their types, what MIR has of them, and their laws
  abbrev pub rows : List (Handed 𝓛) → List RattleType
  rows [] = []
  rows (value R law ∷ hs) = R ∷ rows hs
  rows (shared i κ R ∷ hs) = ShrSlice (named i) κ R ∷ rows hs
  rows (exclusive i κ R ∷ hs) = MutSlice (named i) κ R ∷ rows hs

  abbrev pub params : List (Handed 𝓛) → List Param
  params [] = []
  params (value R law ∷ hs) = as_is (lone R.mir) ∷ params hs
  params (shared i κ R ∷ hs) = as_is (slice_ty (ty_ref (named i) imm (pointee R.written))) ∷ params hs
  params (exclusive i κ R ∷ hs) = again (named i) (pointee R.written) (lone R.mir) ∷ params hs

  pub lawfuls : (hs : List (Handed 𝓛)) → Lawfuls 𝓛 (rows hs)
  lawfuls [] = tt
  lawfuls (value R law ∷ hs) = (law, lawfuls hs)
  lawfuls (shared i κ R ∷ hs) = (shr_slice_Lawful 𝓛 (named i) κ R, lawfuls hs)
  lawfuls (exclusive i κ R ∷ hs) = (mut_slice_Lawful 𝓛 (named i) κ R, lawfuls hs)

  -- the signature's types are those of hs; each is one machine value, and so is the result; the code hands the parameters on to g
  abbrev pub Shape : (S : Signature) → Lfts S.lifetimes → Callee → Fn → List (Handed 𝓛) → Type 1
  Shape S κs g f hs = (types_at S.params κs ≡ rows hs) × ((each_mir (rows hs) ≡ each_ty (params hs)) × (((type_at S.result κs).mir ≡ result_ty S κs ∷ []) × (code_of f ≡ handing (result_ty S κs) g (params hs))))

  -- a slice that is lent again is a pointer and a count, as its type's relation says
  lead_on : (hs : List (Handed 𝓛)) → each_mir (rows hs) ≡ each_ty (params hs) → (a : Denots (rows hs)) (vss : Valss (rows hs)) → Are (rows hs) (Ises (rows hs)) a vss → Lead (params hs) (flat (rows hs) vss)
  lead_on [] same a vss are = tt
  lead_on (value R law ∷ hs) same a vss are = lead_past (lone R.mir) (params hs) vss.0 (flat (rows hs) vss.1) (subst (λ (τs : List Ty). Typed τs vss.0) (ap head_of same) (law.typed a.0 vss.0 are.0)) (lead_on hs (ap tail_of same) a.1 vss.1 are.1)
  lead_on (shared i κ R ∷ hs) same a vss are = lead_past (slice_ty (ty_ref (named i) imm (pointee R.written))) (params hs) vss.0 (flat (rows hs) vss.1) ((shr_slice_Lawful 𝓛 (named i) κ R).typed a.0 vss.0 are.0) (lead_on hs (ap tail_of same) a.1 vss.1 are.1)
  lead_on (exclusive i κ R ∷ hs) same a vss are = subst (λ (us : List Val). Lead (again (named i) (pointee R.written) (lone R.mir) ∷ params hs) (us ++ flat (rows hs) vss.1)) (sym (mut_slice_Tells (named i) κ R a.0 vss.0 are.0)) (tt, lead_on hs (ap tail_of same) a.1 vss.1 are.1)

module _ {M : Type 1} {𝓤 : Ura M} (𝓛 : Logic 𝓤) (S : Signature) (c : Spec 𝓤 S) (hs : Lfts S.lifetimes → List (Handed 𝓛)) (law : (κs : Lfts S.lifetimes) → Lawful 𝓛 (type_at S.result κs))
    (g : Callee) (f : Fn) (shape : (κs : Lfts S.lifetimes) → Shape S κs g f (hs κs)) where
  open 𝓛 use {H}

  abbrev Stated : Contract 𝓤
  Stated = triple_of 𝓛 S c

  module _ (y : Stated.Ghost) where
    abbrev κs : Lfts S.lifetimes
    κs = y.0.0

    -- before the call the arguments are of their types, and after it the answer is of its own
    args_typed : AllAre 𝓛 S c κs y.0.3 y.0.4 → Typed (tys_of (params (hs κs))) (Stated.args y)
    args_typed are = subst (λ (τs : List Ty). Typed τs (Stated.args y)) (ap mirs (shape κs).0 ∙ sym (mirs_joined (rows (hs κs))) ∙ ap joined (shape κs).1.0 ∙ tys_joined (params (hs κs)))
        (all_Typed 𝓛 (types_at S.params κs) (subst (Lawfuls 𝓛) (sym (shape κs).0) (lawfuls {𝓛 = 𝓛} (hs κs))) y.0.3 y.0.4 are)

    args_lead : AllAre 𝓛 S c κs y.0.3 y.0.4 → Lead (params (hs κs)) (Stated.args y)
    args_lead are = subst (λ (Rs : List RattleType). (a : Denots Rs) (vss : Valss Rs) → Are Rs (Ises Rs) a vss → Lead (params (hs κs)) (flat Rs vss)) (sym (shape κs).0) (lead_on (hs κs) (shape κs).1.0) y.0.3 y.0.4 are

    answer_typed : (w : Val) → ent 𝓤 (Stated.post y w) (mean 𝓛 (later (given (T (has_ty (result_ty S κs) w) × WT w) (raw (Stated.post y w)))))
    answer_typed w =
        qed 𝓛 (later (some Answer) ∷ []) ∵ updating ! $ await ! tt $ pick ! (λ r. split ! $ split ! $ move ! (1 ∷ []) $
        peeks ! (type_at S.result κs) (Is (type_at S.result κs)) (shows 𝓛 (type_at S.result κs)) r (w ∷ []) (λ is. move ! (1 ∷ 0 ∷ []) $ join ! $ join ! $
        at_once ! $ check ! (typed r is) $ updating ! $ at_once ! $ show ! (λ (x : Res S κs). mean 𝓛 (Answer x)) r $ done !))
      where
        Answer : Res S κs → Item 𝓤
        Answer r = (raw (alive 𝓛 S κs y.0.1) ⊛ ‵ ((type_at S.result κs).own_val r (w ∷ []))) ⊛ raw ((c κs y.0.3).ensures y.1 r)

        typed : (r : Res S κs) → Is (type_at S.result κs) r (w ∷ []) → T (has_ty (result_ty S κs) w) × WT w
        typed r is = (subst (λ (τs : List Ty). Typed τs (w ∷ [])) (shape κs).1.1.0 ((law κs).typed r (w ∷ []) is)).0

  meets : (𝓣 : Tables 𝓤 H) → Meets 𝓛 S (𝓣.C g) c → Meets 𝓛 S (WpFn 𝓤 H 𝓣.C 𝓣.Λ f) c
  meets 𝓣 met y = via 𝓤 _ (are_known 𝓛 S c y) (guard_e 𝓤 _ (Stated.pre y) (λ are.
      via 𝓤 _ (met y) (hands_on 𝓛 𝓣 (result_ty S y.0.0) (params (hs y.0.0)) g (Stated.args y) (args_typed y are) (args_lead y are) (Stated.post y) (answer_typed y) f (shape y.0.0).1.1.1)))

-- k is the function's key and f its MIR, g the callee's key and r its routine
module _ {M : Type 1} {𝓤 : Ura M} (𝓛 : Logic 𝓤) (𝓜 : Model 𝓤 𝓛.H) (𝓡 : Running 𝓤 𝓛.H 𝓜) (S : Signature) (c : Spec 𝓤 S) where
  open 𝓛 use {H}

  pub forwards : (hs : Lfts S.lifetimes → List (Handed 𝓛)) → ((κs : Lfts S.lifetimes) → Lawful 𝓛 (type_at S.result κs)) → (γ : Env) (k : Callee) (f : Fn) → Closed 𝓤 H (tables 𝓤 H 𝓜 𝓡 γ).C (tables 𝓤 H 𝓜 𝓡 γ).Λ k f
      → (g : Callee) (r : Routine) → γ g ≡ r → ((κs : Lfts S.lifetimes) → Shape S κs g f (hs κs)) → Meets 𝓛 S (𝓡.run r) c → Meets 𝓛 S ((tables 𝓤 H 𝓜 𝓡 γ).C k) c
  forwards hs law γ k f closed g r is shape met = over_one_call 𝓛 𝓜 𝓡 S c S c γ k f closed g r is met (meets 𝓛 S c hs law g f shape)
