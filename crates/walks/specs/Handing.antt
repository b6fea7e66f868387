-- The MIR of a function that hands everything on: its body is one call, with all its parameters in their order. What the call does at the values passed is what the function does there: nothing is asked of what they own.
--     Param            a parameter, by the way in which the body hands it on
--     handing          the locals and the body of such a function
--     Lead             each slice that is lent again is a pointer and a count: its type alone leaves null and a function's address in the pointer's place, which cannot be followed
--     hands_on         its theorem, by recursion over the parameters
-- Assumes `Logic`.
use Rattle.std.specs.Prelude.{◌≡◌, refl, ℕ, suc, true, false, ◌&&◌, List, [], ◌∷◌, T, get_or}
use Rattle.std.proofs.Common.{sym, ap, subst, ◌∙◌}
use seplogic.Ra.Ura.{Ura}
use base.Fraction.{full_share}
use mir.Syntax.{Callee, Ty, ty_ref, ty_enum, ttnil, ty_int, tcons, tnil, Lifetime, erased, mut, w64, Step, deref, field, place, Opd as Operand, copy, addr_of, aggregate, Body, seq, assign, call, return, Local, local, value_local, Fn}
use Rattle.std.proofs.Math.Facts.{and_yes}
use mir.Val.{Val, Vals, vunit, vbool, vint, vfloat, vptr, vcode, vstruct, vcons, vnil, has_ty, has_tys, WT}
use base.Logic.{SProp, ent, id⊢}
use base.Fml.{ftrue, fat, froom, fdies}
use prog.Wp.{Env, Spot, Calls, Loops, Tables, WpFn, walk, eval_opds}
use types.Logic.{Logic}
use sound.WpLaws.{fm_of}
use types.Kit.{Item, Goal, Post, Sq, Go, ‵, raw, ◌⊛◌, given, later, mean, ⋆, prop, runs, at_ret, allocs, params', passes, frees, ◌$◌, ◌∵◌, !, qed, by, move, keep, use1, split, join, learn, await, regoal, done}
use types.Run.{Finds, Walks, Opd, look, init, forget, stop, hop, fld, from, load, addr, and_then, no_more, assigns, land, returns, enter, alloc1, alloc0, params1, pass1, pass0, free1, free0}
use types.Part.{whole, sub, look_in, agg}
use denote.Laws.{Typed}
use denote.Slice.{slice_ty}
use denote.Steps.{nothing}
use denote.Triple.Call.{calls_from}

-- copied as it is; or a `&mut [T]` that is lent again, with T as MIR writes it behind a reference and as it is spelled out
pub data Param : Type 0 where
  as_is : Ty → Param
  again : Lifetime → Ty → Ty → Param

abbrev pub ty_of : Param → Ty
ty_of (as_is τ) = τ
ty_of (again ℓ τ σ) = slice_ty (ty_ref ℓ mut τ)

abbrev pub tys_of : List Param → List Ty
tys_of [] = []
tys_of (p ∷ ps) = ty_of p ∷ tys_of ps

-- the types of the two temporaries by which a slice of τ is lent again: its pointer, and the slice
abbrev ptr_ty : Ty → Ty
ptr_ty τ = ty_ref erased mut τ

abbrev lent_ty : Ty → Ty
lent_ty τ = slice_ty (ptr_ty τ)

-- ---- the code
abbrev temps : List Param → List Local
temps [] = []
temps (as_is τ ∷ ps) = temps ps
temps (again ℓ τ σ ∷ ps) = local (ptr_ty τ) value_local ∷ local (lent_ty τ) value_local ∷ temps ps

abbrev params_then : List Param → List Local → List Local
params_then [] ls = ls
params_then (p ∷ ps) ls = local (ty_of p) value_local ∷ params_then ps ls

-- `&mut *slice`, from the local i, by the temporaries t and t + 1
abbrev lend : ℕ → ℕ → Ty → Body → Body
lend i t σ rest = seq (assign (place t []) (addr_of (place i (field 0 ∷ deref σ ∷ [])))) (seq (assign (place (suc t) []) (aggregate (copy (place t []) ∷ copy (place i (field 1 ∷ [])) ∷ []))) rest)

-- the parameters from the local i on, with the temporaries from t on
abbrev lend_then : ℕ → ℕ → List Param → Body → Body
lend_then i t [] rest = rest
lend_then i t (as_is τ ∷ ps) rest = lend_then (suc i) t ps rest
lend_then i t (again ℓ τ σ ∷ ps) rest = lend i t σ (lend_then (suc i) (suc (suc t)) ps rest)

abbrev operands : ℕ → ℕ → List Param → List Operand
operands i t [] = []
operands i t (as_is τ ∷ ps) = copy (place i []) ∷ operands (suc i) t ps
operands i t (again ℓ τ σ ∷ ps) = copy (place (suc t) []) ∷ operands (suc i) (suc (suc t)) ps

-- t, past as many locals as there are parameters
abbrev past : List Param → ℕ → ℕ
past [] t = t
past (p ∷ ps) t = suc (past ps t)

abbrev call_then_return : Callee → List Param → Body
call_then_return k ps = seq (call k (operands 1 (suc (past ps 0)) ps) (place 0 [])) return

-- the locals and the body of a function; and of the one that hands the parameters on to k, and returns what k does, of the type ρ
abbrev pub code_of : Fn → List Local × Body
code_of f = (f.locals, f.body)

abbrev pub handing : Ty → Callee → List Param → List Local × Body
handing ρ k ps = (local ρ value_local ∷ params_then ps (temps ps), lend_then 1 (suc (past ps 0)) ps (call_then_return k ps))

-- ---- a value of a slice's type is a pointer and a count
abbrev slice_of : ℕ → ℕ → Val → Val
slice_of k o u = vstruct (vcons (vptr k o) (vcons u vnil))

-- a pointer that can be followed;  a slice's value that begins with one
abbrev pub leads : Val → Type 0
leads vunit = ⊥
leads (vbool b) = ⊥
leads (vint w n) = ⊥
leads (vfloat f x) = ⊥
leads (vptr k o) = Unit {0}
leads (vcode c) = ⊥
leads (vstruct vs) = ⊥

abbrev pub first_leads : Vals → Type 0
first_leads vnil = ⊥
first_leads (vcons v vs) = leads v

abbrev pub slice_leads : Val → Type 0
slice_leads vunit = ⊥
slice_leads (vbool b) = ⊥
slice_leads (vint w n) = ⊥
slice_leads (vfloat f x) = ⊥
slice_leads (vptr k o) = ⊥
slice_leads (vcode c) = ⊥
slice_leads (vstruct vs) = first_leads vs

abbrev pub Lead : List Param → List Val → Type 0
Lead [] vs = Unit {0}
Lead (p ∷ ps) [] = Unit {0}
Lead (as_is τ ∷ ps) (v ∷ vs) = Lead ps vs
Lead (again ℓ τ σ ∷ ps) (v ∷ vs) = slice_leads v × Lead ps vs

pointer : (ℓ : Lifetime) (τ : Ty) (v : Val) → T (has_ty (ty_ref ℓ mut τ) v) → leads v → (k : ℕ) × (o : ℕ) × (v ≡ vptr k o)
pointer ℓ τ vunit h l = absurd h
pointer ℓ τ (vbool b) h l = absurd h
pointer ℓ τ (vint w n) h l = absurd l
pointer ℓ τ (vfloat f x) h l = absurd h
pointer ℓ τ (vptr k o) h l = (k, o, refl)
pointer ℓ τ (vcode c) h l = absurd l
pointer ℓ τ (vstruct vs) h l = absurd h

two_fields : (ρ π : Ty) (vs : Vals) → T (has_tys (tcons ρ (tcons π tnil)) vs) → (v : Val) × (u : Val) × T (has_ty ρ v) × (vs ≡ vcons v (vcons u vnil))
two_fields ρ π vnil h = absurd h
two_fields ρ π (vcons v vnil) h = absurd (and_yes (has_ty ρ v) false h).1
two_fields ρ π (vcons v (vcons u vnil)) h = (v, u, (and_yes (has_ty ρ v) (has_ty π u && true) h).0, refl)
two_fields ρ π (vcons v (vcons u (vcons w ws))) h = absurd (and_yes (has_ty π u) false (and_yes (has_ty ρ v) (has_ty π u && false) h).1).1

slice_shape : (ℓ : Lifetime) (τ : Ty) (v : Val) → T (has_ty (slice_ty (ty_ref ℓ mut τ)) v) → slice_leads v → (k : ℕ) × (o : ℕ) × (u : Val) × (v ≡ slice_of k o u)
slice_shape ℓ τ vunit h l = absurd h
slice_shape ℓ τ (vbool b) h l = absurd h
slice_shape ℓ τ (vint w n) h l = absurd h
slice_shape ℓ τ (vfloat f x) h l = absurd h
slice_shape ℓ τ (vptr k o) h l = absurd h
slice_shape ℓ τ (vcode c) h l = absurd h
slice_shape ℓ τ (vstruct vs) h l = (at.0, at.1, two.1, ap (λ (ws : Vals). vstruct ws) two.3 ∙ ap (λ (w : Val). vstruct (vcons w (vcons two.1 vnil))) at.2)
  where
    two : (v : Val) × (u : Val) × T (has_ty (ty_ref ℓ mut τ) v) × (vs ≡ vcons v (vcons u vnil))
    two = two_fields (ty_ref ℓ mut τ) (ty_int w64) vs h

    at : (k : ℕ) × (o : ℕ) × (two.0 ≡ vptr k o)
    at = pointer ℓ τ two.0 two.2 (subst first_leads two.3 l)

-- ---- where the locals lie: a block for each parameter, and for each temporary
abbrev Blocks : List Param → Type 0
Blocks [] = Unit {0}
Blocks (p ∷ ps) = ℕ × Blocks ps

abbrev TempBlocks : List Param → Type 0
TempBlocks [] = Unit {0}
TempBlocks (as_is τ ∷ ps) = TempBlocks ps
TempBlocks (again ℓ τ σ ∷ ps) = ℕ × (ℕ × TempBlocks ps)

-- each local's type and its block, as `Prog/Wp.antt`'s `Env` and `no_local`
abbrev Placed : Type 0
Placed = List (Ty × ℕ)

abbrev nowhere : Ty × ℕ
nowhere = (ty_enum [] ttnil, 0)

abbrev env_then : (ps : List Param) → Blocks ps → Placed → Placed
env_then [] bs E = E
env_then (p ∷ ps) bs E = (ty_of p, bs.0) ∷ env_then ps bs.1 E

abbrev temp_env : (ps : List Param) → TempBlocks ps → Placed
temp_env [] cs = []
temp_env (as_is τ ∷ ps) cs = temp_env ps cs
temp_env (again ℓ τ σ ∷ ps) cs = (ptr_ty τ, cs.0) ∷ (lent_ty τ, cs.1.0) ∷ temp_env ps cs.1.1

-- the parameters lie from the local i on, and the temporaries from t on
abbrev Found : Placed → ℕ → (ps : List Param) → Blocks ps → Type 0
Found E i [] bs = Unit {0}
Found E i (p ∷ ps) bs = (get_or E i nowhere ≡ (ty_of p, bs.0)) × Found E (suc i) ps bs.1

abbrev TempFound : Placed → ℕ → (ps : List Param) → TempBlocks ps → Type 0
TempFound E t [] cs = Unit {0}
TempFound E t (as_is τ ∷ ps) cs = TempFound E t ps cs
TempFound E t (again ℓ τ σ ∷ ps) cs = (get_or E t nowhere ≡ (ptr_ty τ, cs.0)) × ((get_or E (suc t) nowhere ≡ (lent_ty τ, cs.1.0)) × TempFound E (suc (suc t)) ps cs.1.1)

found_next : (e : Ty × ℕ) (E : Placed) (i : ℕ) (ps : List Param) (bs : Blocks ps) → Found E i ps bs → Found (e ∷ E) (suc i) ps bs
found_next e E i [] bs f = tt
found_next e E i (p ∷ ps) bs f = (f.0, found_next e E (suc i) ps bs.1 f.1)

temp_found_next : (e : Ty × ℕ) (E : Placed) (t : ℕ) (ps : List Param) (cs : TempBlocks ps) → TempFound E t ps cs → TempFound (e ∷ E) (suc t) ps cs
temp_found_next e E t [] cs f = tt
temp_found_next e E t (as_is τ ∷ ps) cs f = temp_found_next e E t ps cs f
temp_found_next e E t (again ℓ τ σ ∷ ps) cs f = (f.0, (f.1.0, temp_found_next e E (suc (suc t)) ps cs.1.1 f.1.1))

found : (ps : List Param) (bs : Blocks ps) (E : Placed) → Found (env_then ps bs E) 0 ps bs
found [] bs E = tt
found (p ∷ ps) bs E = (refl, found_next (ty_of p, bs.0) (env_then ps bs.1 E) 0 ps bs.1 (found ps bs.1 E))

temp_found : (ps : List Param) (cs : TempBlocks ps) → TempFound (temp_env ps cs) 0 ps cs
temp_found [] cs = tt
temp_found (as_is τ ∷ ps) cs = temp_found ps cs
temp_found (again ℓ τ σ ∷ ps) cs = (refl, (refl, temp_found_next (ptr_ty τ, cs.0) ((lent_ty τ, cs.1.0) ∷ temp_env ps cs.1.1) 1 ps cs.1.1 (temp_found_next (lent_ty τ, cs.1.0) (temp_env ps cs.1.1) 0 ps cs.1.1 (temp_found ps cs.1.1))))

temp_past : (qs : List Param) (bs : Blocks qs) (E : Placed) (t : ℕ) (ps : List Param) (cs : TempBlocks ps) → TempFound E t ps cs → TempFound (env_then qs bs E) (past qs t) ps cs
temp_past [] bs E t ps cs f = f
temp_past (q ∷ qs) bs E t ps cs f = temp_found_next (ty_of q, bs.0) (env_then qs bs.1 E) (past qs t) ps cs (temp_past qs bs.1 E t ps cs f)

-- the same of a whole function, whose first local e is the result
module _ (ps : List Param) (e : Ty × ℕ) (bs : Blocks ps) (cs : TempBlocks ps) where
  abbrev whole_env : Placed
  whole_env = e ∷ env_then ps bs (temp_env ps cs)

  all_found : Found whole_env 1 ps bs
  all_found = found_next e (env_then ps bs (temp_env ps cs)) 0 ps bs (found ps bs (temp_env ps cs))

  all_temps_found : TempFound whole_env (suc (past ps 0)) ps cs
  all_temps_found = temp_found_next e (env_then ps bs (temp_env ps cs)) (past ps 0) ps cs (temp_past ps bs (temp_env ps cs) 0 ps cs (temp_found ps cs))

-- ---- the locals' memory: room, values, and the right to free
module _ {M : Type 1} {𝓤 : Ura M} where
  abbrev room : (ps : List Param) → Blocks ps → Item 𝓤
  room [] bs = ‵ ftrue
  room (p ∷ ps) bs = ‵ (froom (ty_of p) bs.0 0) ⊛ room ps bs.1

  abbrev full : (ps : List Param) → Blocks ps → List Val → Item 𝓤
  full [] bs vs = ‵ ftrue
  full (p ∷ ps) bs [] = ‵ ftrue
  full (p ∷ ps) bs (v ∷ vs) = ‵ (fat full_share (ty_of p) bs.0 0 v) ⊛ full ps bs.1 vs

  abbrev dies : (ps : List Param) → Blocks ps → Item 𝓤
  dies [] bs = ‵ ftrue
  dies (p ∷ ps) bs = ‵ (fdies (ty_of p) bs.0) ⊛ dies ps bs.1

  abbrev temp_room : (ps : List Param) → TempBlocks ps → Item 𝓤
  temp_room [] cs = ‵ ftrue
  temp_room (as_is τ ∷ ps) cs = temp_room ps cs
  temp_room (again ℓ τ σ ∷ ps) cs = ‵ (froom (ptr_ty τ) cs.0 0) ⊛ ‵ (froom (lent_ty τ) cs.1.0 0) ⊛ temp_room ps cs.1.1

  -- what was lent; of the pointers nothing is kept
  abbrev lent : (ps : List Param) → TempBlocks ps → List Val → Item 𝓤
  lent [] cs vs = ‵ ftrue
  lent (p ∷ ps) cs [] = ‵ ftrue
  lent (as_is τ ∷ ps) cs (v ∷ vs) = lent ps cs vs
  lent (again ℓ τ σ ∷ ps) cs (v ∷ vs) = ‵ (froom (ptr_ty τ) cs.0 0) ⊛ ‵ (fat full_share (lent_ty τ) cs.1.0 0 v) ⊛ lent ps cs.1.1 vs

  abbrev temp_dies : (ps : List Param) → TempBlocks ps → Item 𝓤
  temp_dies [] cs = ‵ ftrue
  temp_dies (as_is τ ∷ ps) cs = temp_dies ps cs
  temp_dies (again ℓ τ σ ∷ ps) cs = ‵ (fdies (ptr_ty τ) cs.0) ⊛ ‵ (fdies (lent_ty τ) cs.1.0) ⊛ temp_dies ps cs.1.1

-- In each recursion P is the rest of the context, which takes in what is done with.
module _ {M : Type 1} {𝓤 : Ura M} (𝓛 : Logic 𝓤) where
  -- ---- entry: the locals are allocated, and the parameters stored
  open 𝓛 use {H}

  allocated : (ps : List Param) (P : Item 𝓤) {ls : List Local} {Kt : Env 𝓤 H → Goal 𝓤 H}
      → ((bs : Blocks ps) → Sq 𝓛 (room ps bs ∷ dies ps bs ∷ P ∷ []) (allocs ls (λ E. Kt (env_then ps bs E)))) → Sq 𝓛 (P ∷ []) (allocs (params_then ps ls) Kt)
  allocated [] P k = nothing ! $ nothing ! $ k tt
  allocated (p ∷ ps) P k = alloc1 ! (λ b. join ! $ join ! $ allocated ps _ (λ bs. move ! (2 ∷ []) $ split ! $ split ! $ move ! (0 ∷ 3 ∷ []) $ join ! $ move ! (1 ∷ 3 ∷ []) $ join ! $ move ! (1 ∷ 0 ∷ []) $ k (b, bs)))

  temps_allocated : (ps : List Param) (P : Item 𝓤) {Kt : Env 𝓤 H → Goal 𝓤 H}
      → ((cs : TempBlocks ps) → Sq 𝓛 (temp_room ps cs ∷ temp_dies ps cs ∷ P ∷ []) (Kt (temp_env ps cs))) → Sq 𝓛 (P ∷ []) (allocs (temps ps) Kt)
  temps_allocated [] P k = alloc0 ! $ nothing ! $ nothing ! $ k tt
  temps_allocated (as_is τ ∷ ps) P k = temps_allocated ps P k
  temps_allocated (again ℓ τ σ ∷ ps) P k = alloc1 ! (λ c. alloc1 ! (λ d. join ! $ join ! $ join ! $ join ! $ temps_allocated ps _ (λ cs. move ! (2 ∷ []) $ split ! $ split ! $ split ! $ split ! $
      -- [room for the slice; it dies; room for the pointer; it dies; P; those of ps]
      move ! (0 ∷ 5 ∷ []) $ join ! $ move ! (2 ∷ 0 ∷ []) $ join ! $ move ! (1 ∷ 4 ∷ []) $ join ! $ move ! (2 ∷ 0 ∷ []) $ join ! $ move ! (1 ∷ 0 ∷ []) $ k (c, (d, cs)))))

  stored : (ps : List Param) (bs : Blocks ps) (vs : List Val) → Typed (tys_of ps) vs → (E : Env 𝓤 H) (P : Item 𝓤) {g : Goal 𝓤 H} → Sq 𝓛 (full ps bs vs ∷ P ∷ []) g → Sq 𝓛 (room ps bs ∷ P ∷ []) (passes (env_then ps bs E) vs g)
  stored [] bs [] wt E P k = pass0 ! $ k
  stored [] bs (v ∷ vs) wt E P k = absurd wt
  stored (p ∷ ps) bs [] wt E P k = absurd wt
  stored (p ∷ ps) bs (v ∷ vs) wt E P k = split ! $ pass1 ! (init ! 0 refl wt.0) $ move ! (0 ∷ 2 ∷ []) $ join ! $ move ! (1 ∷ 0 ∷ []) $ stored ps bs.1 vs wt.1 E _
      (move ! (1 ∷ []) $ split ! $ move ! (0 ∷ 2 ∷ []) $ join ! $ k)

  -- ---- exit: the locals are freed
  freed : (ps : List Param) (bs : Blocks ps) (vs : List Val) → Typed (tys_of ps) vs → (P : Item 𝓤) {E : Env 𝓤 H} {g : Goal 𝓤 H} → Sq 𝓛 (P ∷ []) (frees E g) → Sq 𝓛 (full ps bs vs ∷ dies ps bs ∷ P ∷ []) (frees (env_then ps bs E) g)
  freed [] bs [] wt P k = keep ! (2 ∷ []) $ k
  freed [] bs (v ∷ vs) wt P k = absurd wt
  freed (p ∷ ps) bs [] wt P k = absurd wt
  freed (p ∷ ps) bs (v ∷ vs) wt P k = split ! $ forget ! 0 refl $ move ! (2 ∷ []) $ split ! $ move ! (2 ∷ 0 ∷ []) $ free1 ! $ move ! (1 ∷ 0 ∷ []) $ freed ps bs.1 vs wt.1 P k

  temps_freed : (ps : List Param) (cs : TempBlocks ps) (vs : List Val) → Typed (tys_of ps) vs → (P : Item 𝓤) {g : Goal 𝓤 H} → Sq 𝓛 (P ∷ []) g → Sq 𝓛 (lent ps cs vs ∷ temp_dies ps cs ∷ P ∷ []) (frees (temp_env ps cs) g)
  temps_freed [] cs [] wt P k = free0 ! $ keep ! (2 ∷ []) $ k
  temps_freed [] cs (v ∷ vs) wt P k = absurd wt
  temps_freed (p ∷ ps) cs [] wt P k = absurd wt
  temps_freed (as_is τ ∷ ps) cs (v ∷ vs) wt P k = temps_freed ps cs vs wt.1 P k
  temps_freed (again ℓ τ σ ∷ ps) cs (v ∷ vs) wt P k = split ! $ move ! (1 ∷ []) $ split ! $ forget ! 0 refl $ move ! (3 ∷ []) $ split ! $ move ! (1 ∷ []) $ split ! $
      -- [the slice dies; …; the pointer dies; room of the slice; …; room of the pointer; P]
      move ! (5 ∷ 2 ∷ 3 ∷ 0 ∷ []) $ free1 ! $ free1 ! $ move ! (1 ∷ 0 ∷ []) $ temps_freed ps cs.1.1 vs wt.1 P k

  -- ---- the body
  at_local : {Γ : List (Item 𝓤)} {E : Env 𝓤 H} {i : ℕ} {st : List Step} {e : Ty × ℕ} {sp : Spot 𝓤 H} → get_or E i nowhere ≡ e → Walks (Go {0}) 𝓛 Γ E (e.0, e.1, 0) st sp → Finds (Go {0}) 𝓛 Γ E (place i st) sp
  at_local {Γ} {E} {i} {st} same w = record { go = λ Kt h. subst (λ (x : Ty × ℕ). ent 𝓤 (⋆ 𝓛 Γ) (walk 𝓤 H E (x.0, x.1, 0) st Kt)) (sym same) (w.go Kt h) }

  -- a slice lent again: v in the local i, and the same v in the temporary t + 1
  module _ (Γ : List (Item 𝓤)) (E : Env 𝓤 H) (C : Calls 𝓤 H) (Λ : Loops 𝓤 H) (rest : Body) (q : Post 𝓤 H) (ℓ : Lifetime) (τ σ : Ty) (i t b c d : ℕ)
      (at_i : get_or E i nowhere ≡ (slice_ty (ty_ref ℓ mut τ), b)) (at-t : get_or E t nowhere ≡ (ptr_ty τ, c)) (after-t : get_or E (suc t) nowhere ≡ (lent_ty τ, d)) where
    abbrev Lends : Val → Type 1
    Lends v = slice_leads v → T (has_ty (slice_ty (ty_ref ℓ mut τ)) v) × WT v → Sq 𝓛 (‵ (fat full_share (slice_ty (ty_ref ℓ mut τ)) b 0 v) ∷ ‵ (froom (ptr_ty τ) c 0) ∷ ‵ (fat full_share (lent_ty τ) d 0 v) ∷ Γ) (runs C Λ E rest q)
        → Sq 𝓛 (‵ (fat full_share (slice_ty (ty_ref ℓ mut τ)) b 0 v) ∷ ‵ (froom (ptr_ty τ) c 0) ∷ ‵ (froom (lent_ty τ) d 0) ∷ Γ) (runs C Λ E (lend i t σ rest) q)

    lent_shape : (k o : ℕ) (u : Val) → Lends (slice_of k o u)
    lent_shape k o u l wt s =
        assigns ! (addr ! (at_local at_i (fld ! refl (hop ! (look_in ! 0 (sub ! 0 refl (whole !))) (stop !))))) (at_local at-t (stop !)) (init ! 1 refl (tt, tt)) $
        assigns ! (agg ! (and_then ! (load ! (at_local at-t (stop !)) (look ! 1 refl)) (and_then ! (load ! (at_local at_i (fld ! refl (stop !))) (look_in ! 0 (sub ! 1 refl (whole !)))) (no_more !)))) (at_local after-t (stop !)) (init ! 2 refl wt) $
        forget ! 1 refl $ s

    lent_again : (v : Val) → Lends v
    lent_again v l wt = subst Lends (sym (slice_shape ℓ τ v wt.0 l).3) (lent_shape (slice_shape ℓ τ v wt.0 l).0 (slice_shape ℓ τ v wt.0 l).1 (slice_shape ℓ τ v wt.0 l).2) l wt

  -- an operand is read
  read : {Γ : List (Item 𝓤)} (E : Env 𝓤 H) (i : ℕ) {τ : Ty} {b : ℕ} {v : Val} → get_or E i nowhere ≡ (τ, b) → (xs : List Operand) (Kt : List Val → SProp 𝓤)
      → Sq 𝓛 (‵ (fat full_share τ b 0 v) ∷ Γ) (prop (eval_opds 𝓤 H E xs (λ us. Kt (v ∷ us)))) → Sq 𝓛 (‵ (fat full_share τ b 0 v) ∷ Γ) (prop (eval_opds 𝓤 H E (copy (place i []) ∷ xs) Kt))
  read {Γ} E i {τ} {b} {v} same xs Kt s = record { prf = value.go (λ w. eval_opds 𝓤 H E xs (λ us. Kt (w ∷ us))) s.prf }
    where
      value : Opd (Go {0}) 𝓛 (‵ (fat full_share τ b 0 v) ∷ Γ) E (copy (place i [])) v
      value = load ! (at_local same (stop !)) (look ! 0 refl)

  module _ (E : Env 𝓤 H) where
    all_lent : (ps : List Param) (bs : Blocks ps) (cs : TempBlocks ps) (vs : List Val) → Typed (tys_of ps) vs → Lead ps vs → (i t : ℕ) → Found E i ps bs → TempFound E t ps cs → (P : Item 𝓤) {C : Calls 𝓤 H} {Λ : Loops 𝓤 H} {rest : Body} {q : Post 𝓤 H}
        → Sq 𝓛 (full ps bs vs ∷ lent ps cs vs ∷ P ∷ []) (runs C Λ E rest q) → Sq 𝓛 (full ps bs vs ∷ temp_room ps cs ∷ P ∷ []) (runs C Λ E (lend_then i t ps rest) q)
    all_lent [] bs cs [] wt l i t f g P k = k
    all_lent [] bs cs (v ∷ vs) wt l i t f g P k = absurd wt
    all_lent (p ∷ ps) bs cs [] wt l i t f g P k = absurd wt
    all_lent (as_is τ ∷ ps) bs cs (v ∷ vs) wt l i t f g P k = split ! $ move ! (0 ∷ 3 ∷ []) $ join ! $ move ! (1 ∷ 2 ∷ []) $ all_lent ps bs.1 cs vs wt.1 l (suc i) t f.1 g _
        (move ! (2 ∷ []) $ split ! $ move ! (0 ∷ 2 ∷ []) $ join ! $ move ! (0 ∷ 2 ∷ []) $ k)
    all_lent (again ℓ τ σ ∷ ps) bs cs (v ∷ vs) wt l i t f g P k = split ! $ move ! (2 ∷ []) $ split ! $ move ! (1 ∷ []) $ split ! $ move ! (3 ∷ 2 ∷ 0 ∷ []) $ lent_again _ E _ _ _ _ ℓ τ σ i t _ _ _ f.0 g.0 g.1.0 v l.0 wt.0
        -- [the slice; room of its pointer; the slice lent; …; …; P]
        (move ! (2 ∷ 5 ∷ []) $ join ! $ move ! (2 ∷ 0 ∷ []) $ join ! $ move ! (1 ∷ 0 ∷ []) $ join ! $ move ! (2 ∷ 1 ∷ []) $ all_lent ps bs.1 cs.1.1 vs wt.1 l.1 (suc i) (suc (suc t)) f.1 g.1.1 _
        (move ! (2 ∷ []) $ split ! $ move ! (1 ∷ []) $ split ! $ move ! (1 ∷ []) $ split ! $ move ! (0 ∷ 5 ∷ []) $ join ! $ move ! (2 ∷ 0 ∷ []) $ join ! $ move ! (2 ∷ 3 ∷ []) $ join ! $ k))

    all_read : (ps : List Param) (bs : Blocks ps) (cs : TempBlocks ps) (vs : List Val) → Typed (tys_of ps) vs → (i t : ℕ) → Found E i ps bs → TempFound E t ps cs → (P : Item 𝓤) (Kt : List Val → SProp 𝓤)
        → Sq 𝓛 (full ps bs vs ∷ lent ps cs vs ∷ P ∷ []) (prop (Kt vs)) → Sq 𝓛 (full ps bs vs ∷ lent ps cs vs ∷ P ∷ []) (prop (eval_opds 𝓤 H E (operands i t ps) Kt))
    all_read [] bs cs [] wt i t f g P Kt k = k
    all_read [] bs cs (v ∷ vs) wt i t f g P Kt k = absurd wt
    all_read (p ∷ ps) bs cs [] wt i t f g P Kt k = absurd wt
    all_read (as_is τ ∷ ps) bs cs (v ∷ vs) wt i t f g P Kt k = split ! $ read E i f.0 (operands (suc i) t ps) Kt
        (move ! (0 ∷ 3 ∷ []) $ join ! $ move ! (1 ∷ 2 ∷ []) $ all_read ps bs.1 cs vs wt.1 (suc i) t f.1 g _ (λ us. Kt (v ∷ us))
        (move ! (2 ∷ []) $ split ! $ move ! (0 ∷ 2 ∷ []) $ join ! $ move ! (0 ∷ 2 ∷ []) $ k))
    all_read (again ℓ τ σ ∷ ps) bs cs (v ∷ vs) wt i t f g P Kt k = split ! $ move ! (2 ∷ []) $ split ! $ move ! (1 ∷ []) $ split ! $ read E (suc t) g.1.0 (operands (suc i) (suc (suc t)) ps) Kt
        -- [the slice lent; …; room of its pointer; the slice; …; P]
        (move ! (0 ∷ 5 ∷ []) $ join ! $ move ! (2 ∷ 0 ∷ []) $ join ! $ move ! (2 ∷ 0 ∷ []) $ join ! $ move ! (2 ∷ 1 ∷ []) $ all_read ps bs.1 cs.1.1 vs wt.1 (suc i) (suc (suc t)) f.1 g.1.1 _ (λ us. Kt (v ∷ us))
        (move ! (2 ∷ []) $ split ! $ move ! (1 ∷ []) $ split ! $ move ! (1 ∷ []) $ split ! $ move ! (0 ∷ 5 ∷ []) $ join ! $ move ! (2 ∷ 0 ∷ []) $ join ! $ move ! (2 ∷ 3 ∷ []) $ join ! $ k))

  -- ---- the function. What the call answers is of the type ρ
  module _ (𝓣 : Tables 𝓤 H) (ρ : Ty) (ps : List Param) (k : Callee) (vs : List Val) (wt : Typed (tys_of ps) vs) (lead : Lead ps vs) (Q : Val → SProp 𝓤) (answers : (w : Val) → ent 𝓤 (Q w) (mean 𝓛 (later (given (T (has_ty ρ w) × WT w) (raw (Q w)))))) where
    abbrev Call : Item 𝓤
    Call = raw (𝓣.C k vs Q)

    -- what waits for the exit: the result's room, and the right to free each local
    abbrev Exit : ℕ → Blocks ps → TempBlocks ps → Item 𝓤
    Exit r bs cs = (‵ (froom ρ r 0) ⊛ ‵ (fdies ρ r)) ⊛ dies ps bs ⊛ temp_dies ps cs

    called : (r : ℕ) (bs : Blocks ps) (cs : TempBlocks ps)
        → Sq 𝓛 (full ps bs vs ∷ lent ps cs vs ∷ (Call ⊛ Exit r bs cs) ∷ []) (runs 𝓣.C 𝓣.Λ (whole_env ps (ρ, r) bs cs) (call_then_return k ps) (at_ret (whole_env ps (ρ, r) bs cs) Q))
    called r bs cs =
        move ! (2 ∷ []) $ split ! $ move ! (0 ∷ 2 ∷ 3 ∷ []) $ calls_from ! (fm_of 𝓤 H 𝓛.laws 𝓣) Call vs Q (id⊢ 𝓤 (𝓣.C k vs Q)) (record { go = λ Kt h. (values Kt h).prf }) (λ w.
        use1 𝓛 (later (given (T (has_ty ρ w) × WT w) (raw (Q w)))) (answers w) $ await ! tt $ learn ! (λ is.
        move ! (3 ∷ []) $ split ! $ split ! $ land ! (from ! (stop !)) (init ! 0 refl is) $ returns ! (look ! 0 refl) $ forget ! 0 refl $ free1 ! $
        -- [those that die; the answer; the parameters; what was lent]
        split ! $ move ! (1 ∷ 2 ∷ []) $ join ! $ move ! (3 ∷ 0 ∷ []) $ join ! $ move ! (2 ∷ 1 ∷ []) $ freed ps bs vs wt _
        (split ! $ move ! (1 ∷ []) $ split ! $ move ! (2 ∷ []) $ temps_freed ps cs vs wt _ (done !))))
      where
        values : (Kt : List Val → SProp 𝓤) → ent 𝓤 (⋆ 𝓛 (Call ∷ full ps bs vs ∷ lent ps cs vs ∷ Exit r bs cs ∷ [])) (Kt vs)
            → Sq 𝓛 (Call ∷ full ps bs vs ∷ lent ps cs vs ∷ Exit r bs cs ∷ []) (prop (eval_opds 𝓤 H (whole_env ps (ρ, r) bs cs) (operands 1 (suc (past ps 0)) ps) Kt))
        values Kt h = move ! (0 ∷ 3 ∷ []) $ join ! $ move ! (1 ∷ 2 ∷ []) $ all_read (whole_env ps (ρ, r) bs cs) ps bs cs vs wt 1 (suc (past ps 0)) (all_found ps (ρ, r) bs cs) (all_temps_found ps (ρ, r) bs cs) _ Kt
            (move ! (2 ∷ []) $ split ! $ move ! (0 ∷ 2 ∷ 3 ∷ []) $ by ! h)

    pub hands_on : (f : Fn) → code_of f ≡ handing ρ k ps → ent 𝓤 (𝓣.C k vs Q) (WpFn 𝓤 H 𝓣.C 𝓣.Λ f vs Q)
    hands_on f same =
        qed 𝓛 (Call ∷ []) ∵ enter ! 𝓣.C 𝓣.Λ f vs Q $ regoal ! (λ (x : List Local × Body). allocs x.0 (λ E. params' E vs (runs 𝓣.C 𝓣.Λ E x.1 (at_ret E Q)))) same refl $
        alloc1 ! (λ r. join ! $ move ! (1 ∷ 0 ∷ []) $ join ! $ allocated ps _ (λ bs. move ! (1 ∷ 2 ∷ []) $ join ! $ move ! (1 ∷ 0 ∷ []) $ join ! $ temps_allocated ps _ (λ cs.
        move ! (2 ∷ []) $ split ! $ move ! (1 ∷ []) $ split ! $ move ! (1 ∷ []) $ split ! $
        -- [the call; the result's room; those that die; room for the parameters and the temporaries]
        move ! (2 ∷ 5 ∷ []) $ join ! $ move ! (2 ∷ 0 ∷ []) $ join ! $ move ! (1 ∷ 0 ∷ []) $ join ! $ move ! (2 ∷ 0 ∷ []) $ join ! $ move ! (1 ∷ 0 ∷ []) $
        params1 ! $ stored ps bs vs wt (temp_env ps cs) _ (move ! (1 ∷ []) $ split ! $ move ! (2 ∷ 0 ∷ []) $
        all_lent (whole_env ps (ρ, r) bs cs) ps bs cs vs wt lead 1 (suc (past ps 0)) (all_found ps (ρ, r) bs cs) (all_temps_found ps (ρ, r) bs cs) _ (called r bs cs)))))
