-- A call in a walk: what is handed to the callee, and what is had after it, over a list of the arguments. It holds of a callee that asks nothing (`requires`) and whose contract is one fact.
--     Arg          an argument: `made`, plain data, whose ownership is had for nothing;  `lent`, what is owned and goes;  `given`, a `&mut [T]`, whose last list the callee says;  `given_one`, a `&mut T`, whose last value it says
--     had ps       what must be owned.        tokens κs qs     the lifetimes' tokens
--     Lasts, ends, Longs       the last lists, what says them, and that each is as long as the list passed.        Gave, Gave_one     an entry of `ends`: what says the last value, beside the borrow, closed, which comes back with it
--     Says         what the callee's contract says at the arguments.        calls        the call: from [tokens; had] to [what the result owns; tokens; ends], with the result's relation, the contract's fact and `Longs` in hand
-- Assumes `Logic`.
use Rattle.std.specs.Prelude.{◌≡◌, refl, ℕ, zero, suc, ◌<◌, ◌^◌, List, [], ◌∷◌, ◌++◌, length}
use seplogic.Ra.Ura.{Ura}
use mir.Syntax.{Ty, Width, erased, Callee, Place, Opd as Operand, Body, seq, call}
use mir.Val.{Val, vint, bits}
use base.Logic.{SProp, ent, sep, ex, emp, guard, id⊢, via, comm∗, mono_l, mono_r, mono∗, emp∗, fst∗, snd∗}
use base.Fml.{Lft, Fml, ftrue, fsep, feq, flft, fres, fbor}
use prog.Wp.{Env, Calls, Loops, eval_opds}
use types.Logic.{Logic, sem}
use contract.Lifetimes.{Lfts, Shares, toks}
use contract.Monad.{fact, fact_i, fact_use}
use sound.WpLaws.{FmC}
use types.Kit.{Item, ‵, raw, ◌⊛◌, some, later, ⋆, push, pop, ++⊢, ⊢++, Post, Goal, runs, lands, aim, Seq, ◌$◌, ◌∵◌, !, qed, by, move, use1, split, pick, learn, fsplit, fjoin, feq_l, drop, check, await, given as guarded, Soaks, cut}
use types.Run.{Opds}
use types.Hole.{Holey}
use types.SemTy.{Body as Held, Arr}
use denote.RattleType.{RattleType, Denots, Valss, flat, owns}
use denote.Laws.{Rel, Shows}
use denote.Memory.{mem}
use denote.Ref.{Bor, MutBor, MutRef, mut_vals}
use denote.Plain.{UInt, uint_Makes}
use denote.Slice.{shr_slice_vals, mut_slice_vals, MutSlice, ShrSlice, finally}
use denote.Steps.{heard, peeks}
use Rattle.walks.specs.Struct.{Struct}

-- what is had of a `&mut [T]` and of a `&mut T` that are given away, at the last value: what says it, and the borrow, closed
module _ (R : RattleType) (κ : Lft) where
  abbrev pub Gave : MutBor (List R.Denot) → List R.Denot → Fml
  Gave x ys = fsep (finally R x.ghost_name ys) (fbor κ (Held (Arr (Holey (mem R)) (length x.now)) x.ref_ptr.0 x.ref_ptr.1 x.ghost_name))

  abbrev pub Gave_one : MutBor R.Denot → R.Denot → Fml
  Gave_one x y = fsep (fres x.ghost_name (R.coded.code y)) (fbor κ (Held (mem R) x.ref_ptr.0 x.ref_ptr.1 x.ghost_name))

module _ {M : Type 1} {𝓤 : Ura M} (𝓛 : Logic 𝓤) where
  pub data Arg : Type 2 where
    made : (R : RattleType) (x : R.Denot) (vs : List Val) → ent 𝓤 (emp 𝓤) (sem 𝓛 (R.own_val x vs)) → Arg
    lent : (R : RattleType) (x : R.Denot) (vs : List Val) → Arg
    given : (R : RattleType) (κ : Lft) (x : MutBor (List R.Denot)) → Arg
    given_one : (R : RattleType) (κ : Lft) (x : MutBor R.Denot) → Arg

module _ {M : Type 1} {𝓤 : Ura M} {𝓛 : Logic 𝓤} where
  abbrev pub row : Arg 𝓛 → RattleType
  row (made R x vs o) = R
  row (lent R x vs) = R
  row (given R κ x) = MutSlice erased κ R
  row (given_one R κ x) = MutRef erased κ R

  abbrev pub value : (a : Arg 𝓛) → (row a).Denot
  value (made R x vs o) = x
  value (lent R x vs) = x
  value (given R κ x) = x
  value (given_one R κ x) = x

  abbrev pub words : Arg 𝓛 → List Val
  words (made R x vs o) = vs
  words (lent R x vs) = vs
  words (given R κ x) = mut_slice_vals x
  words (given_one R κ x) = mut_vals x

  abbrev pub rows : List (Arg 𝓛) → List RattleType
  rows [] = []
  rows (a ∷ ps) = row a ∷ rows ps

  abbrev pub values : (ps : List (Arg 𝓛)) → Denots (rows ps)
  values [] = tt
  values (a ∷ ps) = (value a, values ps)

  abbrev pub wordss : (ps : List (Arg 𝓛)) → Valss (rows ps)
  wordss [] = tt
  wordss (a ∷ ps) = (words a, wordss ps)

  -- ---- what must be owned
  abbrev pub had : List (Arg 𝓛) → List (Item 𝓤)
  had [] = []
  had (made R x vs o ∷ ps) = had ps
  had (lent R x vs ∷ ps) = ‵ (R.own_val x vs) ∷ had ps
  had (given R κ x ∷ ps) = ‵ ((MutSlice erased κ R).own_val x (words (given R κ x))) ∷ had ps
  had (given_one R κ x ∷ ps) = ‵ ((MutRef erased κ R).own_val x (mut_vals x)) ∷ had ps

  -- ---- what is left
  abbrev pub Last : Arg 𝓛 → Type 0
  Last (made R x vs o) = Unit {0}
  Last (lent R x vs) = Unit {0}
  Last (given R κ x) = List R.Denot
  Last (given_one R κ x) = R.Denot

  abbrev pub Lasts : List (Arg 𝓛) → Type 0
  Lasts [] = Unit {0}
  Lasts (a ∷ ps) = Last a × Lasts ps

  abbrev pub said : (a : Arg 𝓛) → Last a → Fml
  said (made R x vs o) w = ftrue
  said (lent R x vs) w = ftrue
  said (given R κ x) w = fsep (fsep (finally R x.ghost_name w) (feq ℕ (length w) (length x.now))) (fbor κ (Held (Arr (Holey (mem R)) (length x.now)) x.ref_ptr.0 x.ref_ptr.1 x.ghost_name))
  said (given_one R κ x) w = Gave_one R κ x w

  abbrev pub saids : (ps : List (Arg 𝓛)) → Lasts ps → Fml
  saids [] ws = ftrue
  saids (a ∷ ps) ws = fsep (said a ws.0) (saids ps ws.1)

  abbrev pub ends : (ps : List (Arg 𝓛)) → Lasts ps → List (Item 𝓤)
  ends [] ws = []
  ends (made R x vs o ∷ ps) ws = ends ps ws.1
  ends (lent R x vs ∷ ps) ws = ends ps ws.1
  ends (given R κ x ∷ ps) ws = ‵ (Gave R κ x ws.0) ∷ ends ps ws.1
  ends (given_one R κ x ∷ ps) ws = ‵ (Gave_one R κ x ws.0) ∷ ends ps ws.1

  abbrev pub Longs : (ps : List (Arg 𝓛)) → Lasts ps → Type 0
  Longs [] ws = Unit {0}
  Longs (made R x vs o ∷ ps) ws = Longs ps ws.1
  Longs (lent R x vs ∷ ps) ws = Longs ps ws.1
  Longs (given R κ x ∷ ps) ws = (length ws.0 ≡ length x.now) × Longs ps ws.1
  Longs (given_one R κ x ∷ ps) ws = Longs ps ws.1

module _ {M : Type 1} (𝓤 : Ura M) where
  abbrev pub tokens : (n : ℕ) → Lfts n → Shares n → List (Item 𝓤)
  tokens zero κs qs = []
  tokens (suc n) κs qs = ‵ (flft κs.0 qs.0) ∷ tokens n κs.1 qs.1

module _ {M : Type 1} {𝓤 : Ura M} (𝓛 : Logic 𝓤) where
  open 𝓛 use {H, A}

  abbrev S : List (Item 𝓤) → SProp 𝓤
  S = ⋆ 𝓛

  pub alive : (n : ℕ) (κs : Lfts n) (qs : Shares n) → ent 𝓤 (S (tokens 𝓤 n κs qs)) (toks 𝓛 n κs qs)
  alive zero κs qs = id⊢ 𝓤 (emp 𝓤)
  alive (suc n) κs qs = via 𝓤 _ (pop 𝓛 (‵ (flft κs.0 qs.0)) (tokens 𝓤 n κs.1 qs.1)) (mono_r 𝓤 (A.lft κs.0 qs.0) (alive n κs.1 qs.1))

  pub each_alive : (n : ℕ) (κs : Lfts n) (qs : Shares n) → ent 𝓤 (toks 𝓛 n κs qs) (S (tokens 𝓤 n κs qs))
  each_alive zero κs qs = id⊢ 𝓤 (emp 𝓤)
  each_alive (suc n) κs qs = via 𝓤 _ (mono_r 𝓤 (A.lft κs.0 qs.0) (each_alive n κs.1 qs.1)) (push 𝓛 (‵ (flft κs.0 qs.0)) (tokens 𝓤 n κs.1 qs.1))

  pub passed : (ps : List (Arg 𝓛)) → ent 𝓤 (S (had ps)) (sem 𝓛 (owns (rows ps) (values ps) (wordss ps)))
  passed [] = id⊢ 𝓤 (emp 𝓤)
  passed (made R x vs o ∷ ps) = via 𝓤 _ (emp∗ 𝓤 (S (had ps))) (mono∗ 𝓤 o (passed ps))
  passed (lent R x vs ∷ ps) = via 𝓤 _ (pop 𝓛 (‵ (R.own_val x vs)) (had ps)) (mono_r 𝓤 (sem 𝓛 (R.own_val x vs)) (passed ps))
  passed (given R κ x ∷ ps) = via 𝓤 _ (pop 𝓛 (‵ ((MutSlice erased κ R).own_val x (mut_slice_vals x))) (had ps)) (mono_r 𝓤 (sem 𝓛 ((MutSlice erased κ R).own_val x (mut_slice_vals x))) (passed ps))
  passed (given_one R κ x ∷ ps) = via 𝓤 _ (pop 𝓛 (‵ ((MutRef erased κ R).own_val x (mut_vals x))) (had ps)) (mono_r 𝓤 (sem 𝓛 ((MutRef erased κ R).own_val x (mut_vals x))) (passed ps))

  pub ended : (ps : List (Arg 𝓛)) (ws : Lasts ps) → ent 𝓤 (sem 𝓛 (saids ps ws)) (guard 𝓤 (Longs ps ws) (S (ends ps ws)))
  ended [] ws = qed 𝓛 (‵ ftrue ∷ []) ∵ check ! tt $ by ! (id⊢ 𝓤 (emp 𝓤))
  ended (made R x vs o ∷ ps) ws = qed 𝓛 (‵ (fsep ftrue (saids ps ws.1)) ∷ []) ∵ fsplit ! $ drop ! $ by ! (ended ps ws.1)
  ended (lent R x vs ∷ ps) ws = qed 𝓛 (‵ (fsep ftrue (saids ps ws.1)) ∷ []) ∵ fsplit ! $ drop ! $ by ! (ended ps ws.1)
  ended (given R κ x ∷ ps) ws = qed 𝓛 (‵ (saids (given R κ x ∷ ps) ws) ∷ []) ∵ fsplit ! $ fsplit ! $ fsplit ! $ move ! (1 ∷ []) $ feq_l ! (λ long. fjoin ! $
      move ! (1 ∷ []) $ use1 𝓛 (guarded (Longs ps ws.1) (raw (S (ends ps ws.1)))) (ended ps ws.1) $ learn ! (λ longs. move ! (1 ∷ 0 ∷ []) $ check ! (long, longs) $ by ! (push 𝓛 (‵ (Gave R κ x ws.0)) (ends ps ws.1))))
  ended (given_one R κ x ∷ ps) ws = qed 𝓛 (‵ (saids (given_one R κ x ∷ ps) ws) ∷ []) ∵ fsplit ! $ move ! (1 ∷ []) $ use1 𝓛 (guarded (Longs ps ws.1) (raw (S (ends ps ws.1)))) (ended ps ws.1) $
      learn ! (λ longs. move ! (1 ∷ 0 ∷ []) $ check ! longs $ by ! (push 𝓛 (‵ (Gave_one R κ x ws.0)) (ends ps ws.1)))

  -- the call's own step: the operands are read with what is handed over still in the context
  called : (Δ Γ : List (Item 𝓤)) {K : Type 0} {E : Env 𝓤 H} {C : Calls 𝓤 H} {f : Callee} {xs : List Operand} {vs : List Val} → FmC 𝓤 H 𝓛.laws C → (pre : SProp 𝓤) (post : Val → SProp 𝓤)
      → ent 𝓤 (S Δ) pre → ent 𝓤 pre (C f vs post) → Opds K 𝓛 (Δ ++ Γ) E xs vs → (after : Val → Goal 𝓤 H) → ((v : Val) → Seq K 𝓛 (raw (post v) ∷ Γ) (after v))
      → ent 𝓤 (S (Δ ++ Γ)) (H.⇛ (eval_opds 𝓤 H E xs (λ us. C f us (λ v. aim 𝓤 H (after v)))))
  called Δ Γ {E = E} {C = C} {f = f} {xs = xs} {vs = vs} fm pre post asks met os after k =
      via 𝓤 _ (os.go (λ us. C f us (λ v. aim 𝓤 H (after v)))
      (via 𝓤 (sep 𝓤 (S Δ) (S Γ)) (⊢++ 𝓛 Δ Γ) (via 𝓤 (sep 𝓤 (C f vs post) (S Γ)) (mono_l 𝓤 (S Γ) (via 𝓤 pre asks met))
      (fm f vs post (λ v. aim 𝓤 H (after v)) (S Γ) (λ v. via 𝓤 _ (push 𝓛 (raw (post v)) Γ) (k v).prf)))))
      (𝓛.laws.⇛_intro _)

  -- what the contract of a callee that asks nothing says at the arguments ps: it entails the call
  module _ (R : RattleType) (n : ℕ) (κs : Lfts n) (qs : Shares n) (ps : List (Arg 𝓛)) (Q : R.Denot → Lasts ps → SProp 𝓤) where
    abbrev Owned : SProp 𝓤
    Owned = sep 𝓤 (toks 𝓛 n κs qs) (sem 𝓛 (owns (rows ps) (values ps) (wordss ps)))

    abbrev Ensured : R.Denot → SProp 𝓤
    Ensured r = ex 𝓤 (λ (ws : Lasts ps). sep 𝓤 (sem 𝓛 (saids ps ws)) (Q r ws))

    abbrev After : Val → SProp 𝓤
    After v = H.⇛ (ex 𝓤 (λ (r : R.Denot). sep 𝓤 (sep 𝓤 (toks 𝓛 n κs qs) (sem 𝓛 (R.own_val r (v ∷ [])))) (Ensured r)))

    abbrev pub Says : Calls 𝓤 H → Callee → Type 1
    Says C f = ent 𝓤 (sep 𝓤 Owned (emp 𝓤)) (C f (flat (rows ps) (wordss ps)) After)

    asked : ent 𝓤 (S (tokens 𝓤 n κs qs ++ had ps)) (sep 𝓤 Owned (emp 𝓤))
    asked = via 𝓤 _ (⊢++ 𝓛 (tokens 𝓤 n κs qs) (had ps)) (via 𝓤 _ (mono∗ 𝓤 (alive n κs qs) (passed ps)) (via 𝓤 _ (emp∗ 𝓤 Owned) (comm∗ 𝓤 (emp 𝓤) Owned)))

  module _ (R : RattleType) (P : Rel R) (shown : Shows 𝓛 R P) (n : ℕ) (κs : Lfts n) (qs : Shares n) (ps : List (Arg 𝓛)) (Q : R.Denot → Lasts ps → SProp 𝓤) (F : R.Denot → Lasts ps → Type 0) (hears : (r : R.Denot) (ws : Lasts ps) → ent 𝓤 (Q r ws) (fact 𝓤 (F r ws))) where
    -- what is had once it has returned v
    answered : (v : Val) {K : Type 0} (t : K) {Γ : List (Item 𝓤)} {G : Goal 𝓤 H} → Soaks G → ((r : R.Denot) (ws : Lasts ps) → P r (v ∷ []) → F r ws → Longs ps ws → Seq K 𝓛 ((‵ (R.own_val r (v ∷ [])) ∷ (tokens 𝓤 n κs qs ++ ends ps ws)) ++ Γ) G) → Seq K 𝓛 (raw (After R n κs qs ps Q v) ∷ Γ) G
    answered v t {Γ} z k =
        use1 𝓛 (later (some (λ (r : R.Denot). (raw (toks 𝓛 n κs qs) ⊛ ‵ (R.own_val r (v ∷ []))) ⊛ raw (Ensured R n κs qs ps Q r)))) (id⊢ 𝓤 _) $ await t z $ pick t (λ r.
        split t $ move t (1 ∷ []) $ use1 𝓛 (some (λ (ws : Lasts ps). ‵ (saids ps ws) ⊛ raw (Q r ws))) (id⊢ 𝓤 _) $ pick t (λ ws.
        split t $ move t (1 ∷ []) $ use1 𝓛 (raw (fact 𝓤 (F r ws))) (hears r ws) $ heard t (F r ws) (λ f. use1 𝓛 (guarded (Longs ps ws) (raw (S (ends ps ws)))) (ended ps ws) $ learn t (λ longs.
        move t (1 ∷ []) $ split t $ move t (1 ∷ []) $ peeks t R P shown r (v ∷ []) (λ is.
        cut {𝓛 = 𝓛} (‵ (R.own_val r (v ∷ [])) ∷ raw (toks 𝓛 n κs qs) ∷ raw (S (ends ps ws)) ∷ []) (‵ (R.own_val r (v ∷ [])) ∷ (tokens 𝓤 n κs qs ++ ends ps ws)) Γ (joined r ws) $ k r ws is f longs)))))
      where
        joined : (r : R.Denot) (ws : Lasts ps) → ent 𝓤 (S (‵ (R.own_val r (v ∷ [])) ∷ raw (toks 𝓛 n κs qs) ∷ raw (S (ends ps ws)) ∷ [])) (S (‵ (R.own_val r (v ∷ [])) ∷ (tokens 𝓤 n κs qs ++ ends ps ws)))
        joined r ws = via 𝓤 _ (mono_r 𝓤 (sem 𝓛 (R.own_val r (v ∷ []))) (via 𝓤 _ (mono_l 𝓤 (S (ends ps ws)) (each_alive n κs qs)) (++⊢ 𝓛 (tokens 𝓤 n κs qs) (ends ps ws)))) (push 𝓛 (‵ (R.own_val r (v ∷ []))) (tokens 𝓤 n κs qs ++ ends ps ws))

    pub calls_by : (Γ : List (Item 𝓤)) {K : Type 0} {E : Env 𝓤 H} {C : Calls 𝓤 H} {Λ : Loops 𝓤 H} {q : Post 𝓤 H} {f : Callee} {xs : List Operand} {d : Place} {rest : Body} → K → FmC 𝓤 H 𝓛.laws C
        → Says R n κs qs ps Q C f → Opds K 𝓛 ((tokens 𝓤 n κs qs ++ had ps) ++ Γ) E xs (flat (rows ps) (wordss ps))
        → ((v : Val) (r : R.Denot) (ws : Lasts ps) → P r (v ∷ []) → F r ws → Longs ps ws → Seq K 𝓛 ((‵ (R.own_val r (v ∷ [])) ∷ (tokens 𝓤 n κs qs ++ ends ps ws)) ++ Γ) (lands C Λ E d v rest q))
        → Seq K 𝓛 ((tokens 𝓤 n κs qs ++ had ps) ++ Γ) (runs C Λ E (seq (call f xs d) rest) q)
    calls_by Γ {E = E} {C = C} {Λ = Λ} {q = q} {d = d} {rest = rest} t fm met os k =
        record { prf = called (tokens 𝓤 n κs qs ++ had ps) Γ fm (sep 𝓤 (Owned R n κs qs ps Q) (emp 𝓤)) (After R n κs qs ps Q) (asked R n κs qs ps Q) met os (λ v. lands C Λ E d v rest q) (λ v. answered v t tt (k v)) }

  module _ (R : RattleType) (P : Rel R) (shown : Shows 𝓛 R P) (n : ℕ) (κs : Lfts n) (qs : Shares n) (ps : List (Arg 𝓛)) (F : R.Denot → Lasts ps → Type 0) where
    pub calls : (Γ : List (Item 𝓤)) {K : Type 0} {E : Env 𝓤 H} {C : Calls 𝓤 H} {Λ : Loops 𝓤 H} {q : Post 𝓤 H} {f : Callee} {xs : List Operand} {d : Place} {rest : Body} → K → FmC 𝓤 H 𝓛.laws C
        → Says R n κs qs ps (λ r ws. fact 𝓤 (F r ws)) C f
        → Opds K 𝓛 ((tokens 𝓤 n κs qs ++ had ps) ++ Γ) E xs (flat (rows ps) (wordss ps))
        → ((v : Val) (r : R.Denot) (ws : Lasts ps) → P r (v ∷ []) → F r ws → Longs ps ws → Seq K 𝓛 ((‵ (R.own_val r (v ∷ [])) ∷ (tokens 𝓤 n κs qs ++ ends ps ws)) ++ Γ) (lands C Λ E d v rest q))
        → Seq K 𝓛 ((tokens 𝓤 n κs qs ++ had ps) ++ Γ) (runs C Λ E (seq (call f xs d) rest) q)
    calls Γ t = calls_by R P shown n κs qs ps (λ r ws. fact 𝓤 (F r ws)) F (λ r ws. id⊢ 𝓤 _) Γ t

-- ---- the usual arguments
module _ {M : Type 1} {𝓤 : Ura M} {𝓛 : Logic 𝓤} where
  abbrev pub num : (w : Width) (n : ℕ) → n < 2 ^ bits w → Arg 𝓛
  num w n h = made (UInt w) n (vint w n ∷ []) (uint_Makes 𝓛 w n (vint w n ∷ []) (refl, h))

module _ {M : Type 1} {𝓤 : Ura M} {𝓛 : Logic 𝓤} where
  abbrev pub slice : (R : RattleType) (κ : Lft) → Bor (List R.Denot) → Arg 𝓛
  slice R κ x = lent (ShrSlice erased κ R) x (shr_slice_vals x)

  abbrev pub of_struct : {R : RattleType} {τ : Ty} {val : R.Denot → Val} → (s : Struct R τ val) (x : R.Denot) (v : Val) → s.has x (v ∷ []) → Arg 𝓛
  of_struct {R = R} s x v is = made R x (v ∷ []) (s.makes 𝓛 x (v ∷ []) is)

-- two clauses are one fact
pub both : {M : Type 1} (𝓤 : Ura M) (φ ψ : Type 0) → ent 𝓤 (sep 𝓤 (fact 𝓤 φ) (fact 𝓤 ψ)) (fact 𝓤 (φ × ψ))
both 𝓤 φ ψ = fact_use 𝓤 φ (fst∗ 𝓤 (fact 𝓤 φ) (fact 𝓤 ψ)) (λ x. fact_use 𝓤 ψ (snd∗ 𝓤 (fact 𝓤 φ) (fact 𝓤 ψ)) (λ y. fact_i 𝓤 (φ × ψ) _ (x, y)))
