-- A function in a walk: its parameters, its entry and its exit. It holds of a contract that is one fact, of a function that asks nothing, and of parameters that are plain data, `&[T]`, and `&mut [T]` that the body gives away.
--     Param n          a parameter of a signature with n lifetimes.        slots, stays, goes, spells, tells     what the logic's `walked` and `walk_Meets` ask of a list of them
--     begins           WpFn from the body, at the arguments ps: the context is [tokens; had ps; _0; _1; …; the right to free each]
--     finishes         the postcondition, at a result and last lists: the context is [tokens; kept ps ws]
-- Assumes `Logic`.
use Rattle.std.specs.Prelude.{◌≡◌, ℕ, zero, List, [], ◌∷◌, ◌++◌, length}
use seplogic.Ra.Ura.{Ura}
use mir.Syntax.{Ty, Local, local, Home, Fn, erased, named}
use mir.Val.{Val}
use base.Logic.{SProp, ent, sep, ex, emp, id⊢, via, mono∗, mono_r, emp∗, snd∗}
use base.Fml.{Fml, ftrue, fsep, froom}
use prog.Wp.{Calls, Loops, WpFn}
use types.Logic.{Logic, sem}
use contract.Lifetimes.{Lfts, Shares, Within, lft_at, toks}
use contract.Monad.{fact}
use types.Kit.{Item, ‵, raw, ⋆, push, pop, ++⊢, ⊢++, runs, at_ret, Sq, ◌$◌, ◌∵◌, !, qed, updating, now as at_once, show, frame, done}
use denote.RattleType.{RattleType, flat, owns}
use denote.Exit.{Last, left, yes}
use denote.Laws.{Rel, Makes, Is, Tells, Spells, Tellss, Ises}
use denote.Signature.{Slot, plain, shr_slice_of, mut_slice_of, types_at}
use denote.Ref.{MutRef, mut_vals}
use denote.Slice.{MutSlice, shr_slice_vals, mut_slice_vals, shr_slice_Tells, mut_slice_Tells}
use denote.Steps.{owned}
use denote.Triple.End.{all}
use denote.Triple.Walked.{says, Stay, Stays, Goes, AllGo, stay_none, stay_none_slice, gave_slice, Goes-none, Goes-none_slice, Goes-gave_slice}
use Rattle.walks.specs.Locals.{Places, Typed, tys, env, filled, deaths, enters}
use Rattle.walks.specs.Call.{Arg, made, lent, given, given_one, Gave, Gave_one, rows, values, wordss, had, Lasts, Longs, tokens, alive, each_alive}

-- ---- the parameters
pub data Param (n : ℕ) : Type 2 where
  value : (R : RattleType) (vals : R.Denot → List Val) → Tells R (Is R) vals → ((κs : Lfts n) (x : R.Denot) (f : Last (R.exit yes) x) → left (R.exit yes) x f ≡ ftrue) → Param n
  shared : (j : ℕ) → Within n j → RattleType → Param n
  exclusive : (j : ℕ) → Within n j → RattleType → Param n

module _ {n : ℕ} where
  abbrev pub slot : Param n → Slot n
  slot (value R vals tells silent) = plain (λ _. R)
  slot (shared j ok R) = shr_slice_of (j ∷ []) ok (plain (λ _. R))
  slot (exclusive j ok R) = mut_slice_of (j ∷ []) ok (plain (λ _. R))

  abbrev pub stay : (p : Param n) → Stay (slot p) yes
  stay (value R vals tells silent) = stay_none (λ _. R) yes
  stay (shared j ok R) = stay_none_slice (j ∷ []) ok (plain (λ _. R)) yes
  stay (exclusive j ok R) = gave_slice (j ∷ []) ok (plain (λ _. R))

  abbrev pub slots : List (Param n) → List (Slot n)
  slots [] = []
  slots (p ∷ ps) = slot p ∷ slots ps

  abbrev pub stays : (ps : List (Param n)) → Stays (slots ps) (all yes (slots ps))
  stays [] = tt
  stays (p ∷ ps) = (stay p, stays ps)

  abbrev pub spell : (p : Param n) (κs : Lfts n) → ((slot p).row κs).Denot → List Val
  spell (value R vals tells silent) κs = vals
  spell (shared j ok R) κs = shr_slice_vals
  spell (exclusive j ok R) κs = mut_slice_vals

  abbrev pub spells : (ps : List (Param n)) (κs : Lfts n) → Spells (types_at (slots ps) κs)
  spells [] κs = tt
  spells (p ∷ ps) κs = (spell p κs, spells ps κs)

  pub tell : (p : Param n) (κs : Lfts n) → Tells ((slot p).row κs) (Is ((slot p).row κs)) (spell p κs)
  tell (value R vals tells silent) κs = tells
  tell (shared j ok R) κs = shr_slice_Tells (named j) (lft_at n j ok κs) R
  tell (exclusive j ok R) κs = mut_slice_Tells (named j) (lft_at n j ok κs) R

  abbrev pub tells : (ps : List (Param n)) (κs : Lfts n) → Tellss (types_at (slots ps) κs) (Ises (types_at (slots ps) κs)) (spells ps κs)
  tells [] κs = tt
  tells (p ∷ ps) κs = (tell p κs, tells ps κs)

  module _ {M : Type 1} {𝓤 : Ura M} (𝓛 : Logic 𝓤) where
    pub go : (p : Param n) → Goes 𝓛 n (slot p) yes (stay p)
    go (value R vals tells silent) = Goes-none 𝓛 n (λ _. R) yes silent
    go (shared j ok R) = Goes-none_slice 𝓛 n (j ∷ []) ok (plain (λ _. R)) yes
    go (exclusive j ok R) = Goes-gave_slice 𝓛 n j ok (plain (λ _. R))

    abbrev pub goes : (ps : List (Param n)) → AllGo 𝓛 n (slots ps) (all yes (slots ps)) (stays ps)
    goes [] = tt
    goes (p ∷ ps) = (go p, goes ps)

-- ---- at exit
module _ {M : Type 1} {𝓤 : Ura M} {𝓛 : Logic 𝓤} where
  abbrev pub kept : (ps : List (Arg 𝓛)) → Lasts ps → List (Item 𝓤)
  kept [] ws = []
  kept (made R x vs o ∷ ps) ws = kept ps ws.1
  kept (lent R x vs ∷ ps) ws = ‵ (R.own_val x vs) ∷ kept ps ws.1
  kept (given R κ x ∷ ps) ws = ‵ (Gave R κ x ws.0) ∷ kept ps ws.1
  kept (given_one R κ x ∷ ps) ws = ‵ (Gave_one R κ x ws.0) ∷ kept ps ws.1

  abbrev pub has : (ps : List (Arg 𝓛)) → Lasts ps → Fml
  has [] ws = ftrue
  has (made R x vs o ∷ ps) ws = fsep (R.own_val x vs) (has ps ws.1)
  has (lent R x vs ∷ ps) ws = fsep (R.own_val x vs) (has ps ws.1)
  has (given R κ x ∷ ps) ws = fsep (Gave R κ x ws.0) (has ps ws.1)
  has (given_one R κ x ∷ ps) ws = fsep (Gave_one R κ x ws.0) (has ps ws.1)

  abbrev pub Fits : (ps : List (Arg 𝓛)) → Lasts ps → Type 0
  Fits [] ws = Unit {0}
  Fits (made R x vs o ∷ ps) ws = Unit {0} × Fits ps ws.1
  Fits (lent R x vs ∷ ps) ws = Unit {0} × Fits ps ws.1
  Fits (given R κ x ∷ ps) ws = (length ws.0 ≡ length x.now) × Fits ps ws.1
  Fits (given_one R κ x ∷ ps) ws = Unit {0} × Fits ps ws.1

  fits : (ps : List (Arg 𝓛)) (ws : Lasts ps) → Longs ps ws → Fits ps ws
  fits [] ws ls = tt
  fits (made R x vs o ∷ ps) ws ls = (tt, fits ps ws.1 ls)
  fits (lent R x vs ∷ ps) ws ls = (tt, fits ps ws.1 ls)
  fits (given R κ x ∷ ps) ws ls = (ls.0, fits ps ws.1 ls.1)
  fits (given_one R κ x ∷ ps) ws ls = (tt, fits ps ws.1 ls)

module _ {M : Type 1} {𝓤 : Ura M} (𝓛 : Logic 𝓤) where
  open 𝓛 use {H}

  abbrev S : List (Item 𝓤) → SProp 𝓤
  S = ⋆ 𝓛

  all_kept : (ps : List (Arg 𝓛)) (ws : Lasts ps) → ent 𝓤 (S (kept ps ws)) (sem 𝓛 (has ps ws))
  all_kept [] ws = id⊢ 𝓤 (emp 𝓤)
  all_kept (made R x vs o ∷ ps) ws = via 𝓤 _ (emp∗ 𝓤 (S (kept ps ws.1))) (mono∗ 𝓤 o (all_kept ps ws.1))
  all_kept (lent R x vs ∷ ps) ws = via 𝓤 _ (pop 𝓛 (‵ (R.own_val x vs)) (kept ps ws.1)) (mono_r 𝓤 (sem 𝓛 (R.own_val x vs)) (all_kept ps ws.1))
  all_kept (given R κ x ∷ ps) ws = via 𝓤 _ (pop 𝓛 (‵ (Gave R κ x ws.0)) (kept ps ws.1)) (mono_r 𝓤 (sem 𝓛 (Gave R κ x ws.0)) (all_kept ps ws.1))
  all_kept (given_one R κ x ∷ ps) ws = via 𝓤 _ (pop 𝓛 (‵ (Gave_one R κ x ws.0)) (kept ps ws.1)) (mono_r 𝓤 (sem 𝓛 (Gave_one R κ x ws.0)) (all_kept ps ws.1))

  taken : (ps : List (Arg 𝓛)) → ent 𝓤 (sem 𝓛 (owns (rows ps) (values ps) (wordss ps))) (S (had ps))
  taken [] = id⊢ 𝓤 (emp 𝓤)
  taken (made R x vs o ∷ ps) = via 𝓤 _ (snd∗ 𝓤 (sem 𝓛 (R.own_val x vs)) (sem 𝓛 (owns (rows ps) (values ps) (wordss ps)))) (taken ps)
  taken (lent R x vs ∷ ps) = via 𝓤 _ (mono_r 𝓤 (sem 𝓛 (R.own_val x vs)) (taken ps)) (push 𝓛 (‵ (R.own_val x vs)) (had ps))
  taken (given R κ x ∷ ps) = via 𝓤 _ (mono_r 𝓤 (sem 𝓛 ((MutSlice erased κ R).own_val x (mut_slice_vals x))) (taken ps)) (push 𝓛 (‵ ((MutSlice erased κ R).own_val x (mut_slice_vals x))) (had ps))
  taken (given_one R κ x ∷ ps) = via 𝓤 _ (mono_r 𝓤 (sem 𝓛 ((MutRef erased κ R).own_val x (mut_vals x))) (taken ps)) (push 𝓛 (‵ ((MutRef erased κ R).own_val x (mut_vals x))) (had ps))

  module _ (n : ℕ) (κs : Lfts n) (qs : Shares n) (ps : List (Arg 𝓛)) where
    -- the context in which the body begins
    abbrev pub entry : (τs : List Ty) → Places τs → List (Item 𝓤)
    entry [] bs = []
    entry (τ₀ ∷ τs) bs = (tokens 𝓤 n κs qs ++ had ps) ++ (‵ (froom τ₀ bs.0 zero) ∷ (filled 𝓤 (flat (rows ps) (wordss ps)) (env τs bs.1) ++ deaths 𝓤 (env (τ₀ ∷ τs) bs)))

    pub begins : (C : Calls 𝓤 H) (Λ : Loops 𝓤 H) (f : Fn) (τ₀ : Ty) (h : Home) (ls : List Local) → f.locals ≡ local τ₀ h ∷ ls → Typed (tys ls) (flat (rows ps) (wordss ps)) → (Kf : Val → SProp 𝓤)
        → ((bs : Places (τ₀ ∷ tys ls)) → Sq 𝓛 (entry (τ₀ ∷ tys ls) bs) (runs C Λ (env (τ₀ ∷ tys ls) bs) f.body (at_ret (env (τ₀ ∷ tys ls) bs) Kf)))
        → ent 𝓤 (sep 𝓤 (toks 𝓛 n κs qs) (sem 𝓛 (owns (rows ps) (values ps) (wordss ps)))) (WpFn 𝓤 H C Λ f (flat (rows ps) (wordss ps)) Kf)
    begins C Λ f τ₀ h ls e wt Kf k = via 𝓤 _ (mono∗ 𝓤 (each_alive 𝓛 n κs qs) (taken ps)) (via 𝓤 _ (++⊢ 𝓛 (tokens 𝓤 n κs qs) (had ps)) (enters 𝓛 C Λ f τ₀ h ls e (flat (rows ps) (wordss ps)) wt Kf (tokens 𝓤 n κs qs ++ had ps) k))

    -- what is had when the function ends
    abbrev pub AtEnd : Lasts ps → SProp 𝓤
    AtEnd ws = S (tokens 𝓤 n κs qs ++ kept ps ws)

    module _ (R : RattleType) (P : Rel R) (makes : Makes 𝓛 R P) (F : R.Denot → Lasts ps → Type 0) (v : Val) where
      abbrev Ending : (r : R.Denot) → Lasts ps → SProp 𝓤
      Ending r ws = sep 𝓤 (sep 𝓤 (sep 𝓤 (toks 𝓛 n κs qs) (sep 𝓤 (sem 𝓛 (has ps ws)) (sem 𝓛 (R.own_val r (v ∷ []))))) (fact 𝓤 (F r ws))) (fact 𝓤 (Fits ps ws))

      pub finishes : (r : R.Denot) (ws : Lasts ps) → P r (v ∷ []) → F r ws → Longs ps ws → ent 𝓤 (AtEnd ws) (H.⇛ (ex 𝓤 (λ (s : R.Denot). ex 𝓤 (Ending s))))
      finishes r ws is f ls = via 𝓤 _ (⊢++ 𝓛 (tokens 𝓤 n κs qs) (kept ps ws)) (via 𝓤 _ (mono∗ 𝓤 (alive 𝓛 n κs qs) (all_kept ps ws))
          (qed 𝓛 (raw (toks 𝓛 n κs qs) ∷ ‵ (has ps ws) ∷ []) ∵ updating ! $ at_once ! $ show ! (λ (s : R.Denot). ex 𝓤 (Ending s)) r $ show ! (Ending r) ws $ says ! (fits ps ws ls) $ says ! f $
          frame ! $ frame ! $ owned ! R P makes r (v ∷ []) is $ done !))
