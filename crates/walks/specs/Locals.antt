-- A function's locals in a walk: made at its entry, freed at its exit. After the entry the context is [what the caller hands in; _0; _1; …; the right to free each]: with k things in front, local i stands at k + i.
--     Places τs, env       a block for each type, and the environment of these
--     filled vs E          the cells of E, the first of which hold vs and the others nothing.        deaths E     the right to free each
--     enters       WpFn of a function whose locals are `local τ₀ ∷ ls`, from its body in that context, at any blocks
--     leaves       the function returns, and k things stand in front of its locals: those are left
-- Assumes `Logic`.
use Rattle.std.specs.Prelude.{◌≡◌, refl, ℕ, zero, suc, List, [], ◌∷◌, ◌++◌, T}
use Rattle.std.proofs.Common.{subst, sym}
use Rattle.std.proofs.Math.Option.{Option, none, some}
use seplogic.Ra.Ura.{Ura}
use base.Fraction.{full_share}
use mir.Syntax.{Ty, Local, local, Home, Fn}
use mir.Val.{Val, has_ty, WT}
use base.Logic.{SProp, ent, sep, id⊢, via, comm∗, mono_r, assoc∗, assoc'}
use base.Fml.{Fml, ftrue, ffalse, feq, flt, fsep, fand, for, fwand, fex, fall, fupd, fat, froom, fleft, fdies, flft, fdead, fobs, fauth, fres, fown, fbor, fobor, flent, fshr_bor, fhide, finv, fnamed, ftok, fkid, fme, fsent}
use prog.Wp.{Env, Calls, Loops, WpFn}
use types.Logic.{Logic}
use types.Kit.{Item, ‵, raw, ◌⊛◌, some as one, given, later, ⋆, mean, push, pop, ++⊢, ⊢++, Goal, runs, at_ret, allocs, passes, frees, params', Sq, Step, step, ◌$◌, ◌∵◌, !, qed, by, move, split, join, use1}
use types.Run.{enter, alloc1, alloc0, params1, pass1, pass0, init, free1, free0}

abbrev pub Places : List Ty → Type 0
Places [] = Unit {0}
Places (τ ∷ τs) = ℕ × Places τs

abbrev pub tys : List Local → List Ty
tys [] = []
tys (local τ h ∷ ls) = τ ∷ tys ls

-- the values are of the types of the first locals
abbrev pub Typed : List Ty → List Val → Type 0
Typed τs [] = Unit {0}
Typed [] (v ∷ vs) = ⊥
Typed (τ ∷ τs) (v ∷ vs) = (T (has_ty τ v) × WT v) × Typed τs vs

abbrev pub env : (τs : List Ty) → Places τs → List (Ty × ℕ)
env [] bs = []
env (τ ∷ τs) bs = (τ, bs.0) ∷ env τs bs.1

module _ {M : Type 1} (𝓤 : Ura M) where
  abbrev pub filled : List Val → List (Ty × ℕ) → List (Item 𝓤)
  filled vs [] = []
  filled [] (e ∷ E) = ‵ (froom e.0 e.1 zero) ∷ filled [] E
  filled (v ∷ vs) (e ∷ E) = ‵ (fat full_share e.0 e.1 zero v) ∷ filled vs E

  -- the cells of E, each of which holds a value or nothing
  abbrev pub cells : List (Option Val) → List (Ty × ℕ) → List (Item 𝓤)
  cells vs [] = []
  cells [] (e ∷ E) = ‵ (froom e.0 e.1 zero) ∷ cells [] E
  cells (none ∷ vs) (e ∷ E) = ‵ (froom e.0 e.1 zero) ∷ cells vs E
  cells (some v ∷ vs) (e ∷ E) = ‵ (fat full_share e.0 e.1 zero v) ∷ cells vs E

  abbrev pub deaths : List (Ty × ℕ) → List (Item 𝓤)
  deaths [] = []
  deaths (e ∷ E) = ‵ (fdies e.0 e.1) ∷ deaths E

-- the first k entries, and the others
abbrev pub front : {X : Type 2} → ℕ → List X → List X
front zero Γ = []
front (suc k) [] = []
front (suc k) (i ∷ Γ) = i ∷ front k Γ

abbrev pub behind : {X : Type 2} → ℕ → List X → List X
behind zero Γ = Γ
behind (suc k) [] = []
behind (suc k) (i ∷ Γ) = behind k Γ

-- ---- lists of entries
module _ {M : Type 1} {𝓤 : Ura M} (𝓛 : Logic 𝓤) where
  open 𝓛 use {H}

  abbrev S : List (Item 𝓤) → SProp 𝓤
  S = ⋆ 𝓛

  turns : (X Y Z : List (Item 𝓤)) → ent 𝓤 (S (X ++ (Y ++ Z))) (S (Z ++ (X ++ Y)))
  turns X Y Z = via 𝓤 (sep 𝓤 (S X) (S (Y ++ Z))) (⊢++ 𝓛 X (Y ++ Z)) (via 𝓤 (sep 𝓤 (S X) (sep 𝓤 (S Y) (S Z))) (mono_r 𝓤 (S X) (⊢++ 𝓛 Y Z))
      (via 𝓤 (sep 𝓤 (sep 𝓤 (S X) (S Y)) (S Z)) (assoc' 𝓤 (S X) (S Y) (S Z)) (via 𝓤 (sep 𝓤 (S Z) (sep 𝓤 (S X) (S Y))) (comm∗ 𝓤 (sep 𝓤 (S X) (S Y)) (S Z))
      (via 𝓤 (sep 𝓤 (S Z) (S (X ++ Y))) (mono_r 𝓤 (S Z) (++⊢ 𝓛 X Y)) (++⊢ 𝓛 Z (X ++ Y))))))

  turns_back : (X Y Z : List (Item 𝓤)) → ent 𝓤 (S (Z ++ (X ++ Y))) (S (X ++ (Y ++ Z)))
  turns_back X Y Z = via 𝓤 (sep 𝓤 (S Z) (S (X ++ Y))) (⊢++ 𝓛 Z (X ++ Y)) (via 𝓤 (sep 𝓤 (S Z) (sep 𝓤 (S X) (S Y))) (mono_r 𝓤 (S Z) (⊢++ 𝓛 X Y))
      (via 𝓤 (sep 𝓤 (sep 𝓤 (S X) (S Y)) (S Z)) (comm∗ 𝓤 (S Z) (sep 𝓤 (S X) (S Y))) (via 𝓤 (sep 𝓤 (S X) (sep 𝓤 (S Y) (S Z))) (assoc∗ 𝓤 (S X) (S Y) (S Z))
      (via 𝓤 (sep 𝓤 (S X) (S (Y ++ Z))) (mono_r 𝓤 (S X) (++⊢ 𝓛 Y Z)) (++⊢ 𝓛 X (Y ++ Z))))))

  -- two lists in front of Γ as two entries, and back
  apart : (X Y Γ : List (Item 𝓤)) → ent 𝓤 (S (X ++ (Y ++ Γ))) (S (raw (S X) ∷ raw (S Y) ∷ Γ))
  apart X Y Γ = via 𝓤 (sep 𝓤 (S X) (S (Y ++ Γ))) (⊢++ 𝓛 X (Y ++ Γ)) (mono_r 𝓤 (S X) (via 𝓤 (sep 𝓤 (S Y) (S Γ)) (⊢++ 𝓛 Y Γ) (push 𝓛 (raw (S Y)) Γ)))

  whole : (X Y Γ : List (Item 𝓤)) → ent 𝓤 (S (raw (S X) ∷ raw (S Y) ∷ Γ)) (S (X ++ (Y ++ Γ)))
  whole X Y Γ = via 𝓤 (sep 𝓤 (S X) (S (Y ++ Γ))) (mono_r 𝓤 (S X) (via 𝓤 (sep 𝓤 (S Y) (S Γ)) (pop 𝓛 (raw (S Y)) Γ) (++⊢ 𝓛 Y Γ))) (++⊢ 𝓛 X (Y ++ Γ))

  -- two entries go to the heads of the lists, and come from there
  shares_out : (i j : Item 𝓤) (X Y Γ : List (Item 𝓤)) → ent 𝓤 (S (X ++ (Y ++ (i ∷ j ∷ Γ)))) (S ((i ∷ X) ++ ((j ∷ Y) ++ Γ)))
  shares_out i j X Y Γ = via 𝓤 (S (raw (S X) ∷ raw (S Y) ∷ i ∷ j ∷ Γ)) (apart X Y (i ∷ j ∷ Γ))
      (via 𝓤 (S (raw (S (i ∷ X)) ∷ raw (S (j ∷ Y)) ∷ Γ))
      (qed 𝓛 (raw (S X) ∷ raw (S Y) ∷ i ∷ j ∷ Γ) ∵ move ! (2 ∷ 0 ∷ []) $ join ! $ use1 𝓛 (raw (S (i ∷ X))) (push 𝓛 i X) $ move ! (2 ∷ 1 ∷ []) $ join ! $ use1 𝓛 (raw (S (j ∷ Y))) (push 𝓛 j Y) $ move ! (1 ∷ 0 ∷ []) $ by ! (id⊢ 𝓤 _))
      (whole (i ∷ X) (j ∷ Y) Γ))

  takes_back : (i j : Item 𝓤) (X Y Γ : List (Item 𝓤)) → ent 𝓤 (S ((i ∷ X) ++ ((j ∷ Y) ++ Γ))) (sep 𝓤 (S (i ∷ j ∷ [])) (S (X ++ (Y ++ Γ))))
  takes_back i j X Y Γ = via 𝓤 (S (raw (S (i ∷ X)) ∷ raw (S (j ∷ Y)) ∷ Γ)) (apart (i ∷ X) (j ∷ Y) Γ)
      (via 𝓤 (sep 𝓤 (S (i ∷ j ∷ [])) (S (raw (S X) ∷ raw (S Y) ∷ Γ)))
      (qed 𝓛 (raw (S (i ∷ X)) ∷ raw (S (j ∷ Y)) ∷ Γ) ∵ use1 𝓛 (i ⊛ raw (S X)) (pop 𝓛 i X) $ split ! $ move ! (2 ∷ []) $ use1 𝓛 (j ⊛ raw (S Y)) (pop 𝓛 j Y) $ split ! $ move ! (2 ∷ 0 ∷ []) $ join ! $ move ! (0 ∷ 2 ∷ 1 ∷ []) $ by ! (id⊢ 𝓤 _))
      (mono_r 𝓤 (S (i ∷ j ∷ [])) (whole X Y Γ)))

  -- ---- at entry
  made : (ls : List Local) {Kt : Env 𝓤 H → Goal 𝓤 H} (Γ : List (Item 𝓤)) → ((bs : Places (tys ls)) → Sq 𝓛 (filled 𝓤 [] (env (tys ls) bs) ++ (deaths 𝓤 (env (tys ls) bs) ++ Γ)) (Kt (env (tys ls) bs))) → Sq 𝓛 Γ (allocs ls Kt)
  made [] Γ k = alloc0 ! $ k tt
  made (local τ h ∷ ls) Γ k = alloc1 ! (λ b. made ls (‵ (froom τ b zero) ∷ ‵ (fdies τ b) ∷ Γ) (λ bs.
      by ! (via 𝓤 _ (shares_out (‵ (froom τ b zero)) (‵ (fdies τ b)) (filled 𝓤 [] (env (tys ls) bs)) (deaths 𝓤 (env (tys ls) bs)) Γ) (k (b, bs)).prf)))

  stored : (i : Item 𝓤) (τs : List Ty) (bs : Places τs) (vs : List Val) {g : Goal 𝓤 H} (Γ : List (Item 𝓤)) → Typed τs vs
      → Sq 𝓛 (i ∷ (filled 𝓤 vs (env τs bs) ++ Γ)) g → Sq 𝓛 (i ∷ (filled 𝓤 [] (env τs bs) ++ Γ)) (passes (env τs bs) vs g)
  stored i [] bs [] Γ wt s = pass0 ! $ s
  stored i [] bs (v ∷ vs) Γ wt s = absurd wt
  stored i (τ ∷ τs) bs [] Γ wt s = pass0 ! $ s
  stored i (τ ∷ τs) bs (v ∷ vs) Γ wt s = pass1 ! (init ! 1 refl wt.0) $ join ! $ stored (i ⊛ ‵ (fat full_share τ bs.0 zero v)) τs bs.1 vs Γ wt.1 (split ! $ s)

  pub enters : (C : Calls 𝓤 H) (Λ : Loops 𝓤 H) (f : Fn) (τ₀ : Ty) (h : Home) (ls : List Local) → f.locals ≡ local τ₀ h ∷ ls → (vs : List Val) → Typed (tys ls) vs → (Kf : Val → SProp 𝓤) (Γ : List (Item 𝓤))
      → ((bs : Places (τ₀ ∷ tys ls)) → Sq 𝓛 (Γ ++ (‵ (froom τ₀ bs.0 zero) ∷ (filled 𝓤 vs (env (tys ls) bs.1) ++ deaths 𝓤 (env (τ₀ ∷ tys ls) bs)))) (runs C Λ (env (τ₀ ∷ tys ls) bs) f.body (at_ret (env (τ₀ ∷ tys ls) bs) Kf)))
      → ent 𝓤 (S Γ) (WpFn 𝓤 H C Λ f vs Kf)
  enters C Λ f τ₀ h ls e vs wt Kf Γ k = qed 𝓛 Γ ∵ enter ! C Λ f vs Kf $
      subst (λ (all : List Local). Sq 𝓛 Γ (allocs all (λ E. params' E vs (runs C Λ E f.body (at_ret E Kf))))) (sym e)
      (made (local τ₀ h ∷ ls) Γ (λ bs. params1 ! $ stored (‵ (froom τ₀ bs.0 zero)) (tys ls) bs.1 vs (deaths 𝓤 (env (τ₀ ∷ tys ls) bs) ++ Γ) wt
      (by ! (via 𝓤 _ (turns (‵ (froom τ₀ bs.0 zero) ∷ filled 𝓤 vs (env (tys ls) bs.1)) (deaths 𝓤 (env (τ₀ ∷ tys ls) bs)) Γ) (k bs).prf))))

  -- ---- at exit
  -- an entry that gives room is freed
  frees_one : (g : Goal 𝓤 H) (i : Item 𝓤) (x : Ty × ℕ) (E : Env 𝓤 H) (X Γ : List (Item 𝓤)) → ent 𝓤 (mean 𝓛 i) (H.room x.0 x.1 zero) → Sq 𝓛 (X ++ (deaths 𝓤 E ++ Γ)) (frees E g) → Sq 𝓛 ((i ∷ X) ++ (deaths 𝓤 (x ∷ E) ++ Γ)) (frees (x ∷ E) g)
  frees_one g i x E X Γ room s =
      let rest : Sq 𝓛 ((i ⊛ ‵ (fdies x.0 x.1)) ∷ raw (S (X ++ (deaths 𝓤 E ++ Γ))) ∷ []) (frees (x ∷ E) g) = split ! $ use1 𝓛 (‵ (froom x.0 x.1 zero)) room $ free1 ! $ by ! s.prf in
      by ! (via 𝓤 _ (takes_back i (‵ (fdies x.0 x.1)) X (deaths 𝓤 E) Γ) rest.prf)

  freed : (g : Goal 𝓤 H) (E : Env 𝓤 H) (vs : List (Option Val)) (Γ : List (Item 𝓤)) → Sq 𝓛 Γ g → Sq 𝓛 (cells 𝓤 vs E ++ (deaths 𝓤 E ++ Γ)) (frees E g)
  freed g [] vs Γ s = free0 ! $ s
  freed g (x ∷ E) [] Γ s = frees_one g (‵ (froom x.0 x.1 zero)) x E (cells 𝓤 [] E) Γ (id⊢ 𝓤 _) (freed g E [] Γ s)
  freed g (x ∷ E) (none ∷ vs) Γ s = frees_one g (‵ (froom x.0 x.1 zero)) x E (cells 𝓤 vs E) Γ (id⊢ 𝓤 _) (freed g E vs Γ s)
  freed g (x ∷ E) (some v ∷ vs) Γ s = frees_one g (‵ (fat full_share x.0 x.1 zero v)) x E (cells 𝓤 vs E) Γ (𝓛.laws.at_room x.0 x.1 zero v) (freed g E vs Γ s)

-- what an entry that is a cell holds
abbrev held : Fml → Option Val
held (fat q τ b o v) = some v
held ftrue = none
held ffalse = none
held (feq X x y) = none
held (flt m n) = none
held (fsep P Q) = none
held (fand P Q) = none
held (for P Q) = none
held (fwand P Q) = none
held (fex X F) = none
held (fall X F) = none
held (fupd P) = none
held (froom τ b o) = none
held (fdies τ b) = none
held (flft κ q) = none
held (fdead κ) = none
held (fobs γ x) = none
held (fauth γ x) = none
held (fres γ x) = none
held (fbor κ P) = none
held (fobor κ q P) = none
held (flent κ P) = none
held (fshr_bor κ F) = none
held (fhide P) = none
held (fleft q τ τs b o) = none
held (fown R γ x) = none
held (finv P) = none
held (fnamed k P) = none
held (ftok E) = none
held (fkid h a) = none
held (fme h) = none
held (fsent h) = none

abbrev value : {M : Type 1} {𝓤 : Ura M} → Item 𝓤 → Option Val
value (‵ P) = held P
value (raw P) = none
value (i ⊛ j) = none
value (one F) = none
value (given φ i) = none
value (later i) = none

abbrev values : {M : Type 1} {𝓤 : Ura M} → List (Ty × ℕ) → List (Item 𝓤) → List (Option Val)
values [] Γ = []
values (e ∷ E) [] = []
values (e ∷ E) (i ∷ Γ) = value i ∷ values E Γ

pub leaves : {M : Type 1} {𝓤 : Ura M} {𝓛 : Logic 𝓤} {K : Type 0} → K → (k : ℕ) {E : Env 𝓤 𝓛.H} {g : Goal 𝓤 𝓛.H} {Γ : List (Item 𝓤)} → Γ ≡ front k Γ ++ (cells 𝓤 (values E (behind k Γ)) E ++ deaths 𝓤 E) → Step K 𝓛 (front k Γ) g Γ (frees E g)
leaves {𝓤 = 𝓤} {𝓛 = 𝓛} t k {E} {g} {Γ} e =
    let S : List (Item 𝓤) → SProp 𝓤 = ⋆ 𝓛 in
    step (λ s. by t (via 𝓤 (S (front k Γ ++ (cells 𝓤 (values E (behind k Γ)) E ++ deaths 𝓤 E))) (subst (λ (X : List (Item 𝓤)). ent 𝓤 (S Γ) (S X)) e (id⊢ 𝓤 (S Γ)))
    (via 𝓤 _ (turns_back 𝓛 (cells 𝓤 (values E (behind k Γ)) E) (deaths 𝓤 E) (front k Γ)) (freed 𝓛 g E (values E (behind k Γ)) (front k Γ) (by ! s.prf)).prf)))
