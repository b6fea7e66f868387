-- Statements of MIR in a walk, each with the positions in the context of the cells that it reads and writes; a `refl` shows that the cell is there.
--     reads n, part n k        the operand is the local whose cell is entry n;  or field k of it
--     and_reads                the same, in front of other operands
--     reborrows n m p          `&mut *x` or `&*x` of a slice in entry n: its reference goes to the room m, the slice made of it to the room p
--     lands_at n, lands_as n   a call's result goes to the room n;  and is known there by another value
--     becomes n f              the value `f x` in entry n, as `f y`, where x is y
--     resizes n                the slice in entry n, as a slice of another length, which is the same
--     repoints n               the pointer in entry n, at another offset, which is the same
--     copied n                 a copy of what the `&[T]` in entry n owns, in front, by T's laws of sharing (`RowLaws`)
--     slice_typed              the value of a slice is of its type
-- Assumes `Logic`.
use Rattle.std.specs.Prelude.{◌≡◌, refl, ℕ, zero, ◌+◌, ◌<◌, ◌^◌, List, [], ◌∷◌, T}
use Rattle.std.proofs.Common.{sym, subst}
use Rattle.std.proofs.Math.Option.{some}
use seplogic.Ra.Ura.{Ura}
use base.Fraction.{full_share}
use mir.Syntax.{Ty, Sym, Tys, ty_struct, w64, erased, deref, field, place, Opd as Operand, copy, addr_of, aggregate, Body, seq, assign}
use mir.Val.{Val, Vals, vint, vptr, vstruct, WT, has_ty}
use mir.Fields.{get_v}
use base.Logic.{SProp, ent, sep, via, mono_l, mono_r, assoc∗}
use base.Fml.{Lft, Share, fat, froom}
use prog.Memory.{field_at}
use prog.Wp.{Env, Calls, Loops, Spot, spot_of}
use types.Logic.{Logic, sem}
use types.Kit.{Item, ‵, ⋆, mean, nth, del, put, pull, unpull, push, Post, Goal, runs, lands, Seq, Step, step, ◌$◌, rewrite}
use types.Run.{Walks, Opd, Opds, look, init, stop, hop, fld, from, load, addr, and_then, no_more, assigns, land}
use types.Part.{Part, whole, sub, look_in, agg}
use Rattle.std.specs.Borrow.{RattleType, Bor}
use denote.RattleType.{RowLaws}
use denote.Slice.{slice_ty, slice_val, ShrSlice, shr_slice_vals, shr_slice_copy}

pub slice_typed : {n : ℕ} → n < 2 ^ 64 → Unit {0} × (Unit {0} × (WT (vint w64 n) × Unit {0}))
slice_typed h = (tt, (tt, (record { fits = h }, tt)))

module _ {M : Type 1} {𝓤 : Ura M} {𝓛 : Logic 𝓤} {K : Type 0} where
  -- an entry of the context is known
  part_at : (Γ : List (Item 𝓤)) (n : ℕ) {i : Item 𝓤} {q : Share} {τ : Ty} {b o : ℕ} {v : Val} {back : Val → Item 𝓤} → nth 𝓛 n Γ ≡ i → Part K 𝓛 i q τ b o v back → Part K 𝓛 (nth 𝓛 n Γ) q τ b o v back
  part_at Γ n {q = q} {τ} {b} {o} {v} {back} e p = subst (λ (j : Item 𝓤). Part K 𝓛 j q τ b o v back) (sym e) p

module _ {M : Type 1} {𝓤 : Ura M} {𝓛 : Logic 𝓤} {K : Type 0} {Γ : List (Item 𝓤)} where
  open 𝓛 use {H}

  module _ {E : Env 𝓤 H} where
    pub reads : K → (n : ℕ) {i : ℕ} {q : Share} {v : Val} → nth 𝓛 n Γ ≡ ‵ (fat q (spot_of 𝓤 H E i).0 (spot_of 𝓤 H E i).1 zero v) → Opd K 𝓛 Γ E (copy (place i [])) v
    reads t n e = load t (from t (stop t)) (look t n e)

    pub and_reads : K → (n : ℕ) {i : ℕ} {q : Share} {v : Val} {xs : List Operand} {vs : List Val} → nth 𝓛 n Γ ≡ ‵ (fat q (spot_of 𝓤 H E i).0 (spot_of 𝓤 H E i).1 zero v) → Opds K 𝓛 Γ E xs vs → Opds K 𝓛 Γ E (copy (place i []) ∷ xs) (v ∷ vs)
    and_reads t n e os = and_then t (reads t n e) os

    -- field k of the struct in entry n
    pub part : K → (n k : ℕ) {i : ℕ} {q : Share} {ν : Sym} {τs : Tys} {b : ℕ} {vs : Vals} {τ : Ty} {d : ℕ} → nth 𝓛 n Γ ≡ ‵ (fat q (ty_struct ν τs) b zero (vstruct vs)) → spot_of 𝓤 H E i ≡ (ty_struct ν τs, b, zero)
        → field_at zero τs k ≡ some (τ, d) → Opd K 𝓛 Γ E (copy (place i (field k ∷ []))) (get_v vs k)
    part t n k {i} {q} {ν} {τs} {b} {vs} {τ} {d} e here f =
        load t (from t (subst (λ (sp : Spot 𝓤 H). Walks K 𝓛 Γ E sp (field k ∷ []) (τ, b, zero + d)) (sym here) (fld t f (stop t)))) (look_in t n (part_at Γ n e (sub t k f (whole t))))

    module _ {C : Calls 𝓤 H} {Λ : Loops 𝓤 H} {q : Post 𝓤 H} where
      pub lands_at : K → (n : ℕ) {i : ℕ} {v : Val} {rest : Body} → nth 𝓛 n Γ ≡ ‵ (froom (spot_of 𝓤 H E i).0 (spot_of 𝓤 H E i).1 zero) → T (has_ty (spot_of 𝓤 H E i).0 v) × WT v
          → Step K 𝓛 (put 𝓛 n (‵ (fat full_share (spot_of 𝓤 H E i).0 (spot_of 𝓤 H E i).1 zero v)) Γ) (runs C Λ E rest q) Γ (lands C Λ E (place i []) v rest q)
      lands_at t n e wt = land t (from t (stop t)) (init t n e wt)

      pub lands_as : K → (n : ℕ) {i : ℕ} {v u : Val} {rest : Body} → nth 𝓛 n Γ ≡ ‵ (froom (spot_of 𝓤 H E i).0 (spot_of 𝓤 H E i).1 zero) → v ≡ u → T (has_ty (spot_of 𝓤 H E i).0 v) × WT v
          → Step K 𝓛 (put 𝓛 n (‵ (fat full_share (spot_of 𝓤 H E i).0 (spot_of 𝓤 H E i).1 zero u)) Γ) (runs C Λ E rest q) Γ (lands C Λ E (place i []) v rest q)
      lands_as t n {i} {v} {u} {rest} e same wt = step (λ s. lands_at t n e wt $
          subst (λ (x : Val). Seq K 𝓛 (put 𝓛 n (‵ (fat full_share (spot_of 𝓤 H E i).0 (spot_of 𝓤 H E i).1 zero x)) Γ) (runs C Λ E rest q)) (sym same) s)

  module _ {G : Goal 𝓤 H} where
    pub becomes : K → (n : ℕ) {X : Type 0} (f : X → Val) {q : Share} {τ : Ty} {b o : ℕ} {x y : X} → x ≡ y → nth 𝓛 n Γ ≡ ‵ (fat q τ b o (f x)) → Step K 𝓛 (put 𝓛 n (‵ (fat q τ b o (f y))) Γ) G Γ G
    becomes t n {X} f {q} {τ} {b} {o} e at_n = rewrite t n (λ (x : X). ‵ (fat q τ b o (f x))) e at_n

    pub resizes : K → (n : ℕ) {q : Share} {τ : Ty} {b o : ℕ} {p : ℕ × ℕ} {k m : ℕ} → k ≡ m → nth 𝓛 n Γ ≡ ‵ (fat q τ b o (slice_val p k)) → Step K 𝓛 (put 𝓛 n (‵ (fat q τ b o (slice_val p m))) Γ) G Γ G
    resizes t n {p = p} e at_n = becomes t n (slice_val p) e at_n

    pub repoints : K → (n : ℕ) {q : Share} {τ : Ty} {b o a k m : ℕ} → k ≡ m → nth 𝓛 n Γ ≡ ‵ (fat q τ b o (vptr a k)) → Step K 𝓛 (put 𝓛 n (‵ (fat q τ b o (vptr a m))) Γ) G Γ G
    repoints t n {a = a} e at_n = becomes t n (vptr a) e at_n

    pub copied : K → (n : ℕ) (R : RattleType) → RowLaws R → (κ : Lft) (x : Bor (List R.Denot)) → nth 𝓛 n Γ ≡ ‵ ((ShrSlice erased κ R).own_val x (shr_slice_vals x)) → Step K 𝓛 (‵ ((ShrSlice erased κ R).own_val x (shr_slice_vals x)) ∷ Γ) G Γ G
    copied t n R laws κ x e =
        let Copy : SProp 𝓤 = sem 𝓛 ((ShrSlice erased κ R).own_val x (shr_slice_vals x)) in
        let Own : SProp 𝓤 = mean 𝓛 (nth 𝓛 n Γ) in
        let Rest : SProp 𝓤 = ⋆ 𝓛 (del 𝓛 n Γ) in
        let twice : ent 𝓤 Own (sep 𝓤 Copy Own) = subst (λ (i : Item 𝓤). ent 𝓤 (mean 𝓛 i) (sep 𝓤 Copy (mean 𝓛 i))) (sym e) ((shr_slice_copy 𝓛 erased κ R laws).twice x (shr_slice_vals x)) in
        step (λ s. record {
          prf = via 𝓤 (sep 𝓤 Own Rest) (pull 𝓛 n Γ) (via 𝓤 (sep 𝓤 (sep 𝓤 Copy Own) Rest) (mono_l 𝓤 Rest twice) (via 𝓤 (sep 𝓤 Copy (sep 𝓤 Own Rest)) (assoc∗ 𝓤 Copy Own Rest)
              (via 𝓤 (sep 𝓤 Copy (⋆ 𝓛 Γ)) (mono_r 𝓤 Copy (unpull 𝓛 n Γ)) (via 𝓤 _ (push 𝓛 (‵ ((ShrSlice erased κ R).own_val x (shr_slice_vals x))) Γ) s.prf))));
        })

module _ {M : Type 1} {𝓤 : Ura M} {𝓛 : Logic 𝓤} {K : Type 0} {Γ : List (Item 𝓤)} {E : Env 𝓤 𝓛.H} {C : Calls 𝓤 𝓛.H} {Λ : Loops 𝓤 𝓛.H} {q : Post 𝓤 𝓛.H} where
  open 𝓛 use {H}

  pub reborrows : K → (n m p : ℕ) {i j l : ℕ} {ρ : Ty} {s : Share} {b : ℕ} {a : ℕ × ℕ} {k : ℕ} {σ : Ty} {rest : Body} → nth 𝓛 n Γ ≡ ‵ (fat s (slice_ty ρ) b zero (slice_val a k)) → spot_of 𝓤 H E i ≡ (slice_ty ρ, b, zero)
      → nth 𝓛 m Γ ≡ ‵ (froom (spot_of 𝓤 H E j).0 (spot_of 𝓤 H E j).1 zero) → T (has_ty (spot_of 𝓤 H E j).0 (vptr a.0 a.1)) × WT (vptr a.0 a.1)
      → nth 𝓛 m (put 𝓛 m (‵ (fat full_share (spot_of 𝓤 H E j).0 (spot_of 𝓤 H E j).1 zero (vptr a.0 a.1))) Γ) ≡ ‵ (fat full_share (spot_of 𝓤 H E j).0 (spot_of 𝓤 H E j).1 zero (vptr a.0 a.1))
      → nth 𝓛 n (put 𝓛 m (‵ (fat full_share (spot_of 𝓤 H E j).0 (spot_of 𝓤 H E j).1 zero (vptr a.0 a.1))) Γ) ≡ ‵ (fat s (slice_ty ρ) b zero (slice_val a k))
      → nth 𝓛 p (put 𝓛 m (‵ (fat full_share (spot_of 𝓤 H E j).0 (spot_of 𝓤 H E j).1 zero (vptr a.0 a.1))) Γ) ≡ ‵ (froom (spot_of 𝓤 H E l).0 (spot_of 𝓤 H E l).1 zero)
      → T (has_ty (spot_of 𝓤 H E l).0 (slice_val a k)) × WT (slice_val a k)
      → Step K 𝓛 (put 𝓛 p (‵ (fat full_share (spot_of 𝓤 H E l).0 (spot_of 𝓤 H E l).1 zero (slice_val a k))) (put 𝓛 m (‵ (fat full_share (spot_of 𝓤 H E j).0 (spot_of 𝓤 H E j).1 zero (vptr a.0 a.1))) Γ)) (runs C Λ E rest q) Γ
      (runs C Λ E (seq (assign (place j []) (addr_of (place i (field 0 ∷ deref σ ∷ [])))) (seq (assign (place l []) (aggregate (copy (place j []) ∷ copy (place i (field 1 ∷ [])) ∷ []))) rest)) q)
  reborrows t n m p {a = a} {σ = σ} e here to-ref ref_typed has-ref has-slice to-slice typed = step (λ s.
      assigns t (addr t (from t (subst (λ (sp : Spot 𝓤 H). Walks K 𝓛 Γ E sp (field 0 ∷ deref σ ∷ []) (σ, a.0, a.1)) (sym here) (fld t refl (hop t (look_in t n (part_at Γ n e (sub t 0 refl (whole t)))) (stop t)))))) (from t (stop t)) (init t m to-ref ref_typed) $
      assigns t (agg t (and_then t (load t (from t (stop t)) (look t m has-ref)) (and_then t (part t n 1 has-slice here refl) (no_more t)))) (from t (stop t)) (init t p to-slice typed) $ s)
