-- A local that holds a struct with references, lent by `&mut` for a call and back. The callee is `fn f<'s, 'a>(x: &'s mut S<'a>) -> R`, that asks nothing and whose contract is one fact. The loan has a lifetime of its own, ν within 'a: it is made with half of the
-- share of 'a's token, and ended after the call, when the local comes back at the value that the callee says. Assumes `Logic`.
--     Owns h, Cell b h     what a value h owns;  the local's cell, at b
--     at_local, halves     the reference to the local;  the shares of the two lifetimes' tokens
--     calls_lent           [Owns h; Cell b h; 'a's token] becomes [what the result owns; Owns c; Cell b c; 'a's token], with the result's relation and the contract's fact in hand, where c is the last value
use Prim.Native.Nat.{ℕ, zero}
use Rattle.std.specs.Prelude.{List, [], ◌∷◌}
use seplogic.Ra.Ura.{Ura}
use base.Share
use base.Fraction.{full_share}
use mir.Syntax.{erased, Callee, Place, Opd as Operand, Body as MirBody, seq, call}
use mir.Val.{Val, vptr}
use base.Logic.{ent, sep}
use base.Fml.{GName, Lft, Share, Fml, fsep, fat, flft, fdead, fres, flent}
use prog.Wp.{Env, Calls, Loops}
use types.Logic.{Logic, sem}
use contract.Lifetimes.{Lfts, Shares}
use contract.Monad.{fact}
use sound.WpLaws.{FmC}
use types.Kit.{Item, ‵, raw, ◌⊛◌, some, later, Post, Goal, Soaks, Seq, runs, lands, ◌$◌, ◌∵◌, !, qed, move, use1, use2, use3, drop, split, pick, fsplit, fjoin, fpick, fpack, await, done}
use types.Tokens.{lft_new}
use types.SemTy.{Body}
use types.Run.{Opds}
use borrow.Within.Token.{Rest, within_token, within_end}
use Rattle.std.specs.Borrow.{RattleType}
use denote.Laws.{Rel, Shows, Is, shows}
use denote.Lend.{lends_ref, ref_back}
use denote.Memory.{mem, cell_at, lone, part_of, part_at}
use denote.Ref.{MutBor, MutRef}
use denote.Struct.Declared.{Declared, row}
use denote.Struct.Laws as LL
use denote.Struct.Steps.{spelt}
use Rattle.walks.specs.Call.{Arg, given_one, Says, calls}

module _ (D : Declared) (L : LL.Laws D) where
  abbrev pub Owns : D.D → Fml
  Owns h = (row D).own_val h (LL.vals D L h)

  abbrev pub Cell : ℕ → D.D → Fml
  Cell b h = fat full_share (lone (row D).mir) b zero (LL.val D L h)

-- the reference to a local at b that holds h, under the name δ
abbrev pub at_local : {X : Type 0} → ℕ → GName → X → MutBor X
at_local b δ h = record { ref_ptr = (b, zero); ghost_name = δ; now = h }

-- the two halves of a share: of the loan's lifetime, and of 'a
abbrev pub halves : Share → Shares 2
halves q = (Share.right q, (Share.left q, tt))

-- what the lender keeps
abbrev Kept : Declared → Lft → ℕ → GName → Fml
Kept D κ' b δ = flent κ' (Body (mem (row D)) b zero δ)

module _ {M : Type 1} {𝓤 : Ura M} (𝓛 : Logic 𝓤) (D : Declared) (L : LL.Laws D) where
  open 𝓛 use {H}

  lies_in : (h : D.D) (b : ℕ) → ent 𝓤 (sep 𝓤 (sem 𝓛 (Cell D L b h)) (sem 𝓛 (Owns D L h))) (sem 𝓛 (part_at (row D) full_share h b zero))
  unfolding part_of
  lies_in h b = qed 𝓛 (‵ (Cell D L b h) ∷ ‵ (Owns D L h) ∷ []) ∵
      use1 𝓛 (‵ (cell_at full_share (row D).mir (LL.vals D L h) b zero)) (𝓛.laws.at_raw full_share (lone (row D).mir) b zero (LL.val D L h)) $ fjoin ! $
      fpack ! (List Val) (λ vs. fsep (cell_at full_share (row D).mir vs b zero) ((row D).own_val h vs)) (LL.vals D L h) $ done !

  lies_out : (h : D.D) (b : ℕ) → ent 𝓤 (sem 𝓛 (part_at (row D) full_share h b zero)) (sep 𝓤 (sem 𝓛 (Cell D L b h)) (sem 𝓛 (Owns D L h)))
  unfolding part_of
  lies_out h b = qed 𝓛 (‵ (part_at (row D) full_share h b zero) ∷ []) ∵ fpick ! (λ vs. fsplit ! $ spelt ! (row D) (Is (row D)) (shows 𝓛 (row D)) (LL.vals D L) (LL.tells D L) full_share h vs b zero $
      use1 𝓛 (‵ (Cell D L b h)) (𝓛.laws.raw_at full_share (lone (row D).mir) b zero (LL.val D L h)) $ done !)

  module _ (κ : Lft) (q : Share) where
    abbrev κs : ℕ → Lfts 2
    κs ν = (ν ∷ κ, (κ, tt))

    abbrev qs : Shares 2
    qs = halves q

    module _ {K : Type 0} {Γ : List (Item 𝓤)} {G : Goal 𝓤 H} where
      lends : K → Soaks G → (h : D.D) (b : ℕ)
          → ((ν : ℕ) (δ : GName) → Seq K 𝓛 (‵ (flft (ν ∷ κ) qs.0) ∷ ‵ (flft κ qs.1.0) ∷ ‵ ((MutRef erased (ν ∷ κ) (row D)).own_val (at_local b δ h) (vptr b zero ∷ [])) ∷ ‵ (Kept D (ν ∷ κ) b δ) ∷ raw (Rest 𝓛 ν qs.0) ∷ Γ) G)
          → Seq K 𝓛 (‵ (Owns D L h) ∷ ‵ (Cell D L b h) ∷ ‵ (flft κ q) ∷ Γ) G
      lends t z h b k =
          move t (1 ∷ 0 ∷ []) $ use2 𝓛 (‵ (part_at (row D) full_share h b zero)) (lies_in h b) $ lft_new t z (λ ν.
          move t (2 ∷ []) $ use1 𝓛 (‵ (flft κ qs.1.0) ⊛ ‵ (flft κ qs.0)) (𝓛.lfts.lft_split κ q) $ split t $
          move t (2 ∷ 1 ∷ []) $ use2 𝓛 (‵ (flft (ν ∷ κ) qs.0) ⊛ raw (Rest 𝓛 ν qs.0)) (within_token 𝓛 ν κ qs.0) $ split t $
          move t (3 ∷ []) $ use1 𝓛 (later (some (λ (δ : GName). ‵ ((MutRef erased (ν ∷ κ) (row D)).own_val (at_local b δ h) (vptr b zero ∷ [])) ⊛ ‵ (Kept D (ν ∷ κ) b δ)))) (lends_ref 𝓛 (row D) erased (ν ∷ κ) h b zero) $ await t z $
          pick t (λ δ. split t $ move t (2 ∷ 4 ∷ 0 ∷ 1 ∷ 3 ∷ []) $ k ν δ))

      comes_back : K → Soaks G → (ν : ℕ) (δ : GName) (c : D.D) (b : ℕ) → Seq K 𝓛 (‵ (Owns D L c) ∷ ‵ (Cell D L b c) ∷ ‵ (flft κ q) ∷ Γ) G
          → Seq K 𝓛 (‵ (flft (ν ∷ κ) qs.0) ∷ ‵ (flft κ qs.1.0) ∷ ‵ (fres δ ((row D).coded.code c)) ∷ ‵ (Kept D (ν ∷ κ) b δ) ∷ raw (Rest 𝓛 ν qs.0) ∷ Γ) G
      comes_back t z ν δ c b k =
          move t (0 ∷ 4 ∷ []) $ use2 𝓛 (later (‵ (fdead (ν ∷ κ)) ⊛ ‵ (flft κ qs.0))) (within_end 𝓛 ν κ qs.0) $ await t z $ split t $
          move t (0 ∷ 4 ∷ 3 ∷ []) $ use3 𝓛 (later (‵ (part_at (row D) full_share c b zero))) (ref_back 𝓛 (row D) (ν ∷ κ) δ c b zero) $ await t z $
          use1 𝓛 (‵ (Cell D L b c) ⊛ ‵ (Owns D L c)) (lies_out c b) $ split t $ move t (3 ∷ 2 ∷ []) $ use2 𝓛 (‵ (flft κ q)) (𝓛.lfts.lft_join κ q) $ move t (2 ∷ 1 ∷ 0 ∷ []) $ k

    module _ (R : RattleType) (P : Rel R) (shown : Shows 𝓛 R P) (F : R.Denot → D.D → Type 0) (h : D.D) (b : ℕ) where
      -- the argument, lent for ν under the name δ
      abbrev passed : ℕ → GName → List (Arg 𝓛)
      passed ν δ = given_one (row D) (ν ∷ κ) (at_local b δ h) ∷ []

      abbrev lent : ℕ → GName → List (Item 𝓤) → List (Item 𝓤)
      lent ν δ Γ = ‵ (flft (ν ∷ κ) qs.0) ∷ ‵ (flft κ qs.1.0) ∷ ‵ ((MutRef erased (ν ∷ κ) (row D)).own_val (at_local b δ h) (vptr b zero ∷ [])) ∷ ‵ (Kept D (ν ∷ κ) b δ) ∷ raw (Rest 𝓛 ν qs.0) ∷ Γ

      pub calls_lent : {Γ : List (Item 𝓤)} {K : Type 0} {E : Env 𝓤 H} {C : Calls 𝓤 H} {Λ : Loops 𝓤 H} {post : Post 𝓤 H} {f : Callee} {xs : List Operand} {d : Place} {rest : MirBody} → K → FmC 𝓤 H 𝓛.laws C
          → ((ν : ℕ) (δ : GName) → Says 𝓛 R 2 (κs ν) qs (passed ν δ) (λ r ws. fact 𝓤 (F r ws.0)) C f) → ((ν : ℕ) (δ : GName) → Opds K 𝓛 (lent ν δ Γ) E xs (vptr b zero ∷ []))
          → ((v : Val) (r : R.Denot) (c : D.D) → P r (v ∷ []) → F r c → Seq K 𝓛 (‵ (Owns D L c) ∷ ‵ (Cell D L b c) ∷ ‵ (flft κ q) ∷ ‵ (R.own_val r (v ∷ [])) ∷ Γ) (lands C Λ E d v rest post))
          → Seq K 𝓛 (‵ (Owns D L h) ∷ ‵ (Cell D L b h) ∷ ‵ (flft κ q) ∷ Γ) (runs C Λ E (seq (call f xs d) rest) post)
      calls_lent t fm says os k = lends t tt h b (λ ν δ. calls 𝓛 R P shown 2 (κs ν) qs (passed ν δ) (λ r ws. F r ws.0) _ t fm (says ν δ) (os ν δ) (λ v r ws is f _.
          -- [what the result owns; the two tokens; the last value and the loan's borrow; what the lender keeps; the way back]
          move t (3 ∷ []) $ fsplit t $ move t (1 ∷ []) $ drop t $ move t (2 ∷ 3 ∷ 0 ∷ 4 ∷ 5 ∷ []) $ comes_back t tt ν δ ws.0 b (k v r ws.0 is f)))
