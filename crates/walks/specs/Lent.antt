-- A `&κ mut [T]` in a walk: lent again for a lifetime κ' of a call, and back; shared for all the time that it has left. They are the rules of the logic (`sl_relend`, `sl_relent_backˡ`, `sl_Share`) with the machine value, which these leave out. Assumes `Logic`.
--     Mut, Shared      what a `&κ mut [T]` and a `&κ [T]` own: it does not depend on the lifetime's name in MIR.        renamed      a `&mut [T]` under another name, at another list
--     lends            [Mut x; κ's token] becomes [Mut of x under a new name, for κ'; what the lender keeps]
--     comes_back       [κ' has ended; what the lender keeps; the last list] becomes [Mut of x at that list, which is as long; κ's token]
--     shares           [Mut x; κ's token] becomes [Shared of x as a `&`; x's last list; κ's token]. It takes the laws of T's sharing (`RowLaws`, `Shares`)
use Rattle.std.specs.Prelude.{◌≡◌, refl, List, [], ◌∷◌, length}
use seplogic.Ra.Ura.{Ura}
use mir.Syntax.{erased}
use mir.Val.{Val}
use base.Fml.{Lft, GName, Share, Fml, flft, fdead}
use types.Logic.{Logic}
use types.Kit.{Item, Goal, Soaks, Seq, ‵, ◌⊛◌, some, given, later, ◌$◌, move, use2, use3, drop, split, pick, learn, fsplit, fjoin, feq_i, await}
use Rattle.std.specs.Borrow.{RattleType, Bor, MutBor}
use denote.RattleType.{RowLaws}
use denote.Shares.{Shares}
use denote.MutBor.{as_bor}
use denote.Slice.{MutSlice, ShrSlice, finally, shr_slice_vals, mut_slice_vals}
use borrow.Table.Owned as Bare
use borrow.Rule.Slice.Lend.{kept_f, sl_relend, sl_relent_backˡ}
use borrow.Rule.Slice.Handed.{sl_Share}

abbrev pub renamed : {X : Type 0} → MutBor (List X) → GName → List X → MutBor (List X)
renamed x δ l = record { ref_ptr = x.ref_ptr; ghost_name = δ; now = l }

module _ (R : RattleType) (κ : Lft) where
  abbrev pub Mut : MutBor (List R.Denot) → Fml
  Mut x = (MutSlice erased κ R).own_val x (mut_slice_vals x)

  abbrev pub Shared : Bor (List R.Denot) → Fml
  Shared x = (ShrSlice erased κ R).own_val x (shr_slice_vals x)

module _ {M : Type 1} {𝓤 : Ura M} (𝓛 : Logic 𝓤) (R : RattleType) (κ : Lft) where
  -- what the lender keeps while x is lent under the name δ
  abbrev pub Kept : Share → Lft → MutBor (List R.Denot) → GName → Item 𝓤
  Kept q κ' x δ = kept_f 𝓛 R κ q κ' x.ghost_name δ x.now x.ref_ptr.0 x.ref_ptr.1

module _ {M : Type 1} {𝓤 : Ura M} {𝓛 : Logic 𝓤} {K : Type 0} {Γ : List (Item 𝓤)} {G : Goal 𝓤 𝓛.H} where
  pub lends : K → Soaks G → (R : RattleType) (κ : Lft) (q : Share) (κ' : Lft) (x : MutBor (List R.Denot)) → ((δ : GName) → Seq K 𝓛 (‵ (Mut R κ' (renamed x δ x.now)) ∷ Kept 𝓛 R κ q κ' x δ ∷ Γ) G)
      → Seq K 𝓛 (‵ (Mut R κ x) ∷ ‵ (flft κ q) ∷ Γ) G
  lends t z R κ q κ' x k = fsplit t $ fsplit t $ drop t $ fjoin t $
      use2 𝓛 (later (some (λ (δ : GName). ‵ ((Bare.MutSlice erased κ' R).own_val (renamed x δ x.now)) ⊛ Kept 𝓛 R κ q κ' x δ))) (sl_relend 𝓛 R κ q κ' x.ref_ptr.0 x.ref_ptr.1 x.ghost_name x.now) $ await t z $ pick t (λ δ. split t $ fsplit t $
      feq_i t (List Val) (mut_slice_vals x) (mut_slice_vals x) refl $ fjoin t $ fjoin t $ k δ)

  pub comes_back : K → Soaks G → (R : RattleType) (κ : Lft) (q : Share) (κ' : Lft) (x : MutBor (List R.Denot)) (δ : GName) (ys : List R.Denot)
      → (length ys ≡ length x.now → Seq K 𝓛 (‵ (Mut R κ (renamed x x.ghost_name ys)) ∷ ‵ (flft κ q) ∷ Γ) G) → Seq K 𝓛 (‵ (fdead κ') ∷ Kept 𝓛 R κ q κ' x δ ∷ ‵ (finally R δ ys) ∷ Γ) G
  comes_back t z R κ q κ' x δ ys k =
      use3 𝓛 (later (given (length ys ≡ length x.now) (‵ ((Bare.MutSlice erased κ R).own_val (renamed x x.ghost_name ys)) ⊛ ‵ (flft κ q)))) (sl_relent_backˡ 𝓛 R κ q κ' x.ref_ptr.0 x.ref_ptr.1 x.ghost_name δ x.now ys) $ await t z $ learn t (λ long. split t $ fsplit t $
      feq_i t (List Val) (mut_slice_vals (renamed x δ ys)) (mut_slice_vals (renamed x δ ys)) refl $ fjoin t $ fjoin t $ k long)

  pub shares : K → Soaks G → (R : RattleType) (κ : Lft) (q : Share) (x : MutBor (List R.Denot)) → RowLaws R → Shares 𝓛 R κ → Seq K 𝓛 (‵ (Shared R κ (as_bor x)) ∷ ‵ (finally R x.ghost_name x.now) ∷ ‵ (flft κ q) ∷ Γ) G
      → Seq K 𝓛 (‵ (Mut R κ x) ∷ ‵ (flft κ q) ∷ Γ) G
  shares t z R κ q x laws sh k = fsplit t $ fsplit t $ drop t $ fjoin t $
      use2 𝓛 (later (‵ ((Bare.ShrSlice erased κ R).own_val (as_bor x)) ⊛ ‵ (finally R x.ghost_name x.now) ⊛ ‵ (flft κ q))) (sl_Share 𝓛 R x.ref_ptr.0 x.ref_ptr.1 x.ghost_name x.now laws κ q sh) $ await t z $ split t $ fsplit t $
      feq_i t (List Val) (shr_slice_vals (as_bor x)) (shr_slice_vals (as_bor x)) refl $ fjoin t $ fjoin t $ move t (1 ∷ []) $ split t $ move t (2 ∷ 0 ∷ 1 ∷ []) $ k
