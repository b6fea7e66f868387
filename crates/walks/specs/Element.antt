-- One element of a slice in a walk, over any type of elements that is Copy.
--     Element R        what is asked of the type.        element      of a declared type
--     at_place, times-fits     where element i lies: what MIR's `mul` and `offset` make of the pointer and i;  and the product fits a usize
--     looks_at         [Shared x; κ's token] becomes [element i's cell; Looked], and `looks_away` gives them back
--     opens_at         [Mut x; κ's token] becomes [element i's cell; Opened], and `closes_at` gives them back with another value in the cell
--     shares_at        a `&mut [T]` of such a type is shared for all the time that it has left (`Lent.antt`'s `shares`)
--     gives_up         a `&mut [T]` that is not needed any more says its last list, and leaves its borrow (`Call.antt`'s `Gave`).        gives_up_as      the same of one at another list, which is as long
-- Assumes `Logic`.
use Rattle.std.specs.Prelude.{◌≡◌, refl, ℕ, ◌+◌, ◌*◌, ◌<◌, List, [], ◌∷◌, length, get_or, set}
use Rattle.std.proofs.Common.{sym, subst, length-set}
use seplogic.Ra.Ura.{Ura}
use base.Fraction.{full_share}
use mir.Val.{Val}
use base.Fml.{Lft, Share, Fml, fsep, flft, fobs, fauth, fres, fbor, fobor, fhide}
use types.Logic.{Logic}
use types.Kit.{Item, Goal, Soaks, Seq, Step, step, ‵, ◌⊛◌, ◌$◌, move, drop, use1, split, join, fsplit, fjoin, rewrite}
use types.Hole.{Holey}
use types.SemTy.{Body, Arr}
use Rattle.std.specs.Borrow.{RattleType, Bor, MutBor}
use denote.RattleType.{RowLaws}
use denote.MutBor.{as_bor}
use denote.Copied.{Copied}
use denote.Opens.{Shut}
use denote.Laws.{Is, shows, Tells, Copy}
use denote.Memory.{mem, cell_at, shares}
use denote.Shadow.{pure_l, pure_i}
use denote.Slice.{Room, shr_slice_at, shr_slice_vals, mut_slice_at, mut_slice_vals, elements_shared, finally, res-finally, coded_holeys, heres}
use denote.Lend.{Held}
use denote.Index.{place, place_is, others, row as row_of, elem_out, elem_back, elem_put, opens_slice, closes_slice, looks_slice, shuts_slice}
use denote.Struct.Declared.{Declared, row}
use denote.Struct.Laws as LL
use denote.Struct.Recorded.{Recorded-row_laws}
use denote.Struct.Struct.{Struct, Struct-row_laws}
use denote.Struct.Declared.{shape}
use mir.Syntax.{erased}
use Rattle.walks.specs.Lent.{Mut, Shared, renamed, shares as shares_all}
use Rattle.walks.specs.Call.{Gave}

pub record Element (R : RattleType) : Type 2 where
  pub vals : R.Denot → List Val
  pub tells : Tells R (Is R) vals
  pub copies : {M : Type 1} {𝓤 : Ura M} (𝓛 : Logic 𝓤) → Copy 𝓛 R
  pub copied : {M : Type 1} {𝓤 : Ura M} (𝓛 : Logic 𝓤) → Copied 𝓛 R
  pub shr_laws : RowLaws R

abbrev pub element : (D : Declared) (L : LL.Laws D) → LL.Copyables D.parts → Element (row D)
element D L c = record { vals = LL.vals D L; tells = LL.tells D L; copies = λ 𝓛. LL.copy D c 𝓛; copied = λ 𝓛. LL.copied D c 𝓛; shr_laws = Recorded-row_laws (Struct (shape D)) D.D D.to D.to_one (Struct-row_laws (shape D) (LL.copy_row_laws D.parts c)) }

pub at_place : (size o i : ℕ) → i * size + o ≡ place size o i
at_place size o i = sym (place_is size o i)

-- what is kept while element i of a `&κ [T]` is looked at, in a share of memory, and of a `&κ mut [T]` is open
module _ {M : Type 1} {𝓤 : Ura M} (𝓛 : Logic 𝓤) (R : RattleType) (E : Element R) (κ : Lft) (q : Share) (x : Bor (List R.Denot)) (i : ℕ) (d : R.Denot) where
  abbrev pub Looked : Share → Item 𝓤
  Looked q' = ‵ (R.own_val (get_or x.now i d) (E.vals (get_or x.now i d))) ⊛ ‵ (others (shares R) q' x.now i x.ref_ptr.0 x.ref_ptr.1) ⊛ Shut 𝓛 κ q (row_of R q' x.now x.ref_ptr.0 x.ref_ptr.1)
      ⊛ ‵ (fhide (elements_shared R x.now x.ref_ptr.0 x.ref_ptr.1 κ)) ⊛ ‵ (shr_slice_at R x (shr_slice_vals x))

module _ (R : RattleType) (E : Element R) (κ : Lft) (q : Share) (x : MutBor (List R.Denot)) (i : ℕ) (d : R.Denot) where
  abbrev pub Opened : Fml
  Opened = fsep (others (shares R) full_share x.now i x.ref_ptr.0 x.ref_ptr.1) (fsep (fobor κ q (Held R (length x.now) x.ref_ptr.0 x.ref_ptr.1 x.ghost_name))
      (fsep (fobs x.ghost_name ((coded_holeys R).code (heres R x.now))) (fsep (fauth x.ghost_name ((coded_holeys R).code (heres R x.now))) (mut_slice_at R x (mut_slice_vals x)))))

module _ {M : Type 1} {𝓤 : Ura M} {𝓛 : Logic 𝓤} {K : Type 0} {Γ : List (Item 𝓤)} {G : Goal 𝓤 𝓛.H} where
  pub shares_at : K → Soaks G → (R : RattleType) → Element R → (κ : Lft) (q : Share) (x : MutBor (List R.Denot)) → Seq K 𝓛 (‵ (Shared R κ (as_bor x)) ∷ ‵ (finally R x.ghost_name x.now) ∷ ‵ (flft κ q) ∷ Γ) G → Seq K 𝓛 (‵ (Mut R κ x) ∷ ‵ (flft κ q) ∷ Γ) G
  shares_at t z R E κ q x = shares_all t z R κ q x E.shr_laws ((E.copied 𝓛).shares full_share κ)

  pub gives_up : K → (R : RattleType) (κ : Lft) (x : MutBor (List R.Denot)) → Step K 𝓛 (‵ (Gave R κ x x.now) ∷ Γ) G (‵ (Mut R κ x) ∷ Γ) G
  gives_up t R κ x = step (λ s. fsplit t $ drop t $ fsplit t $
      use1 𝓛 (‵ (fres x.ghost_name ((coded_holeys R).code (heres R x.now)))) (𝓛.names.obs-res x.ghost_name ((coded_holeys R).code (heres R x.now))) $
      use1 𝓛 (‵ (finally R x.ghost_name x.now)) (res-finally 𝓛 erased κ R x.ghost_name x.now) $ fjoin t $ s)

  pub gives_up_as : K → (R : RattleType) (κ : Lft) (x : MutBor (List R.Denot)) (ys : List R.Denot) → length ys ≡ length x.now → Step K 𝓛 (‵ (Gave R κ x ys) ∷ Γ) G (‵ (Mut R κ (renamed x x.ghost_name ys)) ∷ Γ) G
  gives_up_as t R κ x ys e = step (λ s. gives_up t R κ (renamed x x.ghost_name ys) $ fsplit t $
      rewrite t 1 (λ (m : ℕ). ‵ (fbor κ (Body (Arr (Holey (mem R)) m) x.ref_ptr.0 x.ref_ptr.1 x.ghost_name))) e refl $ fjoin t $ s)

  module _ (R : RattleType) (E : Element R) (κ : Lft) (q : Share) (x : Bor (List R.Denot)) (i : ℕ) (d : R.Denot) (l : i < length x.now) where
    pub looks_at : K → Soaks G → ((q' : Share) → Is R (get_or x.now i d) (E.vals (get_or x.now i d))
        → Seq K 𝓛 (‵ (cell_at q' R.mir (E.vals (get_or x.now i d)) x.ref_ptr.0 (place (mem R).size x.ref_ptr.1 i)) ∷ Looked 𝓛 R E κ q x i d q' ∷ Γ) G) → Seq K 𝓛 (‵ (Shared R κ x) ∷ ‵ (flft κ q) ∷ Γ) G
    looks_at t z k = fsplit t $ move t (1 ∷ 2 ∷ []) $
        looks_slice t z R (E.copied 𝓛) x.now x.ref_ptr.0 x.ref_ptr.1 (λ q'. elem_out t R (Is R) (shows 𝓛 R) E.vals E.tells q' x.now i d x.ref_ptr.0 x.ref_ptr.1 l (λ is.
        -- [the cell; what the element owns; the others; what shuts; what the reference holds; the slice's fact]
        move t (4 ∷ 5 ∷ []) $ join t $ move t (4 ∷ 0 ∷ []) $ join t $ move t (3 ∷ 0 ∷ []) $ join t $ move t (2 ∷ 0 ∷ []) $ join t $ move t (1 ∷ 0 ∷ []) $ k q' is))

    pub looks_away : K → Soaks G → (q' : Share) → Step K 𝓛 (‵ (Shared R κ x) ∷ ‵ (flft κ q) ∷ Γ) G (‵ (cell_at q' R.mir (E.vals (get_or x.now i d)) x.ref_ptr.0 (place (mem R).size x.ref_ptr.1 i)) ∷ Looked 𝓛 R E κ q x i d q' ∷ Γ) G
    looks_away t z q' = step (λ s. move t (1 ∷ []) $ split t $ move t (1 ∷ []) $ split t $ move t (1 ∷ []) $ split t $ move t (1 ∷ []) $ split t $
        -- [what the reference holds; the slice's fact; what shuts; the others; what the element owns; the cell]
        move t (5 ∷ 4 ∷ 3 ∷ []) $ elem_back t R q' x.now i d (E.vals (get_or x.now i d)) x.ref_ptr.0 x.ref_ptr.1 l $ move t (0 ∷ 3 ∷ []) $ shuts_slice t z R q' x.now x.ref_ptr.0 x.ref_ptr.1 $
        move t (2 ∷ 1 ∷ []) $ fjoin t $ s)

  module _ (R : RattleType) (E : Element R) (κ : Lft) (q : Share) (x : MutBor (List R.Denot)) (i : ℕ) (d : R.Denot) (l : i < length x.now) where
    pub opens_at : K → Soaks G → Seq K 𝓛 (‵ (cell_at full_share R.mir (E.vals (get_or x.now i d)) x.ref_ptr.0 (place (mem R).size x.ref_ptr.1 i)) ∷ ‵ (Opened R E κ q x i d) ∷ Γ) G → Seq K 𝓛 (‵ (Mut R κ x) ∷ ‵ (flft κ q) ∷ Γ) G
    opens_at t z s = fsplit t $ move t (1 ∷ []) $ fsplit t $ move t (0 ∷ 1 ∷ 3 ∷ []) $
        opens_slice t z R x.now x.ref_ptr.0 x.ref_ptr.1 $ elem_out t R (Is R) (shows 𝓛 R) E.vals E.tells full_share x.now i d x.ref_ptr.0 x.ref_ptr.1 l (λ _.
        -- [the cell; what the element owns; the others; the open borrow; obs; auth; the slice's fact]
        move t (1 ∷ []) $ drop t $ move t (4 ∷ 5 ∷ []) $ fjoin t $ move t (4 ∷ 0 ∷ []) $ fjoin t $ move t (3 ∷ 0 ∷ []) $ fjoin t $ move t (2 ∷ 0 ∷ []) $ fjoin t $ move t (1 ∷ 0 ∷ []) $ s)

    pub closes_at : K → Soaks G → (y : R.Denot) (vs : List Val)
        → Step K 𝓛 (‵ (Mut R κ (renamed x x.ghost_name (set x.now i y))) ∷ ‵ (flft κ q) ∷ Γ) G (‵ (cell_at full_share R.mir vs x.ref_ptr.0 (place (mem R).size x.ref_ptr.1 i)) ∷ ‵ (R.own_val y vs) ∷ ‵ (Opened R E κ q x i d) ∷ Γ) G
    closes_at t z y vs = step (λ s. move t (2 ∷ []) $ fsplit t $ move t (1 ∷ []) $ fsplit t $ move t (1 ∷ []) $ fsplit t $ move t (1 ∷ []) $ fsplit t $
        -- [auth; the slice's fact; obs; the open borrow; the others; the cell; what y owns]
        move t (5 ∷ 6 ∷ 4 ∷ []) $ elem_put t R full_share x.now i y vs x.ref_ptr.0 x.ref_ptr.1 l $ move t (0 ∷ 4 ∷ 3 ∷ 1 ∷ []) $ closes_slice t z R x.now (set x.now i y) (length-set x.now i y) x.ref_ptr.0 x.ref_ptr.1 $
        move t (3 ∷ []) $ pure_l t (mut_slice_at R x (mut_slice_vals x)) (λ p. fjoin t $ pure_i t (mut_slice_at R (renamed x x.ghost_name (set x.now i y)) (mut_slice_vals (renamed x x.ghost_name (set x.now i y)))) (tt, (tt, tt)) (refl, subst (Room R) (sym (length-set x.now i y)) p.1) $ fjoin t $ s))
