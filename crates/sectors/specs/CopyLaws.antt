-- Laws of a copy into lent memory: what fits is copied whole, and what a program leaves that copies what fits. Assumes nothing.
use Rattle.std.specs.Prelude.{◌≡◌, ℕ, ◌+◌, ◌-◌, ◌<◌, ◌≤◌, min, Bool, true, false, List, ◌++◌, length, take, drop, replicate, nat_le, nat_lt, slice_index, slice_index_or, slice_set, refl}
use Rattle.std.proofs.Common.{sym, ap, ◌∙◌, add-one, append-nil, le_of_eq, arith, drop_of_length-le, length-take-le, take-suc, take_all, leb-true, leb-false, ltb-true, ltb-false}
use Rattle.std.proofs.lemmas.List.{get_or-replicate}
use Rattle.std.proofs.Math.ListN.{get_or-append, get_or-eq_default, length-replicate}
use Rattle.std.proofs.Math.Seq.{get_or-append_right, get_or-drop}
use borrow.Rule.Slice.PartMut.{put_mid}
use Rattle.sectors.specs.Fill.{fill, copy_into}
use Rattle.sectors.specs.FillLaws.{take_cut, put_fill, fill_front, fill_none, fill_one}

module _ {A : Type 0} (at : ℕ) (new old : List A) where
  -- what fits is copied whole
  pub copy_whole : at + length new ≤ length old → copy_into at new old ≡ fill at new old
  unfolding copy_into
  copy_whole h = rw (take_all (length old - at) new (omega arith))

  -- element i is stored behind those before it
  pub copy_more : (i : ℕ) (d : A) → i < length new → at + i < length old
      → slice_set (fill at (take i new) old) (at + i) (slice_index_or new i d) ≡ fill at (take (i + 1) new) old
  copy_more i d h room =
      let l = length-take-le i new (omega arith) in
      rw (add-one, take-suc new i d) (rw l at (fill_one at (take i new) old (omega arith) (slice_index_or new i d) (omega arith)))

  -- as many are stored as fit
  pub copy_all : (i : ℕ) → i ≡ min (length old - at) (length new) → fill at (take i new) old ≡ copy_into at new old
  unfolding copy_into
  copy_all i e = rw (e, take_cut (length old - at) new)

  -- from a place past the end nothing fits
  copy_past : length old ≤ at → copy_into at new old ≡ old
  unfolding copy_into
  copy_past h = let e : length old - at ≡ 0 = omega arith in rw e (fill_none at old)

-- what a program leaves that copies as many as fit into the part of its memory from that place on, or from the end if the place is past it
pub copy_part : {A : Type 0} (at start n : ℕ) (new old copied : List A) → start ≡ min at (length old) → n ≡ min (length new) (length old - start)
    → copied ≡ take n new → put_mid start (start + n - start) old copied ≡ copy_into at new old
unfolding copy_into
copy_part at start n new old copied place many is-copy =
    put_fill start (start + n - start) old copied (ap length is-copy ∙ length-take-le n new (omega arith) ∙ omega arith)
    ∙ rw is-copy (ap (λ (t : List _). fill start t old) (let e : n ≡ min (length old - start) (length new) = omega arith in rw e (take_cut (length old - start) new)))
    ∙ go (nat_le at (length old)) refl
  where
    go : (inside : Bool) → nat_le at (length old) ≡ inside → copy_into start new old ≡ copy_into at new old
    go true e = let same : start ≡ at = omega (arith, leb-true at (length old) e) in rw same
    go false e =
        let past = leb-false at (length old) e in
        copy_past start new old (omega arith) ∙ sym (copy_past at new old (omega arith))

-- into memory of its own length it leaves nothing of what stood there
pub copy_over : {A : Type 0} (new old : List A) → length new ≡ length old → copy_into 0 new old ≡ new
copy_over new old e = copy_whole 0 new old (omega arith) ∙ fill_front new old ∙ rw (drop_of_length-le old (le_of_eq (sym e))) (append-nil new)

-- into zeros, what does not fill them stands before zeros
pub copy_padded : (new : List ℕ) (n : ℕ) → length new ≤ n → (i : ℕ) → i < n → slice_index (copy_into 0 new (replicate n 0)) i ≡ slice_index new i
copy_padded new n fits i l =
    let long = length-replicate {A = ℕ} n 0 in
    ap (λ (t : List ℕ). slice_index t i) (copy_whole 0 new (replicate n 0) (omega (arith, long)) ∙ fill_front new (replicate n 0))
    ∙ go (nat_lt i (length new)) refl
  where
    go : (inside : Bool) → nat_lt i (length new) ≡ inside → slice_index (new ++ drop (length new) (replicate n 0)) i ≡ slice_index new i
    go true e = get_or-append new _ 0 i (ltb-true i (length new) e)
    go false e =
        let past = ltb-false i (length new) e in
        let at : length new + (i - length new) ≡ i = omega arith in
        get_or-append_right new _ i 0 past
        ∙ get_or-drop (length new) (replicate n 0) (i - length new) 0
        ∙ rw at (get_or-replicate n i 0 0 l)
        ∙ sym (get_or-eq_default new 0 past)
