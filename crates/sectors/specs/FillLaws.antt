-- Laws of lent memory: what a part of it is, and what stands in a part after a fill. Assumes nothing.
use Rattle.std.specs.Prelude.{◌≡◌, ℕ, zero, suc, ◌+◌, ◌-◌, ◌<◌, ◌≤◌, min, Bool, true, false, List, [], ◌∷◌, ◌++◌, length, take, drop, nat_lt, slice_index_or, slice_set, refl}
use native.Mathlib.Omega.{arith}
use Rattle.std.proofs.Common.{add-zero, zero-add, add_comm, ◌∙◌, subst, ltb-true, ltb-false, length-take, drop_of_length-le, length-take-le}
use Rattle.std.proofs.Math.Path.{sym, ap}
use mathlib.Core.List.{append_assoc}
use borrow.Rule.Slice.PartMut.{put_mid}
use Rattle.std.proofs.Math.ListN.{length-append, length-drop, take-append-drop, get_or-eq_default}
use Rattle.std.proofs.lemmas.List.Edits.{sets}
use Rattle.std.proofs.Math.Seq.{sets-eq, take_all, take-nil, drop-nil, take-take, drop-append-add, take-append_seam, drop-drop, drop-cons, set_at, take_at, drop_at, get_or-take, get_or-drop}
use Rattle.std.proofs.lemmas.List.{take-append-le, drop-append-le}
use Rattle.sectors.specs.Fill.{part, fill, start_at}

-- where `&l[at..]` begins, of bytes
pub slice_start : (whole : ℕ × ℕ) (at : ℕ) → ◌≡◌ {A = ℕ × ℕ} (whole.0, at + whole.1) (start_at whole at)
unfolding start_at
slice_start whole at = λ i. (whole.0, add_comm at whole.1 i)

-- a part at the start begins where the whole does
pub start_whole : (whole : ℕ × ℕ) → start_at whole 0 ≡ whole
unfolding start_at
start_whole whole = λ i. (whole.0, add-zero whole.1 i)

module _ {A : Type 0} where
  -- what a program lends as `&l[at..at + n]`
  pub slice_part : (at n : ℕ) (l : List A) → take (at + n - at) (drop at l) ≡ part at n l
  unfolding part
  slice_part at n l = let e : at + n - at ≡ n = omega arith in rw e

  -- what a call leaves of `&mut l[at..at + n]`
  pub put_fill : (at n : ℕ) (old new : List A) → length new ≡ n → put_mid at n old new ≡ fill at new old
  unfolding fill
  put_fill at n old new e = rw (drop-drop n at old, ← e)

  -- how long a part is
  pub part_size : (at n : ℕ) (l : List A) → length (part at n l) ≡ min n (length l - at)
  unfolding part
  part_size at n l = rw (length-take n (drop at l), length-drop at l)

  -- a part inside is as long as asked
  pub part_length : (at n : ℕ) (l : List A) → at + n ≤ length l → length (part at n l) ≡ n
  part_length at n l h = omega (arith, part_size at n l)

  -- a part that reaches from the start past the end is the whole
  pub part_all : (n : ℕ) (l : List A) → length l ≤ n → part 0 n l ≡ l
  unfolding part
  part_all n l h = take_all n l h

  pub part_at : (at n : ℕ) (l : List A) (i : ℕ) (d : A) → i < n → slice_index_or (part at n l) i d ≡ slice_index_or l (at + i) d
  unfolding part
  part_at at n l i d q = get_or-take n (drop at l) i d q ∙ get_or-drop at l i d

  -- what holds of each element, and of what is given past the end, holds of those of a part
  pub part_all_hold : (P : A → Type 0) (at n : ℕ) (l : List A) (d : A) → ((i : ℕ) → P (slice_index_or l i d)) → (i : ℕ) → P (slice_index_or (part at n l) i d)
  part_all_hold P at n l d holds i = go (nat_lt i n) refl
    where
      go : (inside : Bool) → nat_lt i n ≡ inside → P (slice_index_or (part at n l) i d)
      go true e = rw (part_at at n l i d (ltb-true i n e)) (holds (at + i))
      go false e =
          let past : length (part at n l) ≤ i = omega (arith, part_size at n l, ltb-false i n e) in
          rw (get_or-eq_default (part at n l) d past) (subst P (get_or-eq_default l d {n = length l} (omega arith)) (holds (length l)))

  -- at or past the end there is no part
  pub part_past : (at n : ℕ) (l : List A) → length l ≤ at → part at n l ≡ []
  unfolding part
  part_past at n l h = rw (drop_of_length-le l h) (take-nil n)

  -- of a list, no more elements than there are
  pub take_cut : (n : ℕ) (l : List A) → take (min n (length l)) l ≡ take n l
  take_cut zero l = let e : min 0 (length l) ≡ 0 = omega arith in rw e
  take_cut (suc n) [] = take-nil (min (suc n) 0)
  take_cut (suc n) (x ∷ xs) = let e : min (suc n) (suc (length xs)) ≡ suc (min n (length xs)) = omega arith in rw (e, take_cut n xs)

  -- a part that runs past the end is what stands before it
  pub part_cut : (at n : ℕ) (l : List A) → part at (min n (length l - at)) l ≡ part at n l
  unfolding part
  part_cut at n l = rw (← length-drop at l) (take_cut n (drop at l))

  -- and one that begins past the end is one that begins there
  pub part_from : (at n : ℕ) (l : List A) → part (min at (length l)) n l ≡ part at n l
  unfolding part
  part_from at n l = ap (λ (r : List A). take n r) (drop_min at l)
    where
      drop_min : (n : ℕ) (l : List A) → drop (min n (length l)) l ≡ drop n l
      drop_min zero l = let e : min 0 (length l) ≡ 0 = omega arith in rw e
      drop_min (suc n) [] = drop-nil (min (suc n) 0)
      drop_min (suc n) (x ∷ xs) = let e : min (suc n) (suc (length xs)) ≡ suc (min n (length xs)) = omega arith in rw (e, drop_min n xs)

  -- the front of a part
  pub take_part : (at m n : ℕ) (l : List A) → m ≤ n → take m (part at n l) ≡ part at m l
  unfolding part
  take_part at m n l h = take-take m n (drop at l) h

  -- a part of the first of two lists
  pub part_front : (x y : List A) (at n : ℕ) → at + n ≤ length x → part at n (x ++ y) ≡ part at n x
  unfolding part
  part_front x y at n h =
      rw (drop-append-le at x y (omega arith)) (take-append-le n (drop at x) y (rw length-drop (omega arith)))

  part_rest : (at n : ℕ) (l : List A) → part at n l ++ drop n (drop at l) ≡ drop at l
  unfolding part
  part_rest at n l = take-append-drop n (drop at l)

  part_drop : (a b n : ℕ) (l : List A) → part b n (drop a l) ≡ part (a + b) n l
  unfolding part
  part_drop a b n l = rw (drop-drop b a l)

  -- a part of a part
  pub part_part : (a m b n : ℕ) (l : List A) → b + n ≤ m → a + m ≤ length l → part b n (part a m l) ≡ part (a + b) n l
  part_part a m b n l h k =
      let size = part_length a m l k in
      let whole : part a m l ++ drop m (drop a l) ≡ drop a l = part_rest a m l in
      sym (part_front (part a m l) (drop m (drop a l)) b n (omega arith)) ∙ ap (part b n) whole ∙ part_drop a b n l

  -- nothing fills nothing
  pub fill_none : (at : ℕ) (old : List A) → fill at [] old ≡ old
  unfolding fill
  fill_none at old = simp (add-zero, take-append-drop)

  -- a fill at the start stands before what is left
  pub fill_front : (new old : List A) → fill 0 new old ≡ new ++ drop (length new) old
  unfolding fill
  fill_front new old = rw (zero-add (length new))

  -- elements stored one after another fill their places
  pub sets_fill : (at : ℕ) (new old : List A) → at + length new ≤ length old → sets old at new ≡ fill at new old
  unfolding fill
  sets_fill at new old h = sets-eq new old at h ∙ append_assoc (take at old) new (drop (at + length new) old)

  module _ (at : ℕ) (new old : List A) (fits : at + length new ≤ length old) where
    front_length : length (take at old) ≡ at
    front_length = length-take-le at old (omega arith)

    pub length_fill : length (fill at new old) ≡ length old
    unfolding fill
    length_fill =
        let f = front_length in
        simp (length-append, length-drop) (omega arith)

    -- what fills it stands there
    pub part_filled : part at (length new) (fill at new old) ≡ new
    unfolding fill part
    part_filled =
        ap (λ (r : List A). take (length new) r) (drop_at (take at old) (new ++ drop (at + length new) old) at front_length)
        ∙ take-append_seam new (drop (at + length new) old)

    -- what stands before is unchanged
    pub part_before : (from n : ℕ) → from + n ≤ at → part from n (fill at new old) ≡ part from n old
    unfolding fill
    part_before from n h =
        let f = front_length in
        part_front (take at old) (new ++ drop (at + length new) old) from n (omega arith)
        ∙ sym (part_front (take at old) (drop at old) from n (omega arith))
        ∙ ap (part from n) (take-append-drop at old)

    -- what stands behind is unchanged
    pub part_after : (from n : ℕ) → at + length new ≤ from → part from n (fill at new old) ≡ part from n old
    unfolding fill part
    part_after from n h = ap (λ (r : List A). take n r) whole
      where
        k : ℕ
        k = from - (at + length new)

        long : length (take at old ++ new) ≡ at + length new
        long = rw (length-append, front_length)

        there : from ≡ at + length new + k
        there = omega arith

        whole : drop from (take at old ++ (new ++ drop (at + length new) old)) ≡ drop from old
        whole =
            ap (drop from) (sym (append_assoc (take at old) new (drop (at + length new) old)))
            ∙ ap (λ (m : ℕ). drop m (take at old ++ new ++ drop (at + length new) old)) (there ∙ ap (λ (m : ℕ). m + k) (sym long))
            ∙ drop-append-add (take at old ++ new) (drop (at + length new) old) k
            ∙ drop-drop k (at + length new) old
            ∙ ap (λ (m : ℕ). drop m old) (sym there)

    -- a fill right behind another is one fill of both
    pub fill_more : (next : List A) → at + length new + length next ≤ length old
        → fill (at + length new) next (fill at new old) ≡ fill at (new ++ next) old
    unfolding fill
    fill_more next room =
        let head : length (take at old ++ new) ≡ at + length new = rw (length-append, front_length) in
        let end : at + length new + length next ≡ at + length (new ++ next) = rw length-append (omega arith) in
        let back : drop (length next) (drop (at + length new) old) ≡ drop (at + length (new ++ next)) old =
        drop-drop (length next) (at + length new) old ∙ ap (λ (m : ℕ). drop m old) end in
        rw (
          ← append_assoc (take at old) new (drop (at + length new) old),
          take_at (take at old ++ new) (drop (at + length new) old) (at + length new) head,
          ← drop-drop (length next) (at + length new) (take at old ++ new ++ drop (at + length new) old),
          drop_at (take at old ++ new) (drop (at + length new) old) (at + length new) head,
          back,
        ) (simp append_assoc)

    -- and so is one element stored right behind it
    pub fill_one : (x : A) → at + length new < length old → slice_set (fill at new old) (at + length new) x ≡ fill at (new ++ (x ∷ [])) old
    unfolding fill
    fill_one x room =
        let head : length (take at old ++ new) ≡ at + length new = rw (length-append, front_length) in
        let end : at + length (new ++ (x ∷ [])) ≡ suc (at + length new) = rw length-append (omega arith) in
        rw (
          ← append_assoc (take at old) new (drop (at + length new) old),
          drop-cons old (at + length new) x,
          set_at (take at old ++ new) (slice_index_or old (at + length new) x) (drop (suc (at + length new)) old) x (at + length new) head,
          end,
        ) (simp append_assoc)
