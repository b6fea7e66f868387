-- Fills of lent memory: of parts that do not touch, which may be made in any order, and of parts one behind the other, which are one. Assumes nothing.
use Prim.Native.Nat.{ℕ, ◌+◌, ◌-◌, ◌≤◌}
use native.Mathlib.Omega.{arith}
use borrow.Rule.Slice.PartMut.{put_mid}
use mathlib.Core.Path.{◌≡◌, refl, sym, ap, ap₂, ◌∙◌}
use mathlib.Core.List.{List, ◌++◌}
use lib.ListN.{length, take, drop, length-append}
use Rattle.sectors.specs.Fill.{part, fill, copy_into}
use Rattle.sectors.specs.FillLaws.{slice_part, part_length, part_all, put_fill, length_fill, part_filled, part_before, part_after, fill_more}
use Rattle.sectors.specs.CopyLaws.{copy_whole, copy_over}
use Rattle.tape.proofs.BlockLaws.{part_add, part_three}

-- what a copy from a place to a place leaves
pub copied : (at place size : ℕ) (from to last : List ℕ) → at + size ≤ length from → place + size ≤ length to
    → last ≡ copy_into 0 (take (at + size - at) (drop at from)) (take (place + size - place) (drop place to))
    → put_mid place (place + size - place) to last ≡ fill place (part at size from) to
copied at place size from to last fits room e =
    let size_is : place + size - place ≡ size = omega arith in
    let long = part_length at size from fits in
    let is : last ≡ part at size from =
    e ∙ ap₂ (copy_into 0) (slice_part at size from) (slice_part place size to) ∙ copy_over _ _ (long ∙ sym (part_length place size to room)) in
    put_fill place (place + size - place) to last (ap length is ∙ long ∙ sym size_is) ∙ ap (λ (l : List ℕ). fill place l to) is

-- ---- fills that do not touch

-- a fill right behind a part makes it longer
part_grown : (at m place all : ℕ) (front new old : List ℕ) → place ≡ at + m → all ≡ m + length new → place + length new ≤ length old
    → part at m old ≡ front → part at all (fill place new old) ≡ front ++ new
part_grown at m place all front new old behind longer room is =
    ap (λ (n : ℕ). part at n (fill place new old)) longer
    ∙ sym (part_add at m (length new) (fill place new old))
    ∙ ap₂ (λ (a b : List ℕ). a ++ b) (part_before place new old room at m (omega arith) ∙ is)
    (ap (λ (p : ℕ). part p (length new) (fill place new old)) (sym behind) ∙ part_filled place new old room)

module _ (l x y : List ℕ) (q p : ℕ) (apart : q + length x ≤ p) (room : p + length y ≤ length l) where
  -- where x ends; how many stand between it and y, and behind y
  abbrev x_end : ℕ
  x_end = q + length x

  abbrev between : ℕ
  between = p - x_end

  abbrev behind : ℕ
  behind = length l - (p + length y)

  three_parts : (z : List ℕ) → length z ≡ length l → part 0 x_end z ++ (part x_end (between + length y) z ++ part (p + length y) behind z) ≡ z
  three_parts z long =
      part_three 0 x_end (p + length y) x_end (between + length y) behind (length l) z (omega arith) (omega arith) (omega arith)
      ∙ part_all (length l) z (omega arith)

  pub fill_swap : fill p y (fill q x l) ≡ fill q x (fill p y l)
  fill_swap =
      let X = fill q x l in let Y = fill p y l in
      let long-x = length_fill q x l (omega arith) in let long-y = length_fill p y l room in
      let long-xy = length_fill p y X (omega arith) in let long-yx = length_fill q x Y (omega arith) in
      let to_x : part 0 x_end (fill p y X) ≡ part 0 x_end (fill q x Y) =
      part_before p y X (omega arith) 0 x_end (omega arith)
      ∙ part_grown 0 q q x_end (part 0 q l) x l (omega arith) (omega arith) (omega arith) refl
      ∙ sym (part_grown 0 q q x_end (part 0 q l) x Y (omega arith) (omega arith) (omega arith) (part_before p y l room 0 q (omega arith))) in
      let to_y : part x_end (between + length y) (fill p y X) ≡ part x_end (between + length y) (fill q x Y) =
      part_grown x_end between p (between + length y) (part x_end between l) y X (omega arith) refl (omega arith)
      (part_after q x l (omega arith) x_end between (omega arith))
      ∙ sym (part_after q x Y (omega arith) x_end (between + length y) (omega arith)
      ∙ part_grown x_end between p (between + length y) (part x_end between l) y l (omega arith) refl room refl) in
      let after_y : part (p + length y) behind (fill p y X) ≡ part (p + length y) behind (fill q x Y) =
      part_after p y X (omega arith) (p + length y) behind (omega arith)
      ∙ part_after q x l (omega arith) (p + length y) behind (omega arith)
      ∙ sym (part_after q x Y (omega arith) (p + length y) behind (omega arith) ∙ part_after p y l room (p + length y) behind (omega arith)) in
      sym (three_parts (fill p y X) (omega arith)) ∙ (λ i. to_x i ++ (to_y i ++ after_y i)) ∙ three_parts (fill q x Y) (omega arith)

-- three fills of parts that do not touch, each with more behind it
module _ (H h D d T t old : List ℕ) (a b : ℕ)
    (low : length H + length h ≤ a) (mid : a + (length D + length d) ≤ b) (high : b + (length T + length t) ≤ length old) where
  abbrev Z : List ℕ
  Z = fill 0 (H ++ h) old

  pub three_more : fill (b + length T) t (fill (a + length D) d (fill (0 + length H) h (fill b T (fill a D (fill 0 H old)))))
      ≡ fill b (T ++ t) (fill a (D ++ d) (fill 0 (H ++ h) old))
  three_more =
      let nh = length-append H h in let nd = length-append D d in
      let l0 = length_fill 0 H old (omega arith) in let l1 = length_fill a D (fill 0 H old) (omega arith) in
      let lz = length_fill 0 (H ++ h) old (omega arith) in let l2 = length_fill a D Z (omega arith) in let l3 = length_fill a (D ++ d) Z (omega arith) in
      ap (λ (l : List ℕ). fill (b + length T) t (fill (a + length D) d l))
      (sym (fill_swap (fill a D (fill 0 H old)) h T (0 + length H) b (omega arith) (omega arith))
      ∙ ap (fill b T)
      (sym (fill_swap (fill 0 H old) h D (0 + length H) a (omega arith) (omega arith)) ∙ ap (fill a D) (fill_more 0 H old (omega arith) h (omega arith))))
      ∙ ap (fill (b + length T) t)
      (sym (fill_swap (fill a D Z) d T (a + length D) b (omega arith) (omega arith)) ∙ ap (fill b T) (fill_more a D Z (omega arith) d (omega arith)))
      ∙ fill_more b T (fill a (D ++ d) Z) (omega arith) t (omega arith)

-- ---- fills one behind the other, from the start on

pub fill_next : (at : ℕ) (front new old : List ℕ) → at ≡ length front → length front + length new ≤ length old
    → fill at new (fill 0 front old) ≡ fill 0 (front ++ new) old
fill_next at front new old e room =
    let from : at ≡ 0 + length front = omega arith in
    ap (λ (p : ℕ). fill p new (fill 0 front old)) from ∙ fill_more 0 front old (omega arith) new (omega arith)

-- and of all
pub fill_over : (new old : List ℕ) → length new ≡ length old → fill 0 new old ≡ new
fill_over new old e = sym (copy_whole 0 new old (omega arith)) ∙ copy_over new old e
