-- Laws of parts of a list, and of lists of one size one after another. Assumes nothing.
use Prim.Native.Nat.{ℕ, zero, suc, ◌+◌, ◌*◌, ◌-◌, ◌<◌}
use Rattle.std.proofs.Math.Decide.{ℕ_discrete}
use Rattle.std.proofs.Common.{zero-mul, arith, ap, ap₂, ◌∙◌, length-drop, take-append-drop, take-add, take_all, drop-drop, take_at, drop_at}
use Rattle.std.specs.Prelude.{◌≡◌, refl, take, drop}
use Rattle.std.proofs.Math.Path.{sym}
use mathlib.Core.List.{List, ◌++◌, append_assoc}
use Rattle.std.proofs.Math.ListN.{length, length-append}
use Rattle.sectors.specs.Fill.{part}
use Rattle.sectors.specs.FillLaws.{slice_part}
use Rattle.tape.specs.Store.{blocks}

part_is : (at n : ℕ) (l : List ℕ) → part at n l ≡ take n (drop at l)
part_is at n l = let e : at + n - at ≡ n = omega arith in rw e at (sym (slice_part at n l))

-- two parts one behind the other are one
pub part_add : (at m n : ℕ) (l : List ℕ) → part at m l ++ part (at + m) n l ≡ part at (m + n) l
part_add at m n l = rw (part_is at m l, part_is (at + m) n l, part_is at (m + n) l, take-add m n (drop at l), drop-drop m at l)

-- and so are three
pub part_three : (p q r a b c all : ℕ) (l : List ℕ) → q ≡ p + a → r ≡ q + b → a + (b + c) ≡ all
    → part p a l ++ (part q b l ++ part r c l) ≡ part p all l
part_three p q r a b c all l second third long = rw (third, part_add q b c l, second, part_add p a (b + c) l, long)

-- a part, and what is behind it
pub part_then : (at n : ℕ) (l : List ℕ) → part at n l ++ drop (at + n) l ≡ drop at l
part_then at n l = rw (part_is at n l, ← drop-drop n at l) (take-append-drop n (drop at l))

-- the part to the end
pub part_end : (at : ℕ) (l : List ℕ) → part at (length l - at) l ≡ drop at l
part_end at l = part_is at (length l - at) l ∙ take_all (length l - at) (drop at l) (rw length-drop (omega arith))

-- the second of three lists is a part of all
pub part_middle : (a b c : List ℕ) (at n : ℕ) → length a ≡ at → length b ≡ n → part at n (a ++ (b ++ c)) ≡ b
part_middle a b c at n e f = part_is at n (a ++ (b ++ c)) ∙ ap (take n) (drop_at a (b ++ c) at e) ∙ take_at b c n f

module _ (f : ℕ → List ℕ) (size : ℕ) where
  pub blocks_length : (n : ℕ) → ((k : ℕ) → k < n → length (f k) ≡ size) → length (blocks f n) ≡ n * size
  unfolding blocks
  blocks_length zero sized = sym (zero-mul size)
  blocks_length (suc n) sized =
      let e = blocks_length n (λ k q. sized k (omega arith)) in
      let p = sized n (omega arith) in
      rw length-append (omega arith)

  -- block k of them, whatever stands before and behind them
  pub block_at : (before rest : List ℕ) (at n k : ℕ) → length before ≡ at → ((j : ℕ) → j < n → length (f j) ≡ size) → k < n
      → part (at + k * size) size (before ++ (blocks f n ++ rest)) ≡ f k
  unfolding blocks
  block_at before rest at zero k e sized q = absurd (omega arith)
  block_at before rest at (suc n) k e sized q =
      let sized_before : (j : ℕ) → j < n → length (f j) ≡ size = λ j r. sized j (omega arith) in
      rw (append_assoc (blocks f n) (f n) rest) (go (ℕ_discrete k n) (blocks_length n sized_before) (block_at before (f n ++ rest) at n k e sized_before))
    where
      go : Dec (k ≡ n) → length (blocks f n) ≡ n * size → (k < n → part (at + k * size) size (before ++ (blocks f n ++ (f n ++ rest))) ≡ f k)
          → part (at + k * size) size (before ++ (blocks f n ++ (f n ++ rest))) ≡ f k
      go (yes is) long earlier =
          rw (is, ← append_assoc before (blocks f n) (f n ++ rest))
          (part_middle (before ++ blocks f n) (f n) rest (at + n * size) size (rw length-append (omega arith)) (sized n (omega arith)))
      go (no differ) long earlier = earlier (omega arith)

pub blocks_same : (f g : ℕ → List ℕ) (n : ℕ) → ((k : ℕ) → k < n → f k ≡ g k) → blocks f n ≡ blocks g n
unfolding blocks
blocks_same f g zero same = refl
blocks_same f g (suc n) same = ap₂ (λ (a b : List ℕ). a ++ b) (blocks_same f g n (λ k q. same k (omega arith))) (same n (omega arith))

-- parts that stand one behind another are one part
pub blocks_part : (at size : ℕ) (l : List ℕ) (n : ℕ) → blocks (λ k. part (at + k * size) size l) n ≡ part at (n * size) l
unfolding blocks
blocks_part at size l zero = rw (zero-mul size, part_is at 0 l)
blocks_part at size l (suc n) =
    let e : n * size + size ≡ suc n * size = omega arith in
    rw (blocks_part at size l n, part_add at (n * size) size l, e)
