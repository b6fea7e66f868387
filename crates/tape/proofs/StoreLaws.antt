-- Laws of the tape store: each way undoes the other. Both go by the pieces of one kind, which are `size` bytes of each sector from `offset` on.
-- Assumes nothing.
use Rattle.std.specs.Prelude.{ℕ, ◌+◌, ◌*◌, ◌≤◌, ◌<◌, ◌≡◌, Result, Ok, Err, OnOk, IfErr, length, drop}
use Rattle.std.proofs.Math.Decide.{ℕ_discrete}
use Rattle.std.proofs.Common.{mul-le-mul_left, mul-le-mul_right, ◌∙◌, length-drop}
use native.Mathlib.Omega.{arith}
use Rattle.std.proofs.Math.Path.{refl, sym, ap}
use mathlib.Core.List.{List, [], ◌++◌, append_assoc, append-nil}
use borrow.Author.Tests.{eq-eqb, ne_eqb}
use Rattle.std.proofs.Math.ListN.{length-append}
use Rattle.std.proofs.Math.Seq.{drop_at}
use Rattle.sectors.specs.Audit.{header_format}
use Rattle.sectors.specs.Fill.{part}
use Rattle.sectors.specs.FillLaws.{part_length, part_part}
use Rattle.sectors.specs.Format.{sector_size}
use Rattle.sectors.specs.Sector.{sector_count}
use Rattle.sectors.proofs.SectorLaws.{raw2064_size, count_fits, count_most}
use Rattle.tape.specs.declared.store.UnequalLengths.{UnequalLengths}
use Rattle.tape.specs.Store.{head_size, tail_size, tail_offset, raw_size, sectors_in, blocks, piece_of, head_of, data_of, tail_of, gathered, piece_from, sector_from, scattered, unequal_lengths, refusal_of, lengths_refusal, gather_into, scatter_into, Restores}
use Rattle.tape.proofs.BlockLaws.{part_three, part_then, part_middle, blocks_length, block_at, blocks_same, blocks_part}

-- whole sectors lie in the image
pub whole_sectors : (n bytes : ℕ) → n ≡ sector_count header_format bytes → n * raw_size ≤ bytes
whole_sectors n bytes e = rw raw2064_size at (count_fits header_format bytes n (omega arith))

-- and so does a piece among gathered ones
pub place_inside : (n k bytes : ℕ) → k < n → n * raw_size ≤ bytes → (offset size : ℕ) → offset + size ≤ raw_size
    → n * offset + k * size + size ≤ bytes
place_inside n k bytes more whole offset size inside =
    let below : (k + 1) * size ≤ n * size = mul-le-mul_right size (omega arith) in
    let all : n * (offset + size) ≤ n * raw_size = mul-le-mul_left n inside in
    omega arith

-- "any rest shorter than a sector"
pub rest_short : (x : List ℕ) → length (drop (sectors_in x * raw_size) x) < raw_size
unfolding sectors_in
rest_short x = rw length-drop (omega (arith, rw raw2064_size at (count_most header_format (length x) (rw raw2064_size (omega arith)))))

-- all pieces of a kind, and what is behind them
pieces_then : (n offset size : ℕ) (x : List ℕ) → blocks (piece_from n offset size x) n ++ drop (n * (offset + size)) x ≡ drop (n * offset) x
unfolding piece_from
pieces_then n offset size x =
    let e : n * (offset + size) ≡ n * offset + n * size = omega arith in
    rw (e, blocks_part (n * offset) size x n) (part_then (n * offset) (n * size) x)

-- those of the first kind have nothing before them
pieces_all : (n size : ℕ) (x : List ℕ) → blocks (piece_from n 0 size x) n ++ drop (n * size) x ≡ x
pieces_all n size x = let first : n * 0 ≡ 0 = omega arith in let all : 0 + size ≡ size = omega arith in rw (first, all) at (pieces_then n 0 size x)

-- head, data and tail of a stored sector are all of it
pieces_join : (n : ℕ) (x : List ℕ) (k : ℕ)
    → piece_of 0 head_size x k ++ (piece_of head_size sector_size x k ++ piece_of tail_offset tail_size x k) ≡ piece_from n 0 raw_size x k
unfolding piece_of piece_from
pieces_join n x k =
    let start : k * raw_size + 0 ≡ n * 0 + k * raw_size = omega arith in
    part_three (k * raw_size + 0) (k * raw_size + head_size) (k * raw_size + tail_offset) head_size sector_size tail_size raw_size x (omega arith) (omega arith) (omega arith)
    ∙ ap (λ (p : ℕ). part p raw_size x) start

module _ (n : ℕ) (x : List ℕ) (whole : n * raw_size ≤ length x) where
  -- ---- how long they are

  module _ (offset size : ℕ) (inside : offset + size ≤ raw_size) where
    pub piece_length : (k : ℕ) → k < n → length (piece_of offset size x k) ≡ size
    unfolding piece_of
    piece_length k q = part_length (k * raw_size + offset) size x (omega arith)

    pub pieces_length : length (blocks (piece_of offset size x) n) ≡ n * size
    pieces_length = blocks_length (piece_of offset size x) size n piece_length

    pub from_length : (k : ℕ) → k < n → length (piece_from n offset size x k) ≡ size
    unfolding piece_from
    from_length k q = part_length (n * offset + k * size) size x (place_inside n k (length x) q whole offset size inside)

  pub sector_length : (k : ℕ) → k < n → length (sector_from n x k) ≡ raw_size
  unfolding sector_from
  sector_length k q =
      let h = from_length 0 head_size (omega arith) k q in
      let d = from_length head_size sector_size (omega arith) k q in
      let t = from_length tail_offset tail_size (omega arith) k q in
      simp length-append (omega arith)

  pub sectors_length : length (blocks (sector_from n x) n) ≡ n * raw_size
  sectors_length = blocks_length (sector_from n x) raw_size n sector_length

  abbrev heads : List ℕ
  heads = blocks (piece_of 0 head_size x) n

  abbrev datas : List ℕ
  datas = blocks (piece_of head_size sector_size x) n

  abbrev tails : List ℕ
  tails = blocks (piece_of tail_offset tail_size x) n

  abbrev rest : List ℕ
  rest = drop (n * raw_size) x

  pub heads_length : length heads ≡ n * head_size
  heads_length = pieces_length 0 head_size (omega arith)

  pub both_length : length (heads ++ datas) ≡ n * tail_offset
  both_length = let h = heads_length in let d = pieces_length head_size sector_size (omega arith) in rw length-append (omega arith)

  pub all_length : length (heads ++ datas ++ tails) ≡ n * raw_size
  all_length = let b = both_length in let t = pieces_length tail_offset tail_size (omega arith) in rw length-append (omega arith)

  -- the gathered bytes: the heads first; heads and data; all three, then the rest
  heads_first : gathered n x ≡ heads ++ (datas ++ (tails ++ rest))
  unfolding gathered head_of data_of tail_of
  heads_first = refl

  both_first : gathered n x ≡ heads ++ datas ++ (tails ++ rest)
  both_first = heads_first ∙ sym (append_assoc heads datas (tails ++ rest))

  pub all_first : gathered n x ≡ heads ++ datas ++ tails ++ rest
  all_first = both_first ∙ sym (append_assoc (heads ++ datas) tails rest)

  gathered_length : length (gathered n x) ≡ length x
  gathered_length = let a = all_length in ap length all_first ∙ rw (length-append (heads ++ datas ++ tails) rest, length-drop) (omega arith)

  scattered_length : length (scattered n x) ≡ length x
  unfolding scattered
  scattered_length = let a = sectors_length in simp (length-append, length-drop) (omega arith)

  -- ---- the way back

  -- piece k of a kind, in gathered bytes
  piece_in : (offset size : ℕ) → offset + size ≤ raw_size → (before behind : List ℕ) → length before ≡ n * offset
      → gathered n x ≡ before ++ (blocks (piece_of offset size x) n ++ behind) → (k : ℕ) → k < n
      → piece_from n offset size (gathered n x) k ≡ piece_of offset size x k
  unfolding piece_from
  piece_in offset size inside before behind e stands k q =
      ap (part (n * offset + k * size) size) stands
      ∙ block_at (piece_of offset size x) size before behind (n * offset) n k e (piece_length offset size inside) q

  -- the three are the stored sector
  sector_in : (k : ℕ) → k < n → sector_from n (gathered n x) k ≡ piece_from n 0 raw_size x k
  unfolding sector_from
  sector_in k q =
      let h = piece_in 0 head_size (omega arith) [] (datas ++ (tails ++ rest)) (omega arith) heads_first k q in
      let d = piece_in head_size sector_size (omega arith) heads (tails ++ rest) heads_length heads_first k q in
      let t = piece_in tail_offset tail_size (omega arith) (heads ++ datas) rest both_length both_first k q in
      (λ i. h i ++ (d i ++ t i)) ∙ pieces_join n x k

  -- "The way back restores each image of any length byte for byte."
  pub scatter_gathered : scattered n (gathered n x) ≡ x
  unfolding scattered
  scatter_gathered =
      let s = blocks_same (sector_from n (gathered n x)) (piece_from n 0 raw_size x) n sector_in in
      let r = ap (drop (n * raw_size)) all_first ∙ drop_at (heads ++ datas ++ tails) rest (n * raw_size) all_length in
      (λ i. s i ++ r i) ∙ pieces_all n raw_size x

  -- ---- and forth

  -- a piece of a kind, in scattered bytes
  piece_out : (offset size : ℕ) → offset + size ≤ raw_size → (k : ℕ) → k < n → (before behind : List ℕ) → length before ≡ offset
      → sector_from n x k ≡ before ++ (piece_from n offset size x k ++ behind)
      → piece_of offset size (scattered n x) k ≡ piece_from n offset size x k
  unfolding piece_of scattered
  piece_out offset size inside k q before behind e stands =
      let long = scattered_length in
      let here : k * raw_size ≡ 0 + k * raw_size = omega arith in
      sym (part_part (k * raw_size) raw_size offset size (scattered n x) inside (omega arith))
      ∙ ap (part offset size)
      (ap (λ (p : ℕ). part p raw_size (scattered n x)) here
      ∙ block_at (sector_from n x) raw_size [] rest 0 n k refl sector_length q
      ∙ stands)
      ∙ part_middle before (piece_from n offset size x k) behind offset size e (from_length offset size inside k q)

  -- the tail, behind the other two
  tail_out : (k : ℕ) → k < n → piece_of tail_offset tail_size (scattered n x) k ≡ piece_from n tail_offset tail_size x k
  unfolding sector_from
  tail_out k q =
      let h = piece_from n 0 head_size x k in let d = piece_from n head_size sector_size x k in let t = piece_from n tail_offset tail_size x k in
      let h-long = from_length 0 head_size (omega arith) k q in let d-long = from_length head_size sector_size (omega arith) k q in
      piece_out tail_offset tail_size (omega arith) k q (h ++ d) [] (rw length-append (omega arith))
      (sym (append_assoc h d t) ∙ ap (λ (l : List ℕ). h ++ d ++ l) (sym (append-nil t)))

  rest_out : drop (n * raw_size) (scattered n x) ≡ rest
  unfolding scattered
  rest_out = drop_at (blocks (sector_from n x) n) rest (n * raw_size) sectors_length

  -- so no two images are gathered alike, and all bytes are some image's
  pub gather_scattered : gathered n (scattered n x) ≡ x
  unfolding gathered head_of data_of tail_of sector_from
  gather_scattered =
      let head = piece_from n 0 head_size x in let y = scattered n x in
      let h = blocks_same (piece_of 0 head_size y) head n (λ k q. piece_out 0 head_size (omega arith) k q [] _ refl refl) in
      let d = blocks_same (piece_of head_size sector_size y) (piece_from n head_size sector_size x) n
      (λ k q. piece_out head_size sector_size (omega arith) k q (head k) _ (from_length 0 head_size (omega arith) k q) refl) in
      let t = blocks_same (piece_of tail_offset tail_size y) (piece_from n tail_offset tail_size x) n tail_out in
      (λ i. h i ++ (d i ++ (t i ++ rest_out i)))
      ∙ rw (pieces_then n tail_offset tail_size x, pieces_then n head_size sector_size x) (pieces_all n head_size x)

-- ---- a call and the other

module _ (x old old' : List ℕ) (same : length x ≡ length old) (same' : length x ≡ length old') where
  whole : sectors_in x * raw_size ≤ length x
  unfolding sectors_in
  whole = whole_sectors (sectors_in x) (length x) refl

  -- "The way back restores each image of any length byte for byte."
  pub way_back : scatter_into (gather_into x old) old' ≡ x
  unfolding gather_into scatter_into sectors_in
  way_back =
      let n = sectors_in x in let e = gathered_length n x whole in
      rw (eq-eqb (length x) (length old) same, eq-eqb (length (gathered n x)) (length old') (e ∙ same'))
      (ap (λ (m : ℕ). scattered (sector_count header_format m) (gathered n x)) e ∙ scatter_gathered n x whole)

  -- and the other order
  pub way_forth : gather_into (scatter_into x old) old' ≡ x
  unfolding gather_into scatter_into sectors_in
  way_forth =
      let n = sectors_in x in let e = scattered_length n x whole in
      rw (eq-eqb (length x) (length old) same, eq-eqb (length (scattered n x)) (length old') (e ∙ same'))
      (ap (λ (m : ℕ). gathered (sector_count header_format m) (scattered n x)) e ∙ gather_scattered n x whole)

-- ---- the number of an answer

-- an answer is known by it
pub refusal_tells : (a b : Result (Unit {0}) UnequalLengths) → refusal_of a ≡ refusal_of b → a ≡ b
unfolding refusal_of
refusal_tells (Ok x) (Ok y) e = refl
refusal_tells (Ok x) (Err s) e = absurd (omega arith)
refusal_tells (Err r) (Ok y) e = absurd (omega arith)
refusal_tells (Err r) (Err s) e = refl

-- it is 0, or the refusal's number
pub number_is : (answer : Result (Unit {0}) UnequalLengths) (number : ℕ) → OnOk answer (number ≡ 0) → IfErr answer (λ refusal. number ≡ unequal_lengths)
    → number ≡ refusal_of answer
unfolding refusal_of
number_is (Ok value) number none refused = none
number_is (Err refusal) number none refused = refused

pub none_refused : (answer : Result (Unit {0}) UnequalLengths) (number : ℕ) → number ≡ refusal_of answer → number ≡ 0 → answer ≡ Ok tt
unfolding refusal_of
none_refused answer number is none = refusal_tells answer (Ok tt) (sym is ∙ none)

-- no refusal: the lengths are equal
equal_lengths : (a b : ℕ) → 0 ≡ lengths_refusal a b → a ≡ b
unfolding lengths_refusal
equal_lengths a b e = go (ℕ_discrete a b)
  where
    go : Dec (a ≡ b) → a ≡ b
    go (yes same) = same
    go (no differ) = absurd (let f = rw (ne_eqb a b differ) at e in omega arith)

-- so with no refusal the other call restores what was read
module _ (x old written : List ℕ) (answer : Result (Unit {0}) UnequalLengths) (refused : refusal_of answer ≡ lengths_refusal (length x) (length old))
    (none : answer ≡ Ok tt) where
  same_lengths : length x ≡ length old
  unfolding refusal_of
  same_lengths = equal_lengths (length x) (length old) (ap refusal_of (sym none) ∙ refused)

  pub gather_restored : written ≡ gather_into x old → Restores scatter_into x written
  unfolding Restores
  gather_restored is old' same = rw is (way_back x old old' same_lengths same)

  pub scatter_restored : written ≡ scatter_into x old → Restores gather_into x written
  unfolding Restores
  scatter_restored is old' same = rw is (way_forth x old old' same_lengths same)
