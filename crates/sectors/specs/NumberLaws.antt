-- Laws of `be_at`, at every width. Assumes nothing.
use Rattle.std.specs.Prelude.{◌≡◌, ℕ, zero, suc, ◌+◌, ◌-◌, ◌*◌, ◌^◌, ◌<◌, ◌≤◌, min, Bool, true, false, nat_le, List, length, take, drop, slice_index, refl}
use Rattle.std.proofs.Common.{sym, ap, ◌∙◌, add-zero, add-suc, add_assoc, mul_assoc, pow-suc, arith, le_of_eq, length-drop, take_all, leb-true, leb-false, get_or-drop}
use Rattle.std.proofs.Math.ListN.{get_or-eq_default}
use Rattle.sectors.specs.Fill.{part}
use Rattle.sectors.specs.FillLaws.{part_at}
use Rattle.sectors.specs.Number.{be_at}

-- a number that starts at or past the end is 0
pub be_past : (width : ℕ) (table : List ℕ) (at : ℕ) → length table ≤ at → be_at table at width ≡ 0
unfolding be_at
be_past zero table at h = refl
be_past (suc w) table at h =
    let past_end : length table ≤ at + w = omega arith in
    omega (arith, be_past w table at h, get_or-eq_default table 0 past_end)

-- a number of one byte is the byte
pub be_byte : (table : List ℕ) (at : ℕ) → be_at table at 1 ≡ slice_index table at
unfolding be_at
be_byte table at = simp add-zero (omega arith)

-- what stands from a place on, or from the end if the place is past it
pub rest_at : (table : List ℕ) (at start i : ℕ) → start ≡ min at (length table)
    → slice_index (take (length table - start) (drop start table)) i ≡ slice_index table (at + i)
rest_at table at start i e =
    ap (λ (t : List ℕ). slice_index t i) (take_all (length table - start) (drop start table) (le_of_eq (length-drop start table)))
    ∙ get_or-drop start table i 0
    ∙ go (nat_le at (length table)) refl
  where
    go : (inside : Bool) → nat_le at (length table) ≡ inside → slice_index table (start + i) ≡ slice_index table (at + i)
    go true l = let same : start ≡ at = omega (arith, leb-true at (length table) l) in rw same
    go false l =
        let past = leb-false at (length table) l in
        get_or-eq_default table 0 (omega arith) ∙ sym (get_or-eq_default table 0 (omega arith))

-- a number of w and n bytes is that of the first w, raised by n bytes, and that of the n after them
pub be_split : (w n : ℕ) (table : List ℕ) (at : ℕ) → be_at table at (w + n) ≡ be_at table at w * 256 ^ n + be_at table (at + w) n
unfolding be_at
be_split w zero table at = simp add-zero (omega arith)
be_split w (suc n) table at =
    let e = be_split w n table at in
    simp (add-suc, pow-suc, ← mul_assoc, ← add_assoc) (omega arith)

-- a number of bytes is below 256 to the width
pub be_below : (width : ℕ) (table : List ℕ) (at : ℕ) → ((i : ℕ) → slice_index table i < 256) → be_at table at width < 256 ^ width
unfolding be_at
be_below zero table at bytes = omega arith
be_below (suc w) table at bytes =
    let e = be_below w table at bytes in
    let b = bytes (at + w) in
    simp pow-suc (omega arith)

-- a number is that of its bytes
pub be_ext : (width : ℕ) (s t : List ℕ) (at to : ℕ) → ((i : ℕ) → i < width → slice_index s (at + i) ≡ slice_index t (to + i))
    → be_at s at width ≡ be_at t to width
unfolding be_at
be_ext zero s t at to h = refl
be_ext (suc w) s t at to h = omega (arith, be_ext w s t at to (λ i l. h i (omega arith)), h w (omega arith))

-- a number in a part of a table
pub be_part : (width p n : ℕ) (table : List ℕ) (at : ℕ) → at + width ≤ n → be_at (part p n table) at width ≡ be_at table (p + at) width
be_part width p n table at h =
    be_ext width (part p n table) table at (p + at)
    (λ i q. part_at p n table (at + i) 0 (omega arith) ∙ ap (λ (m : ℕ). slice_index table m) (sym (add_assoc p at i)))
