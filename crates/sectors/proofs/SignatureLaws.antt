-- Laws of signatures: what a cut table has, and a part of a table. Assumes nothing.
use Rattle.std.specs.Prelude.{◌≡◌, ℕ, ◌+◌, ◌-◌, ◌<◌, ◌≤◌, Bool, true, false, List, length, take, drop, ◌≢◌, refl}
use Rattle.std.specs.List.{slice_range}
use Rattle.std.specs.Str.{bytes_eq}
use Rattle.std.proofs.Common.{arith, sym, ap, ◌∙◌, length-take, length-drop, le_of_eq, take_all}
use Rattle.sectors.specs.Bytes.{same}
use Rattle.sectors.specs.BytesLaws.{same_eq, same_refl, same_turned}
use Rattle.sectors.specs.Fill.{part}
use Rattle.sectors.specs.FillLaws.{part_part}
use Rattle.sectors.specs.Signature.{signed_at}

-- a signature that the table ends before is not there
pub signed_cut : (table : List ℕ) (at : ℕ) (signature : List ℕ) → 0 < length signature → length table < at + length signature
    → signed_at table at signature ≡ false
unfolding signed_at part
signed_cut table at signature some short = go (same (part at (length signature) table) signature) refl
  where
    go : (t : Bool) → same (part at (length signature) table) signature ≡ t → t ≡ false
    go false q = refl
    go true q =
        let n = simp (length-take, length-drop) at (ap length (same_eq (part at (length signature) table) signature q)) in
        absurd (omega arith)

-- one that what stands from a place on begins with
pub signed_begun : (table : List ℕ) (at : ℕ) (signature rest : List ℕ) → rest ≡ slice_range table at (length table)
    → bytes_eq signature (take (length signature) rest) ≡ signed_at table at signature
unfolding signed_at same part
signed_begun table at signature rest e =
    let all : rest ≡ drop at table = e ∙ take_all (length table - at) (drop at table) (le_of_eq (length-drop at table)) in
    rw all (same_turned signature (take (length signature) (drop at table)))

-- a signature in a part of a table
pub signed_part : (p n : ℕ) (table : List ℕ) (at : ℕ) (signature : List ℕ) → at + length signature ≤ n → p + n ≤ length table
    → signed_at (part p n table) at signature ≡ signed_at table (p + at) signature
unfolding signed_at
signed_part p n table at signature inside fits = ap (λ (s : List ℕ). same s signature) (part_part p n at (length signature) table inside fits)

-- a signature whose bytes stand there is there
pub signed_here : (table : List ℕ) (at : ℕ) (signature : List ℕ) → part at (length signature) table ≡ signature → signed_at table at signature ≡ true
unfolding signed_at
signed_here table at signature e = rw e (same_refl signature)

-- and only then
pub signed_is : (table : List ℕ) (at : ℕ) (signature : List ℕ) → signed_at table at signature ≡ true → part at (length signature) table ≡ signature
unfolding signed_at
signed_is table at signature e = same_eq (part at (length signature) table) signature e

-- where one signature is, no other of its length is
pub signed_other : (table : List ℕ) (at : ℕ) (signature other : List ℕ) → signed_at table at signature ≡ true → length other ≡ length signature
    → (signature ≢ other) → signed_at table at other ≡ false
unfolding signed_at
signed_other table at signature other here long differ = go (same (part at (length other) table) other) refl
  where
    go : (t : Bool) → same (part at (length other) table) other ≡ t → t ≡ false
    go false q = refl
    go true q =
        absurd (differ (sym (same_eq (part at (length signature) table) signature here)
        ∙ ap (λ (n : ℕ). part at n table) (sym long)
        ∙ same_eq (part at (length other) table) other q))
