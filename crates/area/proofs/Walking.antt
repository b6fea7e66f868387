-- The walk over a table's sub-structures, turn by turn: what is left of it leads to the table's chain. Assumes nothing.
use Rattle.std.specs.Prelude.{◌≡◌, refl, ℕ, zero, suc, ◌+◌, ◌*◌, ◌/◌, ◌≤◌, ◌<◌, Bool, true, false, List, length, leb, Some, None}
use Rattle.std.proofs.Common.{sym, ap, ◌∙◌, arith}
use borrow.Author.Tests.{le-leb, leb-true, leb-false}
use Rattle.sectors.specs.Format.{sector_size}
use Rattle.sectors.proofs.SignatureLaws.{signed_cut}
use Rattle.area.specs.TestLaws.{cond_same}
use Rattle.area.specs.Chain.{track_text_signature, isrc_genre_signature, access_signature, track_list1_signature, track_list2_signature, structure_at, sectors_of, noted, walk_from, nothing_kept, chain_of}
use Rattle.area.specs.declared.chain.Chain.{Chain}
use Rattle.area.specs.declared.chain.Structure.{Structure}
use Rattle.area.specs.declared.chain.Structure.TheVariants.{TrackText, IsrcGenre, Access, TrackList1, TrackList2}

-- a structure has a sector, and at most 32
pub sectors_some : (s : Structure) → (1 ≤ sectors_of s) × (sectors_of s ≤ 32)
unfolding sectors_of
sectors_some TrackText = (omega arith, omega arith)
sectors_some IsrcGenre = (omega arith, omega arith)
sectors_some Access = (omega arith, omega arith)
sectors_some TrackList1 = (omega arith, omega arith)
sectors_some TrackList2 = (omega arith, omega arith)

-- where fewer than eight bytes stand no structure begins
structure_cut : (table : List ℕ) (at : ℕ) → length table < at + 8 → structure_at table at ≡ None
unfolding structure_at
structure_cut table at short =
    rw (
      signed_cut table at track_text_signature (omega arith) short,
      signed_cut table at isrc_genre_signature (omega arith) short,
      signed_cut table at access_signature (omega arith) short,
      signed_cut table at track_list1_signature (omega arith) short,
      signed_cut table at track_list2_signature (omega arith) short,
    ) refl

pub structure_fits : (table : List ℕ) (at : ℕ) (s : Structure) → structure_at table at ≡ Some s → at + 8 ≤ length table
structure_fits table at s here = go (leb (at + 8) (length table)) refl
  where
    go : (t : Bool) → leb (at + 8) (length table) ≡ t → at + 8 ≤ length table
    go true e = leb-true _ _ e
    go false e = absurd (none_some (sym (structure_cut table at (leb-false _ _ e)) ∙ here))
      where
        none_some : None ≡ Some s → ⊥
        none_some e = cc

-- where none begins the walk stops
walk_stop : (more : ℕ) (table : List ℕ) (at : ℕ) (c : Chain) → structure_at table at ≡ None → walk_from more table at c ≡ c
unfolding walk_from
walk_stop zero table at c e = refl
walk_stop (suc more) table at c e = rw e (cond_same (leb (at + 8) (length table)) c)

-- at one it goes on
walk_turn : (more : ℕ) (table : List ℕ) (at : ℕ) (c : Chain) (s : Structure) → structure_at table at ≡ Some s
    → walk_from (suc more) table at c ≡ walk_from more table (at + sectors_of s * sector_size) (noted s at c)
unfolding walk_from
walk_turn more table at c s e = rw (le-leb _ _ (structure_fits table at s e), e) refl

-- the walk that is left from a place on: it leads to the table's chain, and `more` structures are enough
pub record Left (table : List ℕ) (at : ℕ) (c : Chain) : Type 0 where
  pub more : ℕ
  pub enough : length table < sector_size * more + at
  pub leads : walk_from more table at c ≡ chain_of table

pub left_start : (table : List ℕ) (c : Chain) → c ≡ nothing_kept → Left table sector_size c
unfolding chain_of
left_start table c e =
    record { more = length table / sector_size + 1; enough = omega arith; leads = ap (walk_from (length table / sector_size + 1) table sector_size) e }

left_from : (more : ℕ) (table : List ℕ) (at : ℕ) (c : Chain) (s : Structure) → structure_at table at ≡ Some s
    → length table < sector_size * more + at → walk_from more table at c ≡ chain_of table
    → Left table (at + sectors_of s * sector_size) (noted s at c)
left_from zero table at c s here enough leads = let fits = structure_fits table at s here in absurd (omega arith)
left_from (suc more) table at c s here enough leads =
    let one = (sectors_some s).0 in record { more = more; enough = omega arith; leads = sym (walk_turn more table at c s here) ∙ leads }

-- a turn of the loop, by what its calls gave
pub left_turn : (table : List ℕ) (at : ℕ) (c : Chain) (s : Structure) (n : ℕ) (after : Chain) → structure_at table at ≡ Some s → n ≡ sectors_of s
    → after ≡ noted s at c → Left table at c → Left table (at + n * sector_size) after
left_turn table at c s n after here en ec l = rw (ec, en) (left_from l.more table at c s here l.enough l.leads)

-- where the loop is left
pub left_end : (table : List ℕ) (at : ℕ) (c : Chain) → structure_at table at ≡ None → Left table at c → c ≡ chain_of table
left_end table at c none l = sym (walk_stop l.more table at c none) ∙ l.leads
