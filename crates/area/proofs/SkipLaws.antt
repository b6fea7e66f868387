-- Laws of which tables are skipped. Assumes nothing.
use Rattle.std.specs.Prelude.{ℕ, ◌*◌, ◌≤◌, Bool, cond, List, ◌⊎◌, ◌≡◌, eqb, length, get_or, Some}
use native.Mathlib.Omega.{arith}
use Rattle.std.proofs.Math.Bool.{true, false}
use Rattle.std.proofs.Math.Logic.{◌≢◌}
use Rattle.std.proofs.Common.{inl, inr, sym, ap, ◌∙◌}
use Rattle.std.proofs.Math.Path.{refl}
use borrow.Author.Tests.{le-ltb, ne_eqb}
use Rattle.sectors.specs.Format.{sector_size}
use Rattle.sectors.specs.Number.{be_at}
use Rattle.sectors.specs.Signature.{signed_at}
use Rattle.sectors.proofs.SignatureLaws.{signed_other}
use Rattle.area.specs.Units.{lsn_at}
use Rattle.area.specs.Area.{two_channel_signature, multichannel_signature, kind_of, audio_start_offset, audio_end_offset}
use Rattle.area.specs.Chain.{track_text_signature, isrc_genre_signature, access_signature, track_list1_signature, track_list2_signature, structure_at, sectors_of, noted, walk_from, nothing_kept, chain_of}
use Rattle.area.specs.declared.chain.Structure.TheVariants.{TrackList1, TrackList2}
use Rattle.area.specs.Warning.{area_signature_invalid, area_track_list_missing, area_toc_malformed, area_audio_range_reversed}
use Rattle.area.specs.Skip.{list_missing, is_malformed, is_reversed, skip_by, skip_of}

-- 0, or one of 8 to 11
abbrev pub SkipCode : ℕ → Type 0
SkipCode n =
    (n ≡ 0) ⊎ ((n ≡ area_signature_invalid) ⊎ ((n ≡ area_track_list_missing) ⊎ ((n ≡ area_toc_malformed) ⊎ (n ≡ area_audio_range_reversed))))

-- the first test that passes names the code
first_code : (unsigned missing malformed reversed : Bool)
    → SkipCode (cond unsigned area_signature_invalid (cond missing area_track_list_missing (cond malformed area_toc_malformed (cond reversed area_audio_range_reversed 0))))
first_code true m f r = inr (inl refl)
first_code false true f r = inr (inr (inl refl))
first_code false false true r = inr (inr (inr (inl refl)))
first_code false false false true = inr (inr (inr (inr refl)))
first_code false false false false = inl refl

pub skip_code : (table : List ℕ) → SkipCode (skip_of table)
unfolding skip_of skip_by
skip_code table =
    let c = chain_of table in
    first_code (eqb (kind_of table) 0) (list_missing c) (is_malformed table c) (is_reversed (lsn_at table audio_start_offset) (lsn_at table audio_end_offset))

-- ---- the signature: "Either signature serves either slot."
module _ (table : List ℕ) where
  pub two_channel_serves : signed_at table 0 two_channel_signature ≡ true → kind_of table ≢ 0
  unfolding kind_of
  two_channel_serves signed = rw signed (omega arith)

  pub multichannel_serves : signed_at table 0 multichannel_signature ≡ true → kind_of table ≢ 0
  unfolding kind_of
  multichannel_serves signed = rw signed (go (signed_at table 0 two_channel_signature))
    where
      go : (t : Bool) → ◌≢◌ {A = ℕ} (cond t 1 2) 0
      go true = omega arith
      go false = omega arith

  -- "signature neither `TWOCHTOC` nor `MULCHTOC`, 8"
  pub unsigned_skipped : signed_at table 0 two_channel_signature ≡ false → signed_at table 0 multichannel_signature ≡ false → skip_of table ≡ area_signature_invalid
  unfolding skip_of skip_by kind_of
  unsigned_skipped two multi = rw (two, multi)

-- ---- a table that is not skipped: three sectors, a list of tracks in each of the last two
module _ (table : List ℕ) (long : length table ≡ 3 * sector_size) (signed : kind_of table ≢ 0)
    (first : signed_at table sector_size track_list1_signature ≡ true) (second : signed_at table (2 * sector_size) track_list2_signature ≡ true)
    (ordered : be_at table audio_start_offset 4 ≤ be_at table audio_end_offset 4) where
  -- which structure a signature names, where it differs from the ones tried before
  module _ (at : ℕ) (signature : List ℕ) (eight : length signature ≡ 8) (here : signed_at table at signature ≡ true) where
    other : (tried : List ℕ) → length tried ≡ 8 → (i : ℕ) → (get_or signature i 0 ≡ get_or tried i 0 → ⊥) → signed_at table at tried ≡ false
    other tried n i differ = signed_other table at signature tried here (n ∙ sym eight) (λ e. differ (ap (λ (l : List ℕ). get_or l i 0) e))

  structure_first : structure_at table sector_size ≡ Some TrackList1
  unfolding structure_at
  structure_first =
      let not = other sector_size track_list1_signature refl first in
      rw (not track_text_signature refl 5 (omega arith), not isrc_genre_signature refl 4 (omega arith), not access_signature refl 4 (omega arith), first)

  structure_second : structure_at table (2 * sector_size) ≡ Some TrackList2
  unfolding structure_at
  structure_second =
      let not = other (2 * sector_size) track_list2_signature refl second in
      rw (
        not track_text_signature refl 5 (omega arith),
        not isrc_genre_signature refl 4 (omega arith),
        not access_signature refl 4 (omega arith),
        not track_list1_signature refl 7 (omega arith),
        second,
      )

  chain_two : chain_of table ≡ record { ttxt = 0; igl = 0; trl1 = sector_size; trl2 = 2 * sector_size }
  unfolding chain_of walk_from sectors_of noted nothing_kept
  chain_two = simp (long, structure_first, structure_second)

  pub skip_none : skip_of table ≡ 0
  unfolding skip_of skip_by list_missing is_malformed is_reversed lsn_at
  skip_none = rw (ne_eqb (kind_of table) 0 signed, chain_two, le-ltb (be_at table audio_end_offset 4) (be_at table audio_start_offset 4) ordered)
