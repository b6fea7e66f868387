-- The walk over a table's sub-structures (01, "Area"). Assumes nothing.
use Rattle.std.specs.Prelude.{ℕ, zero, suc, ◌+◌, ◌*◌, ◌/◌, cond, List, [], ◌∷◌, leb, eqb, length, Option, Some, None}
use Rattle.sectors.specs.Format.{sector_size}
use Rattle.sectors.specs.Signature.{signed_at}
use Rattle.area.specs.declared.chain.Chain.{Chain}
use Rattle.area.specs.declared.chain.Structure.{Structure}
use Rattle.area.specs.declared.chain.Structure.TheVariants.{TrackText, IsrcGenre, Access, TrackList1, TrackList2}

-- `SACDTTxt`, `SACD_IGL`, `SACD_ACC`, `SACDTRL1`, `SACDTRL2`
abbrev pub track_text_signature : List ℕ
track_text_signature = 83 ∷ 65 ∷ 67 ∷ 68 ∷ 84 ∷ 84 ∷ 120 ∷ 116 ∷ []

abbrev pub isrc_genre_signature : List ℕ
isrc_genre_signature = 83 ∷ 65 ∷ 67 ∷ 68 ∷ 95 ∷ 73 ∷ 71 ∷ 76 ∷ []

abbrev pub access_signature : List ℕ
access_signature = 83 ∷ 65 ∷ 67 ∷ 68 ∷ 95 ∷ 65 ∷ 67 ∷ 67 ∷ []

abbrev pub track_list1_signature : List ℕ
track_list1_signature = 83 ∷ 65 ∷ 67 ∷ 68 ∷ 84 ∷ 82 ∷ 76 ∷ 49 ∷ []

abbrev pub track_list2_signature : List ℕ
track_list2_signature = 83 ∷ 65 ∷ 67 ∷ 68 ∷ 84 ∷ 82 ∷ 76 ∷ 50 ∷ []

-- the sub-structure that the signature at a place names
unfoldable pub structure_at : List ℕ → ℕ → Option Structure
structure_at table at =
    cond (signed_at table at track_text_signature) (Some TrackText)
    (cond (signed_at table at isrc_genre_signature) (Some IsrcGenre)
    (cond (signed_at table at access_signature) (Some Access)
    (cond (signed_at table at track_list1_signature) (Some TrackList1)
    (cond (signed_at table at track_list2_signature) (Some TrackList2) None))))

-- "`SACDTTxt` .., `SACDTRL1`, `SACDTRL2` .. advance 1 sector, `SACD_IGL` .. 2, `SACD_ACC` 32"
unfoldable pub sectors_of : Structure → ℕ
sectors_of TrackText = 1
sectors_of IsrcGenre = 2
sectors_of Access = 32
sectors_of TrackList1 = 1
sectors_of TrackList2 = 1

-- "`SACDTTxt` (first kept)". (No structure begins at place 0, which stands for none.)
unfoldable pub first_kept : ℕ → ℕ → ℕ
first_kept old at = cond (eqb old 0) at old

-- "`SACDTTxt` (first kept), `SACDTRL1`, `SACDTRL2` (last kept) .., `SACD_IGL` (last kept)": what is kept, with a structure at a place
unfoldable pub noted : Structure → ℕ → Chain → Chain
noted TrackText at c = record { ttxt = first_kept c.ttxt at; igl = c.igl; trl1 = c.trl1; trl2 = c.trl2 }
noted IsrcGenre at c = record { ttxt = c.ttxt; igl = at; trl1 = c.trl1; trl2 = c.trl2 }
noted Access at c = c
noted TrackList1 at c = record { ttxt = c.ttxt; igl = c.igl; trl1 = at; trl2 = c.trl2 }
noted TrackList2 at c = record { ttxt = c.ttxt; igl = c.igl; trl1 = c.trl1; trl2 = at }

-- "Walk .. while 8 bytes fit: .. else stop.": from a place on, with what was kept so far, over at most `more` structures
unfoldable pub walk_from : ℕ → List ℕ → ℕ → Chain → Chain
walk_from zero table at c = c
walk_from (suc more) table at c =
    cond (leb (at + 8) (length table))
    (elim (structure_at table at) [
      | None ↦ c
      | Some structure ↦ walk_from more table (at + sectors_of structure * sector_size) (noted structure at c)
    ])
    c

unfoldable pub nothing_kept : Chain
nothing_kept = record { ttxt = 0; igl = 0; trl1 = 0; trl2 = 0 }

-- "Walk from 2048". (A table has no more structures than sectors.)
unfoldable pub chain_of : List ℕ → Chain
chain_of table = walk_from (length table / sector_size + 1) table sector_size nothing_kept
