-- Laws of decoding after a disc reading: what its answer and its page are, by what was found; when it is refused, and which texts are absent.
-- Assumes nothing.
use Rattle.std.specs.Prelude.{◌≡◌, Bool, true, false, cond, ◌||◌, List, [], ℕ, ◌≤◌, leb, ltb, eqb, length, Err}
use Rattle.std.proofs.Math.Path.{refl}
use Rattle.std.proofs.Common.{sym, ap, ◌∙◌, arith, ltb-false}
use Rattle.sectors.specs.Fill.{part}
use Rattle.sectors.specs.FillLaws.{part_size, part_length}
use Rattle.sectors.specs.Format.{sector_size}
use Rattle.sectors.specs.Refusal.{short_buffer, no_such_entry}
use Rattle.text.proofs.StringLaws.{placed_past}
use Rattle.text.proofs.AnswerLaws.{answer_short_buffer, answer_no_such_entry}
use Rattle.text.proofs.DecodeLaws.{refusing_is}
use Rattle.text.specs.Decode.{decode_of, decode_into, answer_by}
use Rattle.text.specs.declared.decode.DecodeAnswer.{DecodeAnswer}
use Rattle.text.specs.declared.decode.DecodeRefusal.TheVariants as refusal
use Rattle.area.specs.Area.{area_texts}
use Rattle.area.specs.Limits.{max_table_bytes, max_tracks}
use Rattle.area.specs.TestLaws.{or_left}
use Rattle.area.specs.TextDecode.{Text, refused, found, table_short, no_such_area, no_such_track, place_of, text_of, area_text_in, track_text_in, text_answer, text_page}
use Rattle.area.proofs.TextDecodeLaws.{asked_refused, asked_found, large_not_short, area_text_none, area_text_found, track_text_none, track_text_found}
use Rattle.area.specs.TrackText.{track_texts}
use Rattle.area.specs.declared.area.Area.{Area}
use Rattle.disc.specs.Slot.{two_channel, multichannel, region_at, master_region, work_bytes, track_records, region_of}
use Rattle.disc.specs.Master.{master_bytes, text_sector, disc_texts}
use Rattle.disc.specs.TextDecode.{work_short, lent_short, disc_text_sector, disc_text_at, disc_place, disc_text_in, area_text_on, track_text_on}
use Rattle.disc.specs.declared.master.MasterToc.{MasterToc}

-- what a contract says of a text's answer and page holds of an equal text
pub asked_same : (text same : Text) (words old : List ℕ) (answer : DecodeAnswer) (page : List ℕ) → text ≡ same → answer ≡ text_answer text words (length old)
    → page ≡ text_page text words old → (answer ≡ text_answer same words (length old)) × (page ≡ text_page same words old)
asked_same text same words old answer page e a p =
    (a ∙ ap (λ (t : Text). text_answer t words (length old)) e, p ∙ ap (λ (t : Text). text_page t words old) e)

-- the answer and the page of a refusal, and of a text that is found
module _ (words page : List ℕ) where
  pub refused_answer : (number : ℕ) → text_answer (refused number) words (length page) ≡ record { refusal = number; len = 0 }
  refused_answer number = sym (asked_refused (refused number) words page number refl).0

  pub short_answer : answer_by (Err refusal.ShortBuffer) ≡ text_answer (refused short_buffer) words (length page)
  short_answer = answer_short_buffer ∙ refusing_is short_buffer ∙ sym (refused_answer short_buffer)

  pub missing_answer : answer_by (Err refusal.NoSuchEntry) ≡ text_answer (refused no_such_entry) words (length page)
  missing_answer = answer_no_such_entry ∙ refusing_is no_such_entry ∙ sym (refused_answer no_such_entry)

  pub refused_page : (number : ℕ) → text_page (refused number) words page ≡ page
  refused_page number = sym (asked_refused (refused number) words page number refl).1

  pub found_answer : (bytes : List ℕ) (code : ℕ) → text_answer (found bytes code) words (length page) ≡ decode_of bytes code words (length page)
  found_answer bytes code = sym (asked_found (found bytes code) words page bytes bytes code _ _ refl refl refl refl).0

  pub found_page : (bytes : List ℕ) (code : ℕ) → text_page (found bytes code) words page ≡ decode_into bytes code words page
  found_page bytes code = sym (asked_found (found bytes code) words page bytes bytes code _ _ refl refl refl refl).1

-- ---- a text of the disc placed at or past the end of sector 1 is absent
pub disc_past_absent : (work : List ℕ) (place : ℕ) → sector_size ≤ place → disc_text_at work place ≡ []
unfolding disc_text_at disc_text_sector text_sector
disc_past_absent work place h =
    placed_past (disc_text_sector work) place (omega (arith, part_size sector_size sector_size (part master_region master_bytes work)))

-- ---- a disc's text is refused 2 exactly if too few work bytes are lent; else 8 exactly if there is no such item
module _ (work : List ℕ) (master : MasterToc) (item : ℕ) where
  pub disc_text_short : work_short (length work) ≡ true → disc_text_in work master item ≡ refused short_buffer
  unfolding disc_text_in
  disc_text_short short = simp short

  module _ (enough : work_short (length work) ≡ false) where
    pub disc_text_none : leb disc_texts item ≡ true → disc_text_in work master item ≡ refused no_such_entry
    unfolding disc_text_in
    disc_text_none none = simp (enough, none)

    pub disc_text_found : leb disc_texts item ≡ false → disc_text_in work master item ≡ found (disc_text_at work (disc_place master item)) master.text_charset
    unfolding disc_text_in
    disc_text_found there = simp (enough, there)

-- a slot's region has room for every table
region_enough : (work : List ℕ) (slot : ℕ) (area : Area) → work_short (length work) ≡ false → table_short (length (region_of slot work)) area ≡ false
unfolding work_short region_of region_at
region_enough work slot area enough = go (eqb slot 2)
  where
    there : (at : ℕ) → at ≤ max_table_bytes → table_short (length (part at max_table_bytes work)) area ≡ false
    there at h =
        let long = ltb-false (length work) work_bytes enough in
        large_not_short (length (part at max_table_bytes work)) area (omega (arith, part_length at max_table_bytes work (omega arith)))

    go : (t : Bool) → table_short (length (part (cond t (region_at multichannel) (region_at two_channel)) max_table_bytes work)) area ≡ false
    go true = there (region_at multichannel) (omega arith)
    go false = there (region_at two_channel) (omega arith)

-- ---- an area's text likewise; else 8 exactly if there is no such area or item
module _ (work : List ℕ) (area : Area) (item : ℕ) where
  pub area_on_short : work_short (length work) ≡ true → area_text_on work area item ≡ refused short_buffer
  unfolding area_text_on
  area_on_short short = simp short

  module _ (enough : work_short (length work) ≡ false) where
    pub area_on_region : area_text_on work area item ≡ area_text_in (region_of area.origin.slot work) area item
    unfolding area_text_on
    area_on_region = simp enough

    pub area_on_none : (no_such_area area || leb area_texts item) ≡ true → area_text_on work area item ≡ refused no_such_entry
    area_on_none none =
        area_on_region ∙ area_text_none (region_of area.origin.slot work) area item (region_enough work area.origin.slot area enough) none

    pub area_on_found : (no_such_area area || leb area_texts item) ≡ false
        → area_text_on work area item ≡ text_of (region_of area.origin.slot work) area (place_of area.text item)
    area_on_found there =
        area_on_region ∙ area_text_found (region_of area.origin.slot work) area item (region_enough work area.origin.slot area enough) there

-- ---- a track's likewise, with the track records; else 8 exactly if there is no such area, track or item
module _ (work : List ℕ) (area : Area) (records place number item : ℕ) where
  pub track_on_short : lent_short (length work) records ≡ true → track_text_on work area records place number item ≡ refused short_buffer
  unfolding track_text_on
  track_on_short short = simp short

  module _ (enough : lent_short (length work) records ≡ false) where
    pub track_on_region : track_text_on work area records place number item ≡ track_text_in (region_of area.origin.slot work) area max_tracks place number item
    unfolding track_text_on
    track_on_region = simp enough

    slot_enough : (table_short (length (region_of area.origin.slot work)) area || ltb max_tracks max_tracks) ≡ false
    unfolding lent_short
    slot_enough = rw (region_enough work area.origin.slot area (or_left (work_short (length work)) (ltb records track_records) enough)) refl

    pub track_on_none : (no_such_area area || no_such_track area number || leb track_texts item) ≡ true
        → track_text_on work area records place number item ≡ refused no_such_entry
    track_on_none none = track_on_region ∙ track_text_none (region_of area.origin.slot work) area max_tracks place number item slot_enough none

    pub track_on_found : (no_such_area area || no_such_track area number || leb track_texts item) ≡ false
        → track_text_on work area records place number item ≡ text_of (region_of area.origin.slot work) area place
    track_on_found there = track_on_region ∙ track_text_found (region_of area.origin.slot work) area max_tracks place number item slot_enough there
