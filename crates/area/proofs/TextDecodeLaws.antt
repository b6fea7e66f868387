-- Laws of decoding a text that is asked for: what its answer and its page are, by what was found; when it is refused; that the zero record has no
-- text. Assumes nothing.
use Rattle.std.specs.Prelude.{◌≡◌, refl, true, false, ◌||◌, List, [], ℕ, zero, suc, ◌≤◌, leb, ltb, length, replicate}
use Rattle.std.proofs.Common.{sym, arith, le-ltb}
use Rattle.sectors.specs.FillLaws.{part_size}
use Rattle.sectors.specs.Refusal.{short_buffer, no_such_entry}
use Rattle.text.proofs.StringLaws.{placed_past}
use Rattle.text.specs.Decode.{decode_of, decode_into}
use Rattle.text.proofs.DecodeLaws.{refusing_is, decode_same}
use Rattle.text.specs.declared.decode.DecodeAnswer.{DecodeAnswer}
use Rattle.area.specs.Limits.{max_table_bytes, max_tracks, table_size, table_bytes}
use Rattle.area.specs.Area.{area_texts}
use Rattle.area.specs.TrackText.{track_texts, no_places}
use Rattle.area.specs.TextPlaces.{no_text_place}
use Rattle.area.specs.Track.{no_track}
use Rattle.area.specs.TextDecode.{Text, refused, found, table_short, no_such_area, no_such_track, text_at, place_of, text_of, area_text_in, track_text_in, text_answer, text_page}
use Rattle.area.specs.declared.area.Area.{Area}

module _ (text : Text) (words old : List ℕ) where
  pub asked_refused : (number : ℕ) → text ≡ refused number
      → (◌≡◌ {A = DecodeAnswer} (record { refusal = number; len = 0 }) (text_answer text words (length old))) × (old ≡ text_page text words old)
  unfolding text_answer text_page
  asked_refused number e = rw e (sym (refusing_is number), refl)

  pub asked_found : (bytes string : List ℕ) (code : ℕ) (answer : DecodeAnswer) (page : List ℕ) → text ≡ found string code → bytes ≡ string
      → answer ≡ decode_of bytes code words (length old) → page ≡ decode_into bytes code words old
      → (answer ≡ text_answer text words (length old)) × (page ≡ text_page text words old)
  unfolding text_answer text_page
  asked_found bytes string code answer page e same a p = rw e (decode_same same code words old (a, p))

-- ---- what is lent is not short from the largest table on
pub large_not_short : (bytes : ℕ) (area : Area) → max_table_bytes ≤ bytes → table_short bytes area ≡ false
unfolding table_short table_size
large_not_short bytes area h = le-ltb bytes (table_size area.origin.toc_sectors) (omega arith)

-- ---- a text placed at or past its table's end is absent
pub past_absent : (lent : List ℕ) (area : Area) (place : ℕ) → table_size area.origin.toc_sectors ≤ place → text_at lent area place ≡ []
unfolding text_at table_bytes
past_absent lent area place h =
    placed_past (table_bytes area.origin.toc_sectors lent) place (omega (arith, part_size 0 (table_size area.origin.toc_sectors) lent))

-- ---- what stands past the end of a list of tracks has no text
no_place : (n item : ℕ) → place_of (replicate n no_text_place) item ≡ 0
unfolding place_of
no_place zero item = refl
no_place (suc n) zero = refl
no_place (suc n) (suc item) = no_place n item

pub no_track_place : (item : ℕ) → place_of no_track.text item ≡ 0
unfolding no_track no_places
no_track_place item = no_place track_texts item

-- ---- an area's text is refused 2 exactly if too few bytes are lent; else 8 exactly if there is no such area or item
module _ (lent : List ℕ) (area : Area) (item : ℕ) where
  pub area_text_short : table_short (length lent) area ≡ true → area_text_in lent area item ≡ refused short_buffer
  unfolding area_text_in
  area_text_short short = simp short

  module _ (enough : table_short (length lent) area ≡ false) where
    pub area_text_none : (no_such_area area || leb area_texts item) ≡ true → area_text_in lent area item ≡ refused no_such_entry
    unfolding area_text_in
    area_text_none none = simp (enough, none)

    pub area_text_found : (no_such_area area || leb area_texts item) ≡ false → area_text_in lent area item ≡ text_of lent area (place_of area.text item)
    unfolding area_text_in
    area_text_found there = simp (enough, there)

-- ---- a track's likewise
module _ (lent : List ℕ) (area : Area) (records place number item : ℕ) where
  pub track_text_short : (table_short (length lent) area || ltb records max_tracks) ≡ true → track_text_in lent area records place number item ≡ refused short_buffer
  unfolding track_text_in
  track_text_short short = simp short

  module _ (enough : (table_short (length lent) area || ltb records max_tracks) ≡ false) where
    pub track_text_none : (no_such_area area || no_such_track area number || leb track_texts item) ≡ true
        → track_text_in lent area records place number item ≡ refused no_such_entry
    unfolding track_text_in
    track_text_none none = simp (enough, none)

    pub track_text_found : (no_such_area area || no_such_track area number || leb track_texts item) ≡ false
        → track_text_in lent area records place number item ≡ text_of lent area place
    unfolding track_text_in
    track_text_found there = simp (enough, there)
