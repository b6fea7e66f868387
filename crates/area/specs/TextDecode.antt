-- Decoding the texts of an area and of its tracks from a lone table (01, "What the desk gets back"): "Decoding is lent .. a lone table of
-- its record's sector count, and 255 records .. and trusts nothing in them". Assumes nothing.
use Rattle.std.specs.Prelude.{ℕ, ◌-◌, min, Bool, cond, not, ◌||◌, List, leb, ltb, eqb, length, get_or}
use Rattle.sectors.specs.Refusal.{short_buffer, no_such_entry}
use Rattle.text.specs.String.{placed_string}
use Rattle.text.specs.Decode.{refusing, decode_of, decode_into}
use Rattle.text.specs.declared.decode.DecodeAnswer.{DecodeAnswer}
use Rattle.area.specs.Limits.{max_tracks, table_size, table_bytes}
use Rattle.area.specs.Area.{area_texts}
use Rattle.area.specs.TrackText.{track_texts}
use Rattle.area.specs.TextPlaces.{no_text_place}
use Rattle.area.specs.Track.{no_track}
use Rattle.area.specs.declared.area.Area.{Area}
use Rattle.area.specs.declared.text_places.TextPlace.{TextPlace}
use Rattle.area.specs.declared.track.Track.{Track}

-- a text that is asked for: a refusal, or its bytes and the code of its set
pub data Text : Type 0 where
  refused : ℕ → Text
  found : List ℕ → ℕ → Text

-- "a lent buffer is below its size"
unfoldable pub table_short : ℕ → Area → Bool
table_short bytes area = ltb bytes (table_size area.origin.toc_sectors)

-- "slot without area"
unfoldable pub no_such_area : Area → Bool
no_such_area area = not (eqb area.present 1) || eqb area.origin.slot 0 || ltb 2 area.origin.slot

-- "track 0 or above the count". "a track count above 255 as 255"
unfoldable pub no_such_track : Area → ℕ → Bool
no_such_track area number = eqb number 0 || ltb (min area.track_count max_tracks) number

-- the string at a place of an area's table. "a text placed at or past its table's end is absent"
unfoldable pub text_at : List ℕ → Area → ℕ → List ℕ
text_at lent area place = placed_string (table_bytes area.origin.toc_sectors lent) place

-- where an item's text stands
unfoldable pub place_of : List TextPlace → ℕ → ℕ
place_of places item = (get_or places item no_text_place).place

unfoldable pub text_of : List ℕ → Area → ℕ → Text
text_of lent area place = found (text_at lent area place) area.text_charset

-- "decoding 2, 8, 9, 10": 2, then 8 with "item not in `ALL`"
unfoldable pub area_text_in : List ℕ → Area → ℕ → Text
area_text_in lent area item =
    cond (table_short (length lent) area) (refused short_buffer)
    (cond (no_such_area area || leb area_texts item) (refused no_such_entry) (text_of lent area (place_of area.text item)))

-- the text at a place, of a track that stands in a list of so many records
unfoldable pub track_text_in : List ℕ → Area → ℕ → ℕ → ℕ → ℕ → Text
track_text_in lent area records place number item =
    cond (table_short (length lent) area || ltb records max_tracks) (refused short_buffer)
    (cond (no_such_area area || no_such_track area number || leb track_texts item) (refused no_such_entry) (text_of lent area place))

-- the place in a list of the track of a number (there is no track 0)
unfoldable pub track_index : ℕ → ℕ
track_index number = number - 1

-- a text of the track of a number
unfoldable pub track_text_by : List ℕ → Area → List Track → ℕ → ℕ → Text
track_text_by lent area tracks number item =
    track_text_in lent area (length tracks) (place_of (get_or tracks (track_index number) no_track).text item) number item

-- "Every refusal .. changes no lent memory." Then 9, 12, 10 are the layer of texts': 12 comes "after 9, before 10" (02, item 1).
unfoldable pub text_answer : Text → List ℕ → ℕ → DecodeAnswer
text_answer (refused number) words size = refusing number
text_answer (found bytes code) words size = decode_of bytes code words size

unfoldable pub text_page : Text → List ℕ → List ℕ → List ℕ
text_page (refused number) words page = page
text_page (found bytes code) words page = decode_into bytes code words page
