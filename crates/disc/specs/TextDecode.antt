-- Decoding texts after a disc reading (01, "What the desk gets back"): "Decoding is lent the work bytes and track records of a read at these
-- sizes .. and trusts nothing in them". Assumes nothing.
use Rattle.std.specs.Prelude.{ℕ, ◌+◌, ◌-◌, Bool, cond, ◌||◌, List, leb, ltb, length, get_or}
use Rattle.sectors.specs.Fill.{part}
use Rattle.sectors.specs.Refusal.{short_buffer, no_such_entry}
use Rattle.text.specs.String.{placed_string}
use Rattle.area.specs.Limits.{max_tracks}
use Rattle.area.specs.TextDecode.{Text, refused, found, place_of, area_text_in, track_text_in}
use Rattle.area.specs.TextPlaces.{no_text_place}
use Rattle.area.specs.Track.{no_track}
use Rattle.area.specs.declared.area.Area.{Area}
use Rattle.area.specs.declared.track.Track.{Track}
use Rattle.disc.specs.Slot.{master_region, work_bytes, track_records, region_of, tracks_from}
use Rattle.disc.specs.Master.{master_bytes, text_sector, disc_texts}
use Rattle.disc.specs.declared.master.MasterToc.{MasterToc}

-- "a lent buffer is below its size": the work bytes, and with them the track records
unfoldable pub work_short : ℕ → Bool
work_short bytes = ltb bytes work_bytes

unfoldable pub lent_short : ℕ → ℕ → Bool
lent_short bytes records = work_short bytes || ltb records track_records

-- ---- a text of the disc
-- its table, "for disc texts, .. sector 1"
unfoldable pub disc_text_sector : List ℕ → List ℕ
disc_text_sector work = text_sector (part master_region master_bytes work)

-- the string at a place of it. "a text placed at or past its table's end is absent"
unfoldable pub disc_text_at : List ℕ → ℕ → List ℕ
disc_text_at work place = placed_string (disc_text_sector work) place

-- where an item's text stands
unfoldable pub disc_place : MasterToc → ℕ → ℕ
disc_place master item = (get_or master.text item no_text_place).place

-- "decoding 2, 8, 9, 10": 2, then 8 with "item not in `ALL`"
unfoldable pub disc_text_in : List ℕ → MasterToc → ℕ → Text
disc_text_in work master item =
    cond (work_short (length work)) (refused short_buffer)
    (cond (leb disc_texts item) (refused no_such_entry) (found (disc_text_at work (disc_place master item)) master.text_charset))

-- ---- a text of an area: 2, then as in a lone table, which is the region of the record's slot
unfoldable pub area_text_on : List ℕ → Area → ℕ → Text
area_text_on work area item =
    cond (work_short (length work)) (refused short_buffer) (area_text_in (region_of area.origin.slot work) area item)

-- ---- the text at a place, of a track that stands in a list of so many records: 2, then likewise, with a slot's records lent
unfoldable pub track_text_on : List ℕ → Area → ℕ → ℕ → ℕ → ℕ → Text
track_text_on work area records place number item =
    cond (lent_short (length work) records) (refused short_buffer)
    (track_text_in (region_of area.origin.slot work) area max_tracks place number item)

-- "tracks of a yielded area fill records from 0 (two-channel) or 255": the place of the track of a number (there is no track 0)
unfoldable pub track_place : Area → ℕ → ℕ
track_place area number = tracks_from area.origin.slot + (number - 1)

-- a text of the track of a number
unfoldable pub track_text_at : List ℕ → Area → List Track → ℕ → ℕ → Text
track_text_at work area tracks number item =
    track_text_on work area (length tracks) (place_of (get_or tracks (track_place area number) no_track).text item) number item
