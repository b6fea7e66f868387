-- The texts of a track (01, "Area": "Track text"). Assumes nothing.
use Rattle.std.specs.Prelude.{ℕ, ◌+◌, ◌-◌, ◌*◌, cond, Option, None, Some, ◌&&◌, List, [], ◌∷◌, leb, ltb, eqb, length, set, replicate}
use Rattle.sectors.specs.Number.{be_at}
use Rattle.area.specs.Items.{Item, items_from}
use Rattle.area.specs.TextPlaces.{no_text_place, placed_text}
use Rattle.area.specs.declared.text_places.TextPlace.{TextPlace}
use Rattle.area.specs.declared.track_text.TrackText.{TrackText}
use Rattle.area.specs.declared.warning.WarningCode.{WarningCode}
use Rattle.area.specs.declared.warning.WarningCode.TheVariants.{TrackTextOffsetInvalid, TrackTextTypeUnknown}

-- how many texts a track has: `TrackTextItem::ALL`
abbrev pub track_texts : ℕ
track_texts = 14

-- "Types 1-7 and 129-135 follow `from_type`": the index of a type in `ALL`, none of an unknown type
unfoldable pub item_index : ℕ → Option ℕ
item_index kind = cond (leb 1 kind && leb kind 7) (Some (kind - 1)) (cond (leb 129 kind && leb kind 135) (Some (kind - 122)) None)

-- no text is there
unfoldable pub no_places : List TextPlace
no_places = replicate track_texts no_text_place

unfoldable pub no_text : Option WarningCode → TrackText
no_text warning = record { places = no_places; warning = warning }

-- no item is kept
abbrev pub no_items : TrackText
no_items = no_text None

-- a text that stands at the index of its type, or is of an unknown one
unfoldable pub keep_at : Option ℕ → TextPlace → TrackText → TrackText
keep_at (Some index) text before = record { places = set before.places index text; warning = before.warning }
keep_at None text before = record { places = before.places; warning = Some TrackTextTypeUnknown }

-- "the last nonempty of a type stays; the first nonempty unknown type gives 13, once": an item of a table kept over those
-- before it
unfoldable pub keep : List ℕ → Item → TrackText → TrackText
keep table item before = cond (eqb item.len 0) before (keep_at (item_index item.kind) (placed_text table item.place) before)

-- the items kept, one after the other
unfoldable pub keep_all : List ℕ → List Item → TrackText → TrackText
keep_all table [] before = before
keep_all table (item ∷ items) before = keep_all table items (keep table item before)

-- what the walk's items give
unfoldable pub items_kept : List ℕ → ℕ → ℕ → TrackText
items_kept table place count = keep_all table (items_from table place count) no_items

-- the offset of a track's text in its block
unfoldable pub text_offset : List ℕ → ℕ → ℕ → ℕ
text_offset table block i = be_at table (block + 8 + 2 * i) 2

-- "Byte 0 there counts items, which begin 4 on."
unfoldable pub text_at : List ℕ → ℕ → TrackText
text_at table at = items_kept table (at + 4) (be_at table at 1)

-- "Track text: offset 0 is silent; block + offset + 4 beyond the table: 12."
unfoldable pub text_behind : List ℕ → ℕ → ℕ → TrackText
text_behind table block offset =
    cond (eqb offset 0) (no_text None) (cond (ltb (length table) (block + offset + 4)) (no_text (Some TrackTextOffsetInvalid)) (text_at table (block + offset)))

-- the texts of track i (counted from 0), none without a text block
unfoldable pub track_text_of : List ℕ → ℕ → ℕ → TrackText
track_text_of table block i = cond (eqb block 0) (no_text None) (text_behind table block (text_offset table block i))
