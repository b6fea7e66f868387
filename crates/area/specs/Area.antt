-- The record of an area (01, "Area": "Fixed fields, locales (at most 10) and area texts stand at the offsets in `read_area`").
-- Assumes nothing.
use Rattle.std.specs.Prelude.{ℕ, ◌+◌, ◌*◌, cond, List, [], ◌∷◌, replicate, Option, Some, None}
use Rattle.std.specs.Int.Bits.{bit_and}
use Rattle.sectors.specs.Number.{be_at}
use Rattle.sectors.specs.Signature.{signed_at}
use Rattle.area.specs.Tabulate.{tabulate}
use Rattle.area.specs.TextPlaces.{no_text_place, text_place_at}
use Rattle.area.specs.Units.{lsn_at}
use Rattle.area.specs.Timecode.{timecode_at}
use Rattle.area.specs.Locale.{max_locales, no_locale, locales_at, locale_count}
use Rattle.area.specs.declared.area.Area.{Area}
use Rattle.area.specs.declared.area.Kind.{Kind}
use Rattle.area.specs.declared.area.Kind.TheVariants.{TwoChannel, Multichannel}
use Rattle.area.specs.declared.text_places.TextPlace.{TextPlace}

-- `TWOCHTOC`, `MULCHTOC`
abbrev pub two_channel_signature : List ℕ
two_channel_signature = 84 ∷ 87 ∷ 79 ∷ 67 ∷ 72 ∷ 84 ∷ 79 ∷ 67 ∷ []

abbrev pub multichannel_signature : List ℕ
multichannel_signature = 77 ∷ 85 ∷ 76 ∷ 67 ∷ 72 ∷ 84 ∷ 79 ∷ 67 ∷ []

-- their numbers
abbrev pub two_channel : ℕ
two_channel = 1

abbrev pub multichannel : ℕ
multichannel = 2

-- the number of each, 0 for neither
unfoldable pub kind_number : Option Kind → ℕ
kind_number None = 0
kind_number (Some TwoChannel) = two_channel
kind_number (Some Multichannel) = multichannel

-- "signature neither `TWOCHTOC` nor `MULCHTOC`": 0; else the signature's number. "Either signature serves either slot."
unfoldable pub kind_of : List ℕ → ℕ
kind_of table = cond (signed_at table 0 two_channel_signature) two_channel (cond (signed_at table 0 multichannel_signature) multichannel 0)

-- "byte 69", "start LSN (72)", "end LSN (76)"
abbrev pub track_count_offset : ℕ
track_count_offset = 69

abbrev pub audio_start_offset : ℕ
audio_start_offset = 72

abbrev pub audio_end_offset : ℕ
audio_end_offset = 76

-- the low four bits of a byte
unfoldable pub low_four : ℕ → ℕ
low_four b = bit_and b 15

-- how many texts an area has: `AreaTextItem::ALL`
abbrev pub area_texts : ℕ
area_texts = 4

-- where the offsets of its texts stand
abbrev pub area_texts_offset : ℕ
area_texts_offset = 144

unfoldable pub area_texts_at : List ℕ → List TextPlace
area_texts_at table = tabulate area_texts (λ item. text_place_at table (area_texts_offset + 2 * item))

-- the record of a table's area, without its address
unfoldable pub record_of : List ℕ → ℕ → ℕ → Area
record_of table slot sectors = record {
  present = 1;
  origin = record { slot = slot; toc_lsn = record { 0 = 0 }; toc_sectors = sectors };
  kind = kind_of table;
  version = record { major = be_at table 8 1; minor = be_at table 9 1 };
  max_byte_rate = be_at table 16 4;
  sample_frequency_code = be_at table 20 1;
  frame_format = low_four (be_at table 21 1);
  channel_count = be_at table 32 1;
  area_config = be_at table 33 1;
  max_available_channels = be_at table 34 1;
  area_mute_flags = be_at table 35 1;
  track_attribute = low_four (be_at table 48 1);
  playtime = timecode_at table 64;
  track_offset = be_at table 68 1;
  track_count = be_at table track_count_offset 1;
  audio_start_lsn = lsn_at table audio_start_offset;
  audio_end_lsn = lsn_at table audio_end_offset;
  text_channel_count = be_at table 80 1;
  locale_count = locale_count (be_at table 80 1);
  locales = locales_at table (be_at table 80 1);
  text_charset = be_at table 90 1;
  text = area_texts_at table;
}

-- a record with its address
unfoldable pub addressed : ℕ → Area → Area
addressed lsn a = record a { origin = record a.origin { toc_lsn = record { 0 = lsn } } }

-- "every number in the record of a slot without an area, are zero"
unfoldable pub no_area : Area
no_area = record {
  present = 0;
  origin = record { slot = 0; toc_lsn = record { 0 = 0 }; toc_sectors = 0 };
  kind = 0;
  version = record { major = 0; minor = 0 };
  max_byte_rate = 0;
  sample_frequency_code = 0;
  frame_format = 0;
  channel_count = 0;
  area_config = 0;
  max_available_channels = 0;
  area_mute_flags = 0;
  track_attribute = 0;
  playtime = record { minutes = 0; seconds = 0; frames = 0 };
  track_offset = 0;
  track_count = 0;
  audio_start_lsn = record { 0 = 0 };
  audio_end_lsn = record { 0 = 0 };
  text_channel_count = 0;
  locale_count = 0;
  locales = replicate max_locales no_locale;
  text_charset = 0;
  text = replicate area_texts no_text_place;
}
