-- The master record (01, "Disc": "LSN 510 to 519.", "Offsets as in `read_master`, at most 8 locales."), of the data bytes of these sectors.
-- Assumes nothing.
use Rattle.std.specs.Prelude.{ℕ, ◌+◌, ◌*◌, min, Bool, cond, List, [], ◌∷◌, ltb, replicate}
use Rattle.sectors.specs.Fill.{part}
use Rattle.sectors.specs.Format.{sector_size}
use Rattle.sectors.specs.Number.{be_at}
use Rattle.sectors.specs.Signature.{signed_at}
use Rattle.text.specs.Fixed.{field_size, fixed_text_of, fixed_bytes_of}
use Rattle.area.specs.Tabulate.{tabulate}
use Rattle.area.specs.Units.{lsn_at}
use Rattle.area.specs.TextPlaces.{no_text_place, text_place_at}
use Rattle.area.specs.Locale.{locale_or, no_locale}
use Rattle.area.specs.Track.{genre_at}
use Rattle.area.specs.declared.locale.Locale.{Locale}
use Rattle.area.specs.declared.text_places.TextPlace.{TextPlace}
use Rattle.area.specs.declared.track.Genre.{Genre}
use Rattle.disc.specs.Slot.{Slot, two_channel, multichannel}
use Rattle.disc.specs.declared.master.AreaPointer.{AreaPointer}
use Rattle.disc.specs.declared.master.Date.{Date}
use Rattle.disc.specs.declared.master.MasterToc.{MasterToc}

-- "LSN 510 to 519."
abbrev pub master_lsn : ℕ
master_lsn = 510

abbrev pub master_sectors : ℕ
master_sectors = 10

abbrev pub master_bytes : ℕ
master_bytes = 20480

-- "LSN 510 doesn't begin `SACDMTOC`"
abbrev pub master_signature : List ℕ
master_signature = 83 ∷ 65 ∷ 67 ∷ 68 ∷ 77 ∷ 84 ∷ 79 ∷ 67 ∷ []

unfoldable pub is_scarlet_book : List ℕ → Bool
is_scarlet_book table = signed_at table 0 master_signature

-- "Offsets as in `read_master`": its major version
unfoldable pub major_version : List ℕ → ℕ
major_version table = be_at table 8 1

-- "master major version above 1"
abbrev pub max_major_version : ℕ
max_major_version = 1

unfoldable pub is_newer : List ℕ → Bool
is_newer table = ltb max_major_version (major_version table)

-- ---- its parts: "Offsets as in `read_master`"
-- `pointer`: TOC-1's LSN, TOC-2's LSN and the sector count, each at its own offset
unfoldable pub pointer_at : List ℕ → ℕ → ℕ → ℕ → AreaPointer
pointer_at table toc1 toc2 sectors =
    record { toc1_lsn = lsn_at table toc1; toc2_lsn = lsn_at table toc2; toc_sectors = be_at table sectors 2 }

-- the pointers of a slot
unfoldable pub pointer_of : List ℕ → Slot → AreaPointer
pointer_of table two_channel = pointer_at table 64 68 84
pointer_of table multichannel = pointer_at table 72 76 86

-- the date: year, month and day
unfoldable pub date_at : List ℕ → Date
date_at table = record { year = be_at table 120 2; month = be_at table 122 1; day = be_at table 123 1 }

-- `genres`: four entries of four bytes
abbrev pub genre_count : ℕ
genre_count = 4

unfoldable pub genres_at : List ℕ → ℕ → List Genre
genres_at table at = tabulate genre_count (λ k. genre_at table (at + 4 * k))

-- where the text channel count stands
abbrev pub text_channels_offset : ℕ
text_channels_offset = 128

-- "at most 8 locales"
abbrev pub max_locales : ℕ
max_locales = 8

abbrev pub locales_offset : ℕ
locales_offset = 136

unfoldable pub locale_count : ℕ → ℕ
locale_count channels = min channels max_locales

unfoldable pub locales_at : List ℕ → ℕ → List Locale
locales_at table count = tabulate max_locales (locale_or table locales_offset count)

-- "`SACDText` missing in sector 1"
abbrev pub text_signature : List ℕ
text_signature = 83 ∷ 65 ∷ 67 ∷ 68 ∷ 84 ∷ 101 ∷ 120 ∷ 116 ∷ []

unfoldable pub has_text : List ℕ → Bool
has_text table = signed_at table sector_size text_signature

-- "`SACD_Man` missing in sector 9"
abbrev pub manufacturer_signature : List ℕ
manufacturer_signature = 83 ∷ 65 ∷ 67 ∷ 68 ∷ 95 ∷ 77 ∷ 97 ∷ 110 ∷ []

unfoldable pub has_manufacturer : List ℕ → Bool
has_manufacturer table = signed_at table (9 * sector_size) manufacturer_signature

-- "for disc texts, of sector 1": the table in which they stand
unfoldable pub text_sector : List ℕ → List ℕ
text_sector table = part sector_size sector_size table

-- how many texts a disc has: `DiscTextItem::ALL`; where their offsets stand in sector 1
abbrev pub disc_texts : ℕ
disc_texts = 16

abbrev pub disc_texts_offset : ℕ
disc_texts_offset = 16

-- their places in a text sector
unfoldable pub sector_texts : List ℕ → List TextPlace
sector_texts sector = tabulate disc_texts (λ item. text_place_at sector (disc_texts_offset + 2 * item))

-- .. in sector 1; none without `SACDText`
unfoldable pub disc_texts_at : List ℕ → List TextPlace
disc_texts_at table = cond (has_text table) (sector_texts (text_sector table)) (replicate disc_texts no_text_place)

-- "The manufacturer is a flag, its 2,040 bytes standing in the master region."
unfoldable pub manufacturer_flag : List ℕ → ℕ
manufacturer_flag table = cond (has_manufacturer table) 1 0

-- the two catalogue numbers' fields
unfoldable pub album_field : List ℕ → List ℕ
album_field table = part 24 field_size table

unfoldable pub disc_field : List ℕ → List ℕ
disc_field table = part 88 field_size table

-- the master record of a master table: "what Disc makes of its data bytes of LSN 510 to 519"
unfoldable pub master_of : List ℕ → MasterToc
master_of table = record {
  version = record { major = major_version table; minor = be_at table 9 1 };
  album_set_size = be_at table 16 2;
  album_sequence_number = be_at table 18 2;
  album_catalog_number = fixed_text_of (album_field table);
  album_catalog_number_stored = fixed_bytes_of (album_field table);
  album_genres = genres_at table 40;
  two_channel = pointer_of table two_channel;
  multichannel = pointer_of table multichannel;
  disc_flags = be_at table 80 1;
  disc_catalog_number = fixed_text_of (disc_field table);
  disc_catalog_number_stored = fixed_bytes_of (disc_field table);
  disc_genres = genres_at table 104;
  date = date_at table;
  text_channel_count = be_at table text_channels_offset 1;
  locale_count = locale_count (be_at table text_channels_offset 1);
  locales = locales_at table (be_at table text_channels_offset 1);
  text_charset = be_at table 138 1;
  text = disc_texts_at table;
  manufacturer = manufacturer_flag table;
}

-- "A refusal returns its number": every other field is zero
unfoldable pub no_pointer : AreaPointer
no_pointer = record { toc1_lsn = record { 0 = 0 }; toc2_lsn = record { 0 = 0 }; toc_sectors = 0 }

abbrev pub no_genres : List Genre
no_genres = replicate genre_count (record { category = 0; index = 0 })

unfoldable pub no_master : MasterToc
no_master = record {
  version = record { major = 0; minor = 0 };
  album_set_size = 0;
  album_sequence_number = 0;
  album_catalog_number = record { bytes = replicate field_size 0; len = 0 };
  album_catalog_number_stored = record { bytes = replicate field_size 0; len = 0 };
  album_genres = no_genres;
  two_channel = no_pointer;
  multichannel = no_pointer;
  disc_flags = 0;
  disc_catalog_number = record { bytes = replicate field_size 0; len = 0 };
  disc_catalog_number_stored = record { bytes = replicate field_size 0; len = 0 };
  disc_genres = no_genres;
  date = record { year = 0; month = 0; day = 0 };
  text_channel_count = 0;
  locale_count = 0;
  locales = replicate max_locales no_locale;
  text_charset = 0;
  text = replicate disc_texts no_text_place;
  manufacturer = 0;
}
