-- The listing of a lone table (01, "Header, fingerprint, listing"). Assumes nothing.
use Rattle.std.specs.Prelude.{ℕ, ◌/◌, ◌%◌, cond, ltb, length, get_or, take}
use mathlib.Core.List.{List, [], ◌∷◌, ◌++◌, map, flat_map}
use Rattle.area.specs.Limits.{max_tracks}
use Rattle.area.specs.Refusal.{no_audio_areas, odd_table}
use Rattle.area.specs.Table.{skips, yields, head_warnings, tracks_in, warnings_in}
use Rattle.area.specs.Lone.{Lone, refused, reads, lone_of, lone_slot, table_words}
use Rattle.area.specs.declared.area.Area.{Area}
use Rattle.area.specs.declared.locale.Locale.{Locale}
use Rattle.area.specs.declared.table.TableHead.{TableHead}
use Rattle.area.specs.declared.track.Track.{Track}
use Rattle.area.specs.Warning.{word_of}
use Rattle.area.specs.declared.warning.Warning.{Warning}
use Rattle.listing_text.specs.Line.{line_of, word_line}

-- `locales`, `tracks`, `warnings`, `refused`
abbrev pub locales_word : List ℕ
locales_word = 108 ∷ 111 ∷ 99 ∷ 97 ∷ 108 ∷ 101 ∷ 115 ∷ []

abbrev pub tracks_word : List ℕ
tracks_word = 116 ∷ 114 ∷ 97 ∷ 99 ∷ 107 ∷ 115 ∷ []

abbrev pub warnings_word : List ℕ
warnings_word = 119 ∷ 97 ∷ 114 ∷ 110 ∷ 105 ∷ 110 ∷ 103 ∷ 115 ∷ []

abbrev pub refused_word : List ℕ
refused_word = 114 ∷ 101 ∷ 102 ∷ 117 ∷ 115 ∷ 101 ∷ 100 ∷ []

module _ {A : Type 0} where
  -- "a line of that word, a blank and the count, then the section's lines"
  unfoldable pub section : List ℕ → (A → List ℕ) → List A → List ℕ
  section word line entries = word_line word (length entries) ++ flat_map line entries

-- "Locale lines: two code bytes, set byte."
unfoldable pub locale_line : Locale → List ℕ
locale_line locale = line_of (get_or locale.language_code 0 0 ∷ get_or locale.language_code 1 0 ∷ locale.charset ∷ [])

-- "Track lines: number, start LSN, sectors, start frame, duration."
unfoldable pub track_line : Track → List ℕ
track_line track =
    line_of (track.number ∷ track.start_lsn.0 ∷ track.length_sectors ∷ track.times.start_frame.0 ∷ track.times.duration_frames.0 ∷ [])

-- "Warning lines: code, slot, track."
unfoldable pub warning_line : Warning → List ℕ
warning_line warning = line_of (warning.code ∷ warning.slot ∷ warning.track ∷ [])

-- the locales of an area: of its record's ten as many as its count says
unfoldable pub locales_of : Area → List Locale
locales_of area = take area.locale_count area.locales

-- "It prints the sections `locales`, `tracks` and `warnings`"
unfoldable pub sections_of : Area → List Track → List Warning → List ℕ
sections_of area tracks warnings =
    section locales_word locale_line (locales_of area) ++ section tracks_word track_line tracks ++ section warnings_word warning_line warnings

-- "A refusal prints only the line `refused`, a blank and the number."
unfoldable pub refused_line : ℕ → List ℕ
refused_line number = word_line refused_word number

-- of what a table gives
unfoldable pub lone_listing : Lone → List ℕ
lone_listing (refused number) = refused_line number
lone_listing (reads (skips warning)) = refused_line no_audio_areas
lone_listing (reads (yields area tracks warnings)) = sections_of area tracks warnings

-- "reads a lone table of at most 65,536 bytes"
abbrev pub max_listed : ℕ
max_listed = 65536

-- ".. (longer is 7)": the table is read with all the room that it asks for
unfoldable pub listing_of : List ℕ → List ℕ
listing_of table = cond (ltb max_listed (length table)) (refused_line odd_table) (lone_listing (lone_of table max_tracks table_words))

-- The warning that a word stands for: "A warning word is code times 65,536 + slot times 256 + track".
unfoldable pub warning_of : ℕ → Warning
warning_of word = record { code = word / 65536; slot = word / 256 % 256; track = word % 256 }

-- the sections of a lone table's area by its head, each warning told by its word
unfoldable pub sections_by : List ℕ → TableHead → List ℕ
sections_by table head =
    sections_of head.area (tracks_in table head) (map warning_of (map word_of (head_warnings lone_slot head ++ warnings_in table head)))
