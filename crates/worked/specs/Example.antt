-- 01's worked table of three sectors ("Header, fingerprint, listing"), and its listing; the same with two tracks, and their times; both with texts,
-- and how they ended. Assumes nothing.
use Rattle.std.specs.Prelude.{ℕ, ◌*◌, ◌/◌, ◌%◌, ◌^◌, List, [], ◌∷◌, ◌++◌, replicate}
use Prim.Native.Char.{code}
use Prim.Native.String.{String}
use Prim.Native.String as Text
use Rattle.sectors.specs.Fill.{fill}
use Rattle.sectors.specs.Format.{sector_size}
use Rattle.area.specs.declared.text_places.TextPlace.{TextPlace}
use Rattle.area.specs.declared.track.TrackTimes.{TrackTimes}
use Rattle.area.specs.declared.warning.Warning.{Warning}

-- the bytes of an ASCII text
unfoldable pub ascii : String → List ℕ
ascii Text.[] = []
ascii (Text.◌∷◌ c s) = code c ∷ ascii s

-- a four-byte number: "Numbers are big-endian."
unfoldable pub four_bytes : ℕ → List ℕ
four_bytes n = n / 2 ^ 24 ∷ n / 2 ^ 16 % 256 ∷ n / 2 ^ 8 % 256 ∷ n % 256 ∷ []

-- "Three sectors, zero but for:"
abbrev pub three_sectors : List ℕ
three_sectors = replicate (3 * sector_size) 0

unfoldable pub example_table : List ℕ
example_table =
    -- "`TWOCHTOC` at 0; byte 20 = 4; byte 64 = 1; byte 69 = 1;"
    fill 0 (ascii "TWOCHTOC")
    (fill 20 (4 ∷ [])
    (fill 64 (1 ∷ [])
    (fill 69 (1 ∷ [])
    -- "the four-byte numbers 1000 at 72, 2000 at 76, 1000 at 2056, 500 at 3076;"
    (fill 72 (four_bytes 1000)
    (fill 76 (four_bytes 2000)
    (fill 2056 (four_bytes 1000)
    (fill 3076 (four_bytes 500)
    -- "`SACDTRL1` at 2048; `SACDTRL2` at 4096, bytes 1 0 1 at 5124."
    (fill 2048 (ascii "SACDTRL1")
    (fill 4096 (ascii "SACDTRL2")
    (fill 5124 (1 ∷ 0 ∷ 1 ∷ []) three_sectors))))))))))

-- "Prints"
unfoldable pub example_listing : List ℕ
example_listing = ascii "locales 0\ntracks 1\n1 1000 500 0 4500\nwarnings 1\n14 1 1\n"

-- The same with a second track: its stored start, bytes 0 61 80 at 4108, has seconds above 59 and frames above 74; its duration is 0 0 5.
unfoldable pub stored_table : List ℕ
stored_table =
    fill 69 (2 ∷ [])
    (fill 2060 (four_bytes 1000)
    (fill 4108 (0 ∷ 61 ∷ 80 ∷ [])
    (fill 5128 (0 ∷ 0 ∷ 5 ∷ []) example_table)))

-- "Each track record carries both stored triples, as `TocStored` holds them, beside the capped frames." (02, item 4)
unfoldable pub stored_table_times : List TrackTimes
stored_table_times =
    record {
      start_frame = record { 0 = 0 };
      duration_frames = record { 0 = 4500 };
      stored_start = record { minutes = 0; seconds = 0; frames = 0 };
      stored_duration = record { minutes = 1; seconds = 0; frames = 1 };
    }
    ∷ record {
      start_frame = record { 0 = 4500 };
      duration_frames = record { 0 = 0 };
      stored_start = record { minutes = 0; seconds = 61; frames = 80 };
      stored_duration = record { minutes = 0; seconds = 0; frames = 5 };
    }
    ∷ []

-- a two-byte number
unfoldable pub two_bytes : ℕ → List ℕ
two_bytes n = n / 2 ^ 8 ∷ n % 256 ∷ []

-- The worked table with texts, of nine sectors. From 10,239 on stand 4,096 bytes and a zero byte, and then, from 14,336 on, 4,096 bytes up to the end.
unfoldable pub ends_table : List ℕ
ends_table =
    -- an area text at 200, one at 14,336, one past the table's end, and an empty one
    fill 144 (two_bytes 200 ++ two_bytes 14336 ++ two_bytes 18433 ++ two_bytes 204)
    (fill 200 (ascii "Area") example_table)
    -- the block at 6,144: the text of track 1 stands 4,085 behind
    ++ ascii "SACDTTxt" ++ two_bytes 4085 ++ replicate 4075 0
    -- its three items: of the unknown type 8, a title, a performer
    ++ (3 ∷ 0 ∷ 0 ∷ 0 ∷ [])
    ++ (8 ∷ 0 ∷ 65 ∷ 0 ∷ [])
    ++ (1 ∷ 0 ∷ replicate 4096 65 ++ (0 ∷ []))
    ++ (2 ∷ replicate 4095 65)

-- "A stored string shall also say how it ended: zero byte, 4,096 bytes, or end of table. Where 4,096 bytes reach just to the end of the table or to a
-- zero byte, it says 4,096 bytes." (02, item 5): the second, to the end
unfoldable pub ends_area_texts : List TextPlace
ends_area_texts =
    record { place = 200; end = 1 }
    ∷ record { place = 14336; end = 2 }
    ∷ record { place = 0; end = 0 }
    ∷ record { place = 0; end = 0 }
    ∷ []

-- .. the first, to a zero byte
unfoldable pub ends_track_texts : List (List TextPlace)
ends_track_texts = (record { place = 10239; end = 2 } ∷ record { place = 14338; end = 3 } ∷ replicate 12 (record { place = 0; end = 0 })) ∷ []

-- a warning of a lone table's track
unfoldable pub lone_warning : ℕ → ℕ → Warning
lone_warning code track = record { code = code; slot = 1; track = track }

-- "A track with such a text not ended by a zero byte gets warning 19, once, after 12 or 13."
unfoldable pub ends_warnings : List Warning
ends_warnings = lone_warning 14 1 ∷ lone_warning 13 1 ∷ lone_warning 19 1 ∷ []

-- The table of two tracks with texts, of six sectors. Track 1 has a title of 4,096 bytes, and another that replaces it; track 2 has an item of the unknown
-- type 8 up to the end.
unfoldable pub replaced_table : List ℕ
replaced_table =
    stored_table
    ++ ascii "SACDTTxt" ++ two_bytes 16 ++ two_bytes 4122 ++ replicate 4 0
    ++ (2 ∷ 0 ∷ 0 ∷ 0 ∷ [])
    ++ (1 ∷ 0 ∷ replicate 4096 65)
    ++ (1 ∷ 0 ∷ 65 ∷ 0 ∷ [])
    ++ (1 ∷ 0 ∷ 0 ∷ 0 ∷ [])
    ++ (8 ∷ replicate 2017 65)

-- "such a text" is one of its record: neither track has one
unfoldable pub replaced_track_texts : List (List TextPlace)
replaced_track_texts =
    (record { place = 10264; end = 1 } ∷ replicate 13 (record { place = 0; end = 0 }))
    ∷ replicate 14 (record { place = 0; end = 0 })
    ∷ []

unfoldable pub replaced_warnings : List Warning
replaced_warnings = lone_warning 14 1 ∷ lone_warning 14 2 ∷ lone_warning 13 2 ∷ []
