-- The starred cards of 01 ("Bench cards"), and examples of 02, as one table: each has what is asked and the answer that it wants, says a proposition
-- of the definitions, and has a test that can be computed. Assumes nothing.
use Rattle.std.specs.Prelude.{ℕ, Bool, true, false, cond, not, ◌&&◌, List, [], ◌∷◌, ◌≡◌, ltb, eqb, length, replicate}
use Rattle.sectors.specs.Audit.{header_size, verdict_of}
use Rattle.sectors.specs.Bytes.{same}
use Rattle.sectors.specs.Header.{Sound, is_sound}
use Rattle.text.specs.Charset.{latin1, charset_of}
use Rattle.text.specs.Decode.{decode_of, decode_into}
use Rattle.area.specs.Cap.{cap_of}
use Rattle.area.specs.Timecode.{frame_number}
use Rattle.area.specs.declared.cap.Capped.{Capped}
use Rattle.area.specs.declared.timecode.Frame.{Frame}
use Rattle.area.specs.declared.timecode.Timecode.{Timecode}

pub data Card : Type 0 where
  -- a timecode; its frame number
  frame_card : Timecode → Frame → Card
  -- start and duration, under the play time of the cards; what is kept of them
  cap_card : Frame → Frame → Capped → Card
  -- a byte of Latin-1; its UTF-8
  byte_card : ℕ → List ℕ → Card
  -- the code of a set; the set
  charset_card : ℕ → ℕ → Card
  -- a header's six bytes; whether it is sound
  header_card : List ℕ → Bool → Card
  -- a header's six bytes; the number of what is answered of it
  verdict_card : List ℕ → ℕ → Card

abbrev timecode : ℕ → ℕ → ℕ → Timecode
timecode minutes seconds frames = record { minutes = minutes; seconds = seconds; frames = frames }

abbrev frame : ℕ → Frame
frame n = record { 0 = n }

abbrev kept : ℕ → ℕ → Capped
kept start duration = record { start_frame = frame start; duration_frames = frame duration; past_playtime = false }

abbrev warned : ℕ → ℕ → Capped
warned start duration = record { start_frame = frame start; duration_frames = frame duration; past_playtime = true }

-- "Play time 4500"
abbrev pub card_playtime : Frame
card_playtime = frame 4500

unfoldable pub cards : List Card
cards =
    -- "Frames 0:0:0 = 0*, 1:0:0 = 4500*, 255:255:255 = 1166880*."
    frame_card (timecode 0 0 0) (frame 0)
    ∷ frame_card (timecode 1 0 0) (frame 4500)
    ∷ frame_card (timecode 255 255 255) (frame 1166880)
    -- "Play time 4500: 4400+100 kept*; 4400+101 gives 4400, 100, warned*; 4600+0 gives 4500, 0, warned*; 4500+0 kept*."
    ∷ cap_card (frame 4400) (frame 100) (kept 4400 100)
    ∷ cap_card (frame 4400) (frame 101) (warned 4400 100)
    ∷ cap_card (frame 4600) (frame 0) (warned 4500 0)
    ∷ cap_card (frame 4500) (frame 0) (kept 4500 0)
    -- "Byte E9 gives C3 A9*."
    ∷ byte_card 0xe9 (0xc3 ∷ 0xa9 ∷ [])
    -- "Set code 8 is Latin-1*, 11 is set 3*."
    ∷ charset_card 8 latin1
    ∷ charset_card 11 3
    -- "Header 00 00 00 01 03 02 sound*, 00 00 00 01 02 03 not*."
    ∷ header_card (0x00 ∷ 0x00 ∷ 0x00 ∷ 0x01 ∷ 0x03 ∷ 0x02 ∷ []) true
    ∷ header_card (0x00 ∷ 0x00 ∷ 0x00 ∷ 0x01 ∷ 0x02 ∷ 0x03 ∷ []) false
    -- 02, item 2: "sound, blank or unsound, blank being exactly those six zeros"
    ∷ verdict_card (0x00 ∷ 0x00 ∷ 0x00 ∷ 0x01 ∷ 0x03 ∷ 0x02 ∷ []) 1
    ∷ verdict_card (0x00 ∷ 0x00 ∷ 0x00 ∷ 0x00 ∷ 0x00 ∷ 0x00 ∷ []) 2
    ∷ verdict_card (0x00 ∷ 0x00 ∷ 0x00 ∷ 0x00 ∷ 0x00 ∷ 0x01 ∷ []) 3
    ∷ verdict_card (0x01 ∷ 0x00 ∷ 0x00 ∷ 0x00 ∷ 0x00 ∷ 0x00 ∷ []) 3
    ∷ []

-- ---- what a card says

-- sound, or not
unfoldable pub Judged : Bool → List ℕ → Type 0
Judged true bytes = Sound bytes
Judged false bytes = ¬ Sound bytes

-- decoding, lent no mapping, fills a page of as many bytes as a text has, and with the text
pub record Decodes (bytes : List ℕ) (code : ℕ) (text : List ℕ) : Type 0 where
  pub its_length : (decode_of bytes code [] (length text)).len ≡ length text
  pub its_bytes : decode_into bytes code [] (replicate (length text) 0) ≡ text

unfoldable pub Holds : Card → Type 0
Holds (frame_card t number) = frame_number t ≡ number
Holds (cap_card start duration times) = cap_of start duration card_playtime ≡ times
Holds (byte_card b text) = Decodes (b ∷ []) latin1 text
Holds (charset_card code charset) = charset_of code ≡ charset
Holds (header_card bytes sound) = Judged sound bytes
Holds (verdict_card bytes verdict) = verdict_of bytes ≡ verdict

-- all of them do
unfoldable pub AllHold : List Card → Type 0
AllHold [] = Unit
AllHold (card ∷ rest) = Holds card × AllHold rest

-- ---- the test of a card

-- whether two tests come out alike
unfoldable pub alike : Bool → Bool → Bool
alike a b = cond a b (not b)

unfoldable pub same_times : Capped → Capped → Bool
same_times a b =
    eqb a.start_frame.0 b.start_frame.0
    && eqb a.duration_frames.0 b.duration_frames.0
    && alike a.past_playtime b.past_playtime

unfoldable pub decodes_to : List ℕ → ℕ → List ℕ → Bool
decodes_to bytes code text =
    eqb (decode_of bytes code [] (length text)).len (length text) && same (decode_into bytes code [] (replicate (length text) 0)) text

unfoldable pub are_bytes : List ℕ → Bool
are_bytes [] = true
are_bytes (b ∷ rest) = ltb b 256 && are_bytes rest

unfoldable pub passes : Card → Bool
passes (frame_card t number) = eqb (frame_number t).0 number.0
passes (cap_card start duration times) = same_times (cap_of start duration card_playtime) times
passes (byte_card b text) = decodes_to (b ∷ []) latin1 text
passes (charset_card code charset) = eqb (charset_of code) charset
passes (header_card bytes sound) = eqb (length bytes) header_size && are_bytes bytes && alike (is_sound bytes) sound
passes (verdict_card bytes verdict) = eqb (verdict_of bytes) verdict

unfoldable pub all_pass : List Card → Bool
all_pass [] = true
all_pass (card ∷ rest) = passes card && all_pass rest
