-- Timecodes (01, "Area"). Assumes nothing.
use Rattle.std.specs.Prelude.{ℕ, ◌+◌, ◌*◌, List}
use Rattle.sectors.specs.Number.{be_at}
use Rattle.area.specs.declared.timecode.Frame.{Frame}
use Rattle.area.specs.declared.timecode.Timecode.{Timecode}

-- minutes, seconds and frames, a byte each, from a place on
unfoldable pub timecode_at : List ℕ → ℕ → Timecode
timecode_at table at =
    record { minutes = be_at table at 1; seconds = be_at table (at + 1) 1; frames = be_at table (at + 2) 1 }

-- "A frame number is (minutes times 60 + seconds) times 75 + frames."
unfoldable pub frame_number : Timecode → Frame
frame_number t = record { 0 = (t.minutes * 60 + t.seconds) * 75 + t.frames }
