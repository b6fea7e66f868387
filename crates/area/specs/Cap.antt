-- A track's times and the play time (01, "Area"). Assumes nothing.
use Rattle.std.specs.Prelude.{◌+◌, ◌-◌, min, Bool, true, false, cond, ltb}
use Rattle.area.specs.declared.cap.Capped.{Capped}
use Rattle.area.specs.declared.timecode.Frame.{Frame}

-- "If start + duration exceeds the play time"
unfoldable pub exceeds : Frame → Frame → Frame → Bool
exceeds start duration playtime = ltb playtime.0 (start.0 + duration.0)

-- ".. start is capped at it, duration at what remains, warning 14."
unfoldable pub capped : Frame → Frame → Frame → Capped
capped start duration playtime = record {
  start_frame = record { 0 = min start.0 playtime.0 };
  duration_frames = record { 0 = min duration.0 (playtime.0 - min start.0 playtime.0) };
  past_playtime = true;
}

-- times that end within the play time stay as they are
unfoldable pub uncapped : Frame → Frame → Capped
uncapped start duration = record { start_frame = start; duration_frames = duration; past_playtime = false }

unfoldable pub cap_of : Frame → Frame → Frame → Capped
cap_of start duration playtime = cond (exceeds start duration playtime) (capped start duration playtime) (uncapped start duration)
