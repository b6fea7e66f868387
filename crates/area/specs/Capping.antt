-- The capping rule as a fact of a yielded track (02, item 4), over its own record and the warnings of its reading. That it holds of every track
-- is proved in `CappingLaws`. Assumes nothing.
use Rattle.std.specs.Prelude.{ℕ, ◌+◌, ◌≤◌, ◌<◌, min, ◌≡◌, length, get_or}
use mathlib.Core.List.{List, Memᴰ}
use Rattle.sectors.specs.Fill.{part}
use Rattle.area.specs.Cap.{cap_of}
use Rattle.area.specs.Limits.{max_tracks}
use Rattle.area.specs.Lone.{lone_slot}
use Rattle.area.specs.Timecode.{frame_number}
use Rattle.area.specs.Warning.{word_of, track_past_playtime}
use Rattle.area.specs.declared.lone.TableAnswer.{TableAnswer}
use Rattle.area.specs.declared.timecode.Frame.{Frame}
use Rattle.area.specs.declared.timecode.Timecode.{Timecode}
use Rattle.area.specs.declared.track.Track.{Track}
use Rattle.area.specs.declared.warning.Warning.{Warning}

-- the frame numbers of a track's stored times
unfoldable pub stored_start_frame : Track → Frame
stored_start_frame t = frame_number t.times.stored_start

unfoldable pub stored_duration_frame : Track → Frame
stored_duration_frame t = frame_number t.times.stored_duration

-- "the stored sum exceeds it": the play time
abbrev pub SumExceeds : Timecode → Track → Type 0
SumExceeds playtime t = (frame_number playtime).0 < (stored_start_frame t).0 + (stored_duration_frame t).0

-- warning 14 of the track of a number
unfoldable pub past_playtime : ℕ → ℕ → Warning
past_playtime slot number = record { code = track_past_playtime; slot = slot; track = number }

-- an entry stands at a place of a list
pub record Stands {W : Type 0} (w : W) (list : List W) (place : ℕ) : Type 0 where
  pub inside : place < length list
  pub there : get_or list place w ≡ w

-- "The capping rule becomes a stated fact of every yielded track": of a track of a slot whose area has that play time. `written` is how the
-- reading has its warnings: as they are, or as words.
pub record Capping {W : Type 0} (written : Warning → W) (warnings : List W) (slot : ℕ) (playtime : Timecode) (t : Track) : Type 0 where
  -- "start is capped at it, duration at what remains" (01, "Area")
  pub start : t.times.start_frame ≡ (cap_of (stored_start_frame t) (stored_duration_frame t) (frame_number playtime)).start_frame
  pub duration : t.times.duration_frames ≡ (cap_of (stored_start_frame t) (stored_duration_frame t) (frame_number playtime)).duration_frames
  -- "start plus duration is at most the play time,"
  pub within : t.times.start_frame.0 + t.times.duration_frames.0 ≤ (frame_number playtime).0
  -- "and warning 14 stands exactly when the stored sum exceeds it.": then, only then, and at one place
  pub comes : SumExceeds playtime t → (place : ℕ) × Stands (written (past_playtime slot t.number)) warnings place
  pub only : (place : ℕ) → Stands (written (past_playtime slot t.number)) warnings place → SumExceeds playtime t
  pub once : (place place' : ℕ) → Stands (written (past_playtime slot t.number)) warnings place
      → Stands (written (past_playtime slot t.number)) warnings place' → place ≡ place'

-- of every track that an accepted reading of a lone table hands back: "tracks of a yielded area fill records from 0", "the warnings fill the first
-- words", and "a track count above 255" counts "as 255"
abbrev pub LoneCapped : TableAnswer → List Track → List ℕ → Type 0
LoneCapped answer tracks words = answer.refusal ≡ 0 → (t : Track) → Memᴰ t (part 0 (min answer.area.track_count max_tracks) tracks)
    → Capping word_of (part 0 answer.warnings words) lone_slot answer.area.playtime t
