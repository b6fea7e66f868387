-- Answers as C has them: flags are 0 or 1. Assumes nothing.
use Rattle.std.specs.Prelude.{ℕ, Bool, cond, Option, Some, None}
use Rattle.area.specs.declared.cap.Capped.{Capped}
use Rattle.area.specs.declared.items.Drawn.{Drawn}
use Rattle.scarletbook.specs.declared.CapAnswer.{CapAnswer}
use Rattle.scarletbook.specs.declared.DrawAnswer.{DrawAnswer}

unfoldable pub flag_of : Bool → ℕ
flag_of test = cond test 1 0

unfoldable pub cap_answer : Capped → CapAnswer
cap_answer c =
    record { start_frame = c.start_frame; duration_frames = c.duration_frames; past_playtime = flag_of c.past_playtime }

-- of a draw from a place on, of so many items that are left: where none is drawn, the cursor stays
unfoldable pub draw_answer : ℕ → ℕ → Option Drawn → DrawAnswer
draw_answer next left None = record { found = 0; kind = 0; place = 0; len = 0; next = next; left = left }
draw_answer next left (Some d) = record { found = 1; kind = d.kind; place = d.place; len = d.len; next = d.next; left = d.left }
