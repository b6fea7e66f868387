-- Laws of the cap: what is kept ends within the play time, and it is warned of exactly when the stored sum exceeds it. Assumes nothing.
use Rattle.std.specs.Prelude.{◌≡◌, Bool, cond, ◌+◌, ◌≤◌}
use Rattle.std.proofs.Math.Path.{refl}
use Rattle.std.proofs.Math.Bool.{true, false}
use native.Mathlib.Omega.{arith}
use borrow.Author.Tests.{ltb-false}
use Rattle.area.specs.Cap.{exceeds, capped, uncapped, cap_of}
use Rattle.area.specs.declared.cap.Capped.{Capped}
use Rattle.area.specs.declared.timecode.Frame.{Frame}

module _ (start duration playtime : Frame) where
  abbrev Within : Capped → Type 0
  Within c = c.start_frame.0 + c.duration_frames.0 ≤ playtime.0

  pub cap_within : Within (cap_of start duration playtime)
  unfolding cap_of exceeds capped uncapped
  cap_within = go (exceeds start duration playtime) refl
    where
      go : (t : Bool) → exceeds start duration playtime ≡ t → Within (cond t (capped start duration playtime) (uncapped start duration))
      go true e = omega arith
      go false e = ltb-false playtime.0 (start.0 + duration.0) e

  pub cap_warned : (cap_of start duration playtime).past_playtime ≡ exceeds start duration playtime
  unfolding cap_of capped uncapped
  cap_warned = go (exceeds start duration playtime)
    where
      go : (t : Bool) → (cond t (capped start duration playtime) (uncapped start duration)).past_playtime ≡ t
      go true = refl
      go false = refl
