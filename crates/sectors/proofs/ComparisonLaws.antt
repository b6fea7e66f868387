-- A comparison finds a difference where it is not refused and finds the bytes unequal, by its two numbers. Assumes nothing.
use Rattle.std.specs.Prelude.{◌≡◌, Bool, true, false, not, ◌&&◌, ◌==◌, Ok, Err, refl}
use Rattle.sectors.specs.Refusal.{number_of}
use Rattle.sectors.specs.Run.{compared}
use Rattle.sectors.specs.declared.refusal.Refusal.{Refusal}
use Rattle.sectors.specs.declared.refusal.Refusal.TheVariants as refusal

pub found_unequal : (equal : Bool) → ((compared (Ok equal)).refusal == 0 && (compared (Ok equal)).equal == 0) ≡ not equal
unfolding compared
found_unequal true = refl
found_unequal false = refl

pub found_refused : (r : Refusal) → ((compared (Err r)).refusal == 0 && (compared (Err r)).equal == 0) ≡ false
unfolding compared number_of
found_refused refusal.ForeignFormat = refl
found_refused refusal.ShortBuffer = refl
found_refused refusal.NoSuchEntry = refl
found_refused refusal.NoHeader = refl
found_refused refusal.BeyondMending = refl
