-- A code point stored byte by byte. Assumes nothing.
use mathlib.Core.Path.{◌≡◌, ap, ◌∙◌}
use mathlib.Core.List.{List}
use Prim.Native.Nat.{ℕ, ◌+◌, ◌≤◌}
use lib.ListN.{length}
use lib.Seq.{sets}
use Rattle.sectors.specs.Fill.{fill}
use Rattle.sectors.specs.FillLaws.{sets_fill}
use Rattle.text.specs.Utf8.{utf8}

-- bytes that are a code point's, stored one after another
pub stored : (page : List ℕ) (at point : ℕ) (bytes : List ℕ) → bytes ≡ utf8 point → at + length (utf8 point) ≤ length page
    → (sets page at bytes ≡ fill at (utf8 point) page) × (at + length bytes ≡ at + length (utf8 point))
stored page at point bytes e room =
    (ap (sets page at) e ∙ sets_fill at (utf8 point) page room, ap (λ (b : List ℕ). at + length b) e)
