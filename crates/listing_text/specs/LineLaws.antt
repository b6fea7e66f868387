-- Laws of lines: a line of so many fields, piece by piece. Assumes nothing.
use Rattle.std.specs.Prelude.{◌≡◌, ℕ}
use mathlib.Core.List.{[], ◌∷◌, ◌++◌, flat_map, append_assoc, append-nil}
use Rattle.listing_text.specs.Decimal.{decimal}
use Rattle.listing_text.specs.Line.{line_feed, next_field, fields_of, line_of}

pub line_of_three : (a b c : ℕ) → line_of (a ∷ b ∷ c ∷ []) ≡ decimal a ++ next_field b ++ next_field c ++ (line_feed ∷ [])
unfolding line_of fields_of flat_map
line_of_three a b c = simp (append_assoc, append-nil)

pub line_of_five : (a b c d e : ℕ)
    → line_of (a ∷ b ∷ c ∷ d ∷ e ∷ []) ≡ decimal a ++ next_field b ++ next_field c ++ next_field d ++ next_field e ++ (line_feed ∷ [])
unfolding line_of fields_of flat_map
line_of_five a b c d e = simp (append_assoc, append-nil)
