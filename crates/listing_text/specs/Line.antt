-- The lines of a listing (01, "Header, fingerprint, listing"). Assumes nothing.
use Rattle.std.specs.Prelude.{ℕ}
use mathlib.Core.List.{List, [], ◌∷◌, ◌++◌, flat_map}
use Rattle.listing_text.specs.Decimal.{decimal}

-- ASCII codes
abbrev pub blank : ℕ
blank = 0x20

abbrev pub line_feed : ℕ
line_feed = 0x0A

-- ".. one blank between": a field behind another
unfoldable pub next_field : ℕ → List ℕ
next_field n = blank ∷ decimal n

-- "Every field is a decimal number, one blank between."
unfoldable pub fields_of : List ℕ → List ℕ
fields_of [] = []
fields_of (n ∷ ns) = decimal n ++ flat_map next_field ns

-- "Each line ends in a line feed."
unfoldable pub line_of : List ℕ → List ℕ
line_of ns = fields_of ns ++ (line_feed ∷ [])

-- "a line of that word, a blank and the count"; "the line `refused`, a blank and the number"
unfoldable pub word_line : List ℕ → ℕ → List ℕ
word_line word n = word ++ next_field n ++ (line_feed ∷ [])
