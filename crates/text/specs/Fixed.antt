-- Fixed text fields (01, "Text"). Assumes nothing.
use Rattle.std.specs.Prelude.{ℕ, List, length, take}
use Rattle.text.specs.Padded.{padded}
use Rattle.text.specs.String.{until_zero}
use Rattle.text.specs.White.{trimmed}
use Rattle.text.specs.declared.fixed.FixedText.{FixedText}

-- A field has at most 16 bytes; of a longer one the first 16 are the field.
abbrev pub field_size : ℕ
field_size = 16

-- "up to the first zero"
unfoldable pub field_text : List ℕ → List ℕ
field_text field = until_zero (take field_size field)

-- "Records hold the texts .. as bytes, one a character.": with their number, zero past them
unfoldable pub fixed_of : List ℕ → FixedText
fixed_of text = record { bytes = padded field_size text; len = length text }

-- `fixed_bytes`: the text as stored
unfoldable pub fixed_bytes_of : List ℕ → FixedText
fixed_bytes_of field = fixed_of (field_text field)

-- "`fixed_text`: up to the first zero, trimmed at both ends"
unfoldable pub fixed_text_of : List ℕ → FixedText
fixed_text_of field = fixed_of (trimmed (field_text field))
