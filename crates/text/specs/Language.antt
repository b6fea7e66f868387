-- Language codes (01, "Text"). Assumes nothing.
use Rattle.std.specs.Prelude.{ℕ, Bool, ◌||◌, List, eqb, length}
use Rattle.text.specs.While.{drop_while_end}
use Rattle.text.specs.Padded.{padded}
use Rattle.text.specs.Utf8.{blank}
use Rattle.text.specs.declared.language.LanguageCode.{LanguageCode}

-- "two characters"
abbrev pub language_size : ℕ
language_size = 2

-- "zeros and blanks"
unfoldable pub is_zero_orBlank : ℕ → Bool
is_zero_orBlank b = eqb b 0 || eqb b blank

-- "two characters less trailing zeros and blanks"
unfoldable pub language_text : List ℕ → List ℕ
language_text code = drop_while_end is_zero_orBlank code

-- "as bytes, one a character": with their number, zero past them
unfoldable pub language_of : List ℕ → LanguageCode
language_of code = record { bytes = padded language_size (language_text code); len = length (language_text code) }
