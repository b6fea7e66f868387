-- White space at the ends of a text (01, "Text"). Assumes nothing.
use Rattle.std.specs.Prelude.{ℕ, Bool, ◌&&◌, ◌||◌, List, leb, eqb}
use Rattle.text.specs.While.{drop_while, drop_while_end}

-- "hexadecimal 09-0D, 1C-20, 85, A0"
unfoldable pub is_white : ℕ → Bool
is_white b = leb 0x09 b && leb b 0x0d || leb 0x1c b && leb b 0x20 || eqb b 0x85 || eqb b 0xa0

-- "trimmed at both ends of hexadecimal 09-0D, 1C-20, 85, A0; controls inside remain"
unfoldable pub trimmed : List ℕ → List ℕ
trimmed text = drop_while_end is_white (drop_while is_white text)
