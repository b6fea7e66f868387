-- Lists of bytes. Assumes nothing.
use Rattle.std.specs.Prelude.{ℕ, Bool, List}
use Rattle.std.specs.Str.{bytes_eq}

-- "both readable and unequal": whether two lists are the same, byte by byte
unfoldable pub same : List ℕ → List ℕ → Bool
same a b = bytes_eq a b
