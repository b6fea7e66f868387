-- Texts of records: "as bytes, one a character". Assumes nothing.
use Rattle.std.specs.Prelude.{ℕ, ◌-◌, List, ◌++◌, length, replicate}

-- a text in so many bytes, zero past it
unfoldable pub padded : ℕ → List ℕ → List ℕ
padded size text = text ++ replicate (size - length text) 0
