-- Signatures of a table's structures. Assumes nothing.
use Rattle.std.specs.Prelude.{ℕ, Bool, List, length}
use Rattle.sectors.specs.Fill.{part}
use Rattle.sectors.specs.Bytes.{same}

-- "LSN 510 doesn't begin `SACDMTOC`": whether the bytes of a signature stand at a place of a table
unfoldable pub signed_at : List ℕ → ℕ → List ℕ → Bool
signed_at table at signature = same (part at (length signature) table) signature
