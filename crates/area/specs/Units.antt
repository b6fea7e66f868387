-- Sector addresses and frame numbers (01, "Area"): "Sector addresses and frame numbers are two units, and no sum or comparison takes one of
-- each." Sums and comparisons below are of records `Lsn` or of records `Frame`. Assumes nothing.
use Rattle.std.specs.Prelude.{ℕ, List}
use Rattle.sectors.specs.Number.{be_at}
use Rattle.sectors.specs.declared.sector.Lsn.{Lsn}

-- the sector address in four bytes from a place on
unfoldable pub lsn_at : List ℕ → ℕ → Lsn
lsn_at table at = record { 0 = be_at table at 4 }
