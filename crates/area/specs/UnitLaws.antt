-- Laws of sector addresses. Assumes nothing.
use Rattle.std.specs.Prelude.{◌≡◌, refl, List, ℕ}
use Rattle.sectors.specs.Number.{be_at}
use Rattle.sectors.specs.declared.sector.Lsn.{Lsn}
use Rattle.area.specs.Units.{lsn_at}

-- the address is the number in the four bytes
pub lsn_at_lem : (table : List ℕ) (at : ℕ) → ◌≡◌ {A = Lsn} (record { 0 = be_at table at 4 }) (lsn_at table at)
unfolding lsn_at
lsn_at_lem table at = refl

-- .. and that number is its own
pub lsn_number : (table : List ℕ) (at : ℕ) → (lsn_at table at).0 ≡ be_at table at 4
unfolding lsn_at
lsn_number table at = refl
