-- The formats in which an image stores its sectors (01, "Sectors"). Assumes nothing.
use Rattle.std.specs.Prelude.{ℕ, Bool, Option, List, [], ◌∷◌, nat_le, slice_get, unwrap_or}
use Rattle.sectors.specs.declared.sector.Layout.{Layout}

-- "format is not 0 (`Plain`), 1 (`Raw2054`), 2 (`Raw2064`)"
unfoldable pub foreign : ℕ → Bool
foreign format = nat_le 3 format

-- "Stored sizes 2048, 2054, 2064; data begins at byte 0, 6, 12.": by format
abbrev pub layouts : List Layout
layouts =
    record { stored = 2048; offset = 0 } ∷ record { stored = 2054; offset = 6 } ∷ record { stored = 2064; offset = 12 } ∷ []

-- none of a foreign format
unfoldable pub layout_of : ℕ → Option Layout
layout_of format = slice_get layouts format

-- a foreign format has the size 0
abbrev pub no_layout : Layout
no_layout = record { stored = 0; offset = 0 }

unfoldable pub stored_size : ℕ → ℕ
stored_size format = (unwrap_or (layout_of format) no_layout).stored

unfoldable pub data_offset : ℕ → ℕ
data_offset format = (unwrap_or (layout_of format) no_layout).offset

-- "a sector's 2,048 data bytes"
abbrev pub sector_size : ℕ
sector_size = 2048
