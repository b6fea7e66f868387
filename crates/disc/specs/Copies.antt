-- The copies of a slot's table, in any source (01, "Area", up to the signature; "Disc"). Assumes nothing.
use Rattle.std.specs.Prelude.{ℕ, Bool, true, false, cond, not, ◌&&◌, List, [], ◌∷◌, ◌++◌, ltb, eqb}
use Rattle.std.proofs.Math.Option.{Option, none, some}
use Rattle.sectors.specs.Bytes.{same}
use Rattle.sectors.specs.Options.{only_if}
use Rattle.sectors.specs.Sector.{readable}
use Rattle.sectors.specs.Source.{Source, run_of}
use Rattle.sectors.specs.declared.sector.Lsn.{Lsn}
use Rattle.area.specs.Lent.{when_true}
use Rattle.area.specs.Limits.{max_area_toc_sectors}
use Rattle.area.specs.Table.{Table, skips, yields, of_slot, area_at, area_given, tracks_given, warnings_of}
use Rattle.area.specs.Area.{no_area}
use Rattle.area.specs.declared.area.Area.{Area}
use Rattle.area.specs.declared.track.Track.{Track}
use Rattle.area.specs.declared.warning.Warning.{Warning}
use Rattle.disc.specs.Slot.{Slot, slot_number}
use Rattle.disc.specs.Warning.{area_toc_too_large, area_toc1_unreadable, area_toc2_unreadable, area_toc_copies_differ, area_toc_unreadable}
use Rattle.disc.specs.declared.master.AreaPointer.{AreaPointer}
use Rattle.disc.specs.declared.copies.SlotCopies.{SlotCopies}

-- "A slot is used when TOC-1's LSN and the sector count are nonzero."
unfoldable pub is_used : AreaPointer → Bool
is_used p = not (eqb p.toc1_lsn.0 0) && not (eqb p.toc_sectors 0)

-- "Above 128 sectors: warning 3, nothing read."
unfoldable pub is_too_large : AreaPointer → Bool
is_too_large p = ltb max_area_toc_sectors p.toc_sectors

-- "a used slot of at most 128 sectors"
unfoldable pub is_served : AreaPointer → Bool
is_served p = is_used p && not (is_too_large p)

-- "A TOC-2 of LSN 0 is no copy: never read, and no 5."
unfoldable pub has_second : AreaPointer → Bool
has_second p = not (eqb p.toc2_lsn.0 0)

-- the bytes of TOC-1 and of TOC-2, where they are readable
unfoldable pub first_copy : Source → AreaPointer → Option (List ℕ)
first_copy source p = only_if (is_served p) (run_of source p.toc1_lsn.0 p.toc_sectors)

unfoldable pub second_copy : Source → AreaPointer → Option (List ℕ)
second_copy source p = only_if (is_served p && has_second p) (run_of source p.toc2_lsn.0 p.toc_sectors)

-- whether a copy is readable
unfoldable pub is_there : Option (List ℕ) → Bool
is_there none = false
is_there (some bytes) = true

-- "both readable and unequal"
unfoldable pub unequal : Option (List ℕ) → Option (List ℕ) → Bool
unequal (some a) (some b) = not (same b a)
unequal (some a) none = false
unequal none y = false

-- what is known of a slot's copies
unfoldable pub copies_of : Source → AreaPointer → SlotCopies
copies_of source p = record {
  pointer = p;
  toc1 = is_there (first_copy source p);
  toc2 = is_there (second_copy source p);
  differ = unequal (first_copy source p) (second_copy source p);
}

-- "Unreadable copy: warning 4 or 5. A TOC-2 of LSN 0 is no copy: .. no 5. .. both readable and unequal: 6. None: 7."
unfoldable pub served_warnings : ℕ → SlotCopies → List Warning
served_warnings slot c =
    when_true (not c.toc1) (of_slot area_toc1_unreadable slot)
    ++ when_true (has_second c.pointer && not c.toc2) (of_slot area_toc2_unreadable slot)
    ++ when_true c.differ (of_slot area_toc_copies_differ slot)
    ++ when_true (not c.toc1 && not c.toc2) (of_slot area_toc_unreadable slot)

-- "Above 128 sectors: warning 3"; none of a slot that is not used
unfoldable pub copy_warnings : ℕ → SlotCopies → List Warning
copy_warnings slot c =
    cond (is_used c.pointer) (cond (is_too_large c.pointer) (of_slot area_toc_too_large slot ∷ []) (served_warnings slot c)) []

-- a copy: its address, its sectors and its bytes
pub record Copy : Type 0 where
  pub lsn : ℕ
  pub sectors : ℕ
  pub bytes : List ℕ

-- "TOC-1 if readable, else TOC-2": the copy that a slot is read from
unfoldable pub chosen_of : AreaPointer → Option (List ℕ) → Option (List ℕ) → Option Copy
chosen_of p (some a) y = some (record { lsn = p.toc1_lsn.0; sectors = p.toc_sectors; bytes = a })
chosen_of p none (some b) = some (record { lsn = p.toc2_lsn.0; sectors = p.toc_sectors; bytes = b })
chosen_of p none none = none

unfoldable pub chosen : Source → AreaPointer → Option Copy
chosen source p = chosen_of p (first_copy source p) (second_copy source p)

-- its bytes; none without one
unfoldable pub bytes_of : Option Copy → List ℕ
bytes_of none = []
bytes_of (some c) = c.bytes

-- what Area, from the signature on, makes of it
unfoldable pub table_in : Slot → Option Copy → Option Table
table_in slot none = none
table_in slot (some c) = some (area_at c.bytes (slot_number slot) c.lsn c.sectors)

-- what a slot's table gives: an area, its record, its tracks, its warnings
unfoldable pub has_area : Option Table → Bool
has_area none = false
has_area (some (skips warning)) = false
has_area (some (yields area tracks warnings)) = true

-- "every number in the record of a slot without an area, are zero"
unfoldable pub area_in : Option Table → Area
area_in none = no_area
area_in (some t) = area_given t

unfoldable pub tracks_in : Option Table → List Track
tracks_in none = []
tracks_in (some t) = tracks_given t

unfoldable pub warnings_in : Option Table → List Warning
warnings_in none = []
warnings_in (some t) = warnings_of t

-- the table of a slot, and its warnings
unfoldable pub slot_table : Source → Slot → AreaPointer → Option Table
slot_table source slot p = table_in slot (chosen source p)

unfoldable pub slot_warnings : Source → Slot → AreaPointer → List Warning
slot_warnings source slot p = copy_warnings (slot_number slot) (copies_of source p) ++ warnings_in (slot_table source slot p)

-- ---- of an image of so many bytes
-- which copies it has
unfoldable pub first_readable : ℕ → ℕ → AreaPointer → Bool
first_readable format bytes p = is_served p && readable format bytes p.toc1_lsn.0 p.toc_sectors

unfoldable pub second_readable : ℕ → ℕ → AreaPointer → Bool
second_readable format bytes p = is_served p && has_second p && readable format bytes p.toc2_lsn.0 p.toc_sectors

-- the address of the copy that is read
unfoldable pub chosen_lsn : AreaPointer → Bool → Lsn
chosen_lsn p toc1 = cond toc1 p.toc1_lsn p.toc2_lsn
