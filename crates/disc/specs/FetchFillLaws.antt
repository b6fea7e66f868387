-- Laws of what a fetch fills: the master region with the master table, a slot's region with the chosen copy, with which the second is then
-- compared. Assumes nothing.
use Prim.Native.Nat.{ℕ, ◌+◌, ◌*◌, ◌≤◌}
use Rattle.std.proofs.Common.{arith, ap, ◌∙◌}
use Rattle.std.specs.Prelude.{◌≡◌, Bool, cond, not, ◌&&◌, ◌||◌, length, take}
use Rattle.std.proofs.Math.Path.{refl, sym}
use Rattle.std.proofs.Math.Bool.{true, false, and-eq-true_iff}
use mathlib.Core.List.{List}
use Rattle.sectors.specs.Bytes.{same}
use Rattle.sectors.specs.Fill.{part, fill}
use Rattle.sectors.specs.FillLaws.{fill_none, length_fill, part_filled, part_length, take_part}
use Rattle.sectors.specs.Format.{foreign, sector_size}
use Rattle.sectors.specs.Run.{read_into}
use Rattle.sectors.proofs.RunLaws.{is_not_refused, read_fills}
use Rattle.sectors.specs.Sector.{readable, run_data}
use Rattle.sectors.proofs.SectorLaws.{readable_true, count_known, run_length}
use Rattle.sectors.specs.Source.{image_source}
use Rattle.sectors.proofs.SourceLaws.{image_sized}
use Rattle.area.specs.Limits.{max_table_bytes}
use Rattle.disc.specs.Copies.{is_served, has_second, first_copy, second_copy, unequal, chosen, bytes_of, first_readable, second_readable, chosen_lsn}
use Rattle.disc.specs.CopyLaws.{served_few, chosen_fits}
use Rattle.disc.specs.FetchLaws.{chosen_bytes, chosen_no_bytes, copies_differ, run_differs_lem}
use Rattle.disc.specs.Master.{master_lsn, master_sectors, master_bytes}
use Rattle.disc.specs.Slot.{master_region, work_bytes}
use Rattle.disc.specs.Steps.{run_differs, second_differs}
use Rattle.disc.specs.declared.master.AreaPointer.{AreaPointer}

module _ (format : ℕ) (image : List ℕ) (p : AreaPointer) (known : foreign format ≡ false) (at : ℕ) (old : List ℕ) (room : at + max_table_bytes ≤ length old) where
  abbrev first : Bool
  first = first_readable format (length image) p

  abbrev second : Bool
  second = second_readable format (length image) p

  abbrev n : ℕ
  n = p.toc_sectors

  first_parts : first ≡ true → (is_served p ≡ true) × (readable format (length image) p.toc1_lsn.0 n ≡ true)
  unfolding first_readable
  first_parts e = (and-eq-true_iff (is_served p) _).0 e

  second_parts : second ≡ true → (is_served p ≡ true) × (readable format (length image) p.toc2_lsn.0 n ≡ true)
  unfolding second_readable
  second_parts e =
      let outer = (and-eq-true_iff (is_served p && has_second p) _).0 e in (((and-eq-true_iff (is_served p) (has_second p)).0 outer.0).0, outer.1)

  -- the chosen copy is of a served slot, and readable
  chosen_parts : (first || second) ≡ true → (is_served p ≡ true) × (readable format (length image) (chosen_lsn p first).0 n ≡ true)
  unfolding chosen_lsn
  chosen_parts = go first second refl refl
    where
      go : (a b : Bool) → first ≡ a → second ≡ b → (a || b) ≡ true → (is_served p ≡ true) × (readable format (length image) (cond a p.toc1_lsn p.toc2_lsn).0 n ≡ true)
      go true b f s e = first_parts f
      go false b f s e = second_parts (s ∙ e)

  pub fetched_copy : cond (first || second) (read_into format image (chosen_lsn p first).0 n at old) old ≡ fill at (bytes_of (chosen (image_source format image) p)) old
  fetched_copy = go (first || second) refl
    where
      go : (t : Bool) → (first || second) ≡ t → cond t (read_into format image (chosen_lsn p first).0 n at old) old ≡ fill at (bytes_of (chosen (image_source format image) p)) old
      go true e =
          let parts = chosen_parts e in let few = served_few p parts.0 in
          read_fills format image (chosen_lsn p first).0 n at old
          (is_not_refused format (length image) (chosen_lsn p first).0 n at (length old) known parts.1 (omega arith))
          ∙ ap (λ (b : List ℕ). fill at b old) (sym (chosen_bytes format image p e))
      go false e = sym (ap (λ (b : List ℕ). fill at b old) (chosen_no_bytes format image p e) ∙ fill_none at old)

  first_lsn : first ≡ true → run_data format image (chosen_lsn p first).0 n ≡ run_data format image p.toc1_lsn.0 n
  unfolding chosen_lsn
  first_lsn f = simp f

  -- the bytes of the chosen copy fit its region
  chosen_small : length (bytes_of (chosen (image_source format image) p)) ≤ max_table_bytes
  chosen_small = chosen_fits (image_source format image) p (image_sized format image)

  pub fetched_length : length (fill at (bytes_of (chosen (image_source format image) p)) old) ≡ length old
  fetched_length = let small = chosen_small in length_fill at (bytes_of (chosen (image_source format image) p)) old (omega arith)

  -- the region then begins with the first copy, if that is there
  region_first : first ≡ true → take (n * sector_size) (part at max_table_bytes (fill at (bytes_of (chosen (image_source format image) p)) old)) ≡ run_data format image p.toc1_lsn.0 n
  region_first f =
      let parts = first_parts f in let few = served_few p parts.0 in
      let run = run_data format image p.toc1_lsn.0 n in
      let size = run_length format image p.toc1_lsn.0 n parts.1 in
      let its : bytes_of (chosen (image_source format image) p) ≡ run =
      chosen_bytes format image p (ap (λ (t : Bool). t || second) f) ∙ first_lsn f in
      ap (λ (b : List ℕ). take (n * sector_size) (part at max_table_bytes (fill at b old))) its
      ∙ take_part at (n * sector_size) max_table_bytes (fill at run old) (omega arith)
      ∙ ap (λ (m : ℕ). part at m (fill at run old)) (sym size)
      ∙ part_filled at run old (omega arith)

  pub fetched_differ : second_differs format image (first && second) p (part at max_table_bytes (fill at (bytes_of (chosen (image_source format image) p)) old))
      ≡ unequal (first_copy (image_source format image) p) (second_copy (image_source format image) p)
  unfolding second_differs
  fetched_differ = go (first && second) refl ∙ sym (copies_differ format image p)
    where
      region : List ℕ
      region = part at max_table_bytes (fill at (bytes_of (chosen (image_source format image) p)) old)

      go : (t : Bool) → (first && second) ≡ t
          → (t && run_differs format image p.toc2_lsn.0 n region) ≡ (t && not (same (run_data format image p.toc2_lsn.0 n) (run_data format image p.toc1_lsn.0 n)))
      go true e =
          let both = (and-eq-true_iff first second).0 e in let parts = second_parts both.1 in let few = served_few p parts.0 in
          let small = chosen_small in
          let long = length_fill at (bytes_of (chosen (image_source format image) p)) old (omega arith) in
          let size = part_length at max_table_bytes (fill at (bytes_of (chosen (image_source format image) p)) old) (omega arith) in
          run_differs_lem format image p.toc2_lsn.0 n region known (omega arith) parts.1
          ∙ ap (λ (b : List ℕ). not (same (run_data format image p.toc2_lsn.0 n) b)) (region_first both.0)
      go false e = refl

-- ---- the master table
module _ (format : ℕ) (image : List ℕ) (there : readable format (length image) master_lsn master_sectors ≡ true) where
  abbrev table : List ℕ
  table = run_data format image master_lsn master_sectors

  pub there_known : foreign format ≡ false
  there_known = let r = readable_true format (length image) master_lsn master_sectors there in count_known format (length image) (omega arith)

  pub master_length : length table ≡ master_bytes
  master_length = run_length format image master_lsn master_sectors there

  module _ (old : List ℕ) (room : work_bytes ≤ length old) where
    pub fetched_master : read_into format image master_lsn master_sectors master_region old ≡ fill master_region table old
    fetched_master =
        read_fills format image master_lsn master_sectors master_region old
        (is_not_refused format (length image) master_lsn master_sectors master_region (length old) there_known there (omega arith))

    pub fetched_master_length : length (fill master_region table old) ≡ length old
    fetched_master_length = let size = master_length in length_fill master_region table old (omega arith)

    pub fetched_master_region : part master_region master_bytes (fill master_region table old) ≡ table
    fetched_master_region =
        let size = master_length in
        ap (λ (m : ℕ). part master_region m (fill master_region table old)) (sym size) ∙ part_filled master_region table old (omega arith)
