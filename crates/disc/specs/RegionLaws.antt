-- Laws of the work bytes after a reading: each region begins with its own table. Assumes nothing.
use Rattle.std.specs.Prelude.{ℕ, ◌+◌, ◌≤◌, ◌≡◌, List, length}
use Rattle.std.proofs.Common.{arith, sym, ◌∙◌}
use Rattle.std.proofs.Math.Path.{ap}
use Rattle.sectors.specs.Fill.{fill, part}
use Rattle.sectors.specs.FillLaws.{length_fill, part_filled, part_before, part_after}
use Rattle.sectors.specs.Source.{Source, Sized}
use Rattle.disc.specs.Copies.{chosen, bytes_of}
use Rattle.disc.specs.Disc.{copy_of, work_after}
use Rattle.disc.specs.Master.{master_bytes, pointer_of}
use Rattle.disc.specs.Slot.{Slot, two_channel, multichannel, region_at, master_region, work_bytes}
use Rattle.disc.specs.CopyLaws.{chosen_fits}

module _ (source : Source) (sized : Sized source) (table work : List ℕ) (whole : length table ≡ master_bytes) (enough : work_bytes ≤ length work) where
  abbrev copy : Slot → List ℕ
  copy slot = bytes_of (chosen source (pointer_of table slot))

  abbrev with_master : List ℕ
  with_master = fill master_region table work

  abbrev with_first : List ℕ
  with_first = fill (region_at two_channel) (copy two_channel) with_master

  -- each fill lies in the work bytes
  fits_first : region_at two_channel + length (copy two_channel) ≤ length with_master
  unfolding region_at
  fits_first =
      let n = length_fill master_region table work (omega arith) in
      omega (arith, chosen_fits source (pointer_of table two_channel) sized)

  fits_second : region_at multichannel + length (copy multichannel) ≤ length with_first
  unfolding region_at
  fits_second =
      let n = length_fill master_region table work (omega arith) in
      let m = length_fill (region_at two_channel) (copy two_channel) with_master fits_first in
      omega (arith, chosen_fits source (pointer_of table multichannel) sized)

  -- each region begins with its copy
  pub region_begins : (slot : Slot) → part (region_at slot) (length (copy slot)) (work_after source table work) ≡ copy slot
  unfolding work_after copy_of region_at
  region_begins two_channel =
      part_before (region_at multichannel) (copy multichannel) with_first fits_second 0 (length (copy two_channel)) (omega (arith, chosen_fits source (pointer_of table two_channel) sized))
      ∙ part_filled (region_at two_channel) (copy two_channel) with_master fits_first
  region_begins multichannel = part_filled (region_at multichannel) (copy multichannel) with_first fits_second

  -- the master region holds the master table
  pub master_held : part master_region master_bytes (work_after source table work) ≡ table
  unfolding work_after copy_of region_at
  master_held =
      part_after (region_at multichannel) (copy multichannel) with_first fits_second master_region master_bytes (omega (arith, chosen_fits source (pointer_of table multichannel) sized))
      ∙ part_after (region_at two_channel) (copy two_channel) with_master fits_first master_region master_bytes (omega (arith, chosen_fits source (pointer_of table two_channel) sized))
      ∙ ap (λ (n : ℕ). part master_region n with_master) (sym whole)
      ∙ part_filled master_region table work (omega arith)
