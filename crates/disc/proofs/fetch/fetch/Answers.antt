-- The master table fills its region, from which it is taken for what follows; each slot's chosen copy then fills its own.
use Rattle.std.specs.Prelude.{◌≡◌, true, ℕ, ◌+◌, ◌≤◌, List, length}
use Rattle.std.proofs.Common.{ap, ◌∙◌, arith}
use Rattle.sectors.specs.Fill.{part, fill}
use Rattle.sectors.specs.Run.{read_into}
use Rattle.sectors.specs.Sector.{readable, run_data}
use Rattle.sectors.specs.Source.{image_source}
use Rattle.area.specs.Limits.{max_table_bytes}
use Rattle.disc.specs.Copies.{copies_of, chosen, bytes_of}
use Rattle.disc.specs.Disc.{master_copies_differ, copy_of, work_after}
use Rattle.disc.specs.FetchFillLaws.{there_known, master_length, fetched_master, fetched_master_length, fetched_master_region, fetched_length}
use Rattle.disc.specs.Master.{master_lsn, master_sectors, master_bytes, pointer_of}
use Rattle.disc.specs.Slot.{two_channel, multichannel, master_region, region_at, work_bytes}
use Rattle.disc.specs.Steps.{fetched_of}
use Rattle.disc.specs.declared.master.AreaPointer.{AreaPointer}
use Rattle.disc.proofs.fetch.fetch.Goals as goal

-- what is as long as something longer
fits : (n : ℕ) {m k : ℕ} → m ≡ k → n ≤ k → n ≤ m
fits n e h = rw e h

-- what the master table's read leaves: the work bytes with it in its region
module _ (format : ℕ) (image old : List ℕ)
    (asked : (readable format (length image) master_lsn master_sectors ≡ true) × (work_bytes ≤ length old)) (read : List ℕ)
    (is : read ≡ read_into format image master_lsn master_sectors master_region old) where
  filled : read ≡ fill master_region (run_data format image master_lsn master_sectors) old
  filled = is ∙ fetched_master format image asked.0 old asked.1

  read_length : length read ≡ length old
  read_length = ap length filled ∙ fetched_master_length format image asked.0 old asked.1

  region : (r : List ℕ) → r ≡ part master_region master_bytes read → r ≡ run_data format image master_lsn master_sectors
  region r e = e ∙ ap (part master_region master_bytes) filled ∙ fetched_master_region format image asked.0 old asked.1

  -- .. and then a slot's
  slot_length : (p : AreaPointer) (at : ℕ) (held work : List ℕ) → at + max_table_bytes ≤ length held
      → work ≡ fill at (bytes_of (chosen (image_source format image) p)) held → length work ≡ length held
  slot_length p at held work room e = ap length e ∙ fetched_length format image p (there_known format image asked.0) at held room

pub master_copies_differ-differ-requires : goal.master_copies_differ-differ-requires
master_copies_differ-differ-requires c = let a = c.args in (
  there_known a.image.format a.image.bytes.now c.requires.0,
  ap length (region a.image.format a.image.bytes.now a.work.now c.requires _ c.read_sectors.ensures.filled _ c.master_region-table.ensures)
      ∙ master_length a.image.format a.image.bytes.now c.requires.0,
)

pub fetch_slot-first-requires : goal.fetch_slot-first-requires
fetch_slot-first-requires c =
    let a = c.args in let room = c.requires.1 in
    let n = read_length a.image.format a.image.bytes.now a.work.now c.requires _ c.read_sectors.ensures.filled in
    (there_known a.image.format a.image.bytes.now c.requires.0, fits 262144 n (omega arith))

pub fetch_slot-second-requires : goal.fetch_slot-second-requires
fetch_slot-second-requires c =
    let a = c.args in let room = c.requires.1 in let read = c.read_sectors.ensures.filled in
    let n = read_length a.image.format a.image.bytes.now a.work.now c.requires _ read in
    let m = slot_length a.image.format a.image.bytes.now a.work.now c.requires _ read _ 0 _ _ (fits 262144 n (omega arith)) c.fetch_slot-first.ensures.filled in
    (there_known a.image.format a.image.bytes.now c.requires.0, fits 524288 (m ∙ n) (omega arith))

pub returns : goal.returns
unfolding fetched_of work_after copy_of region_at
returns c =
    let a = c.args in let image = a.image.bytes.now in let source = image_source a.image.format image in
    let one = c.fetch_slot-first.ensures in let two = c.fetch_slot-second.ensures in let read = c.read_sectors.ensures.filled in
    let table = region a.image.format image a.work.now c.requires _ read _ c.master_region-table.ensures in
    let p = c.two_channel_pointer-two_channel.ensures ∙ ap (λ (t : List ℕ). pointer_of t two_channel) table in
    let q = c.multichannel_pointer-multichannel.ensures ∙ ap (λ (t : List ℕ). pointer_of t multichannel) table in
    record {
      known = λ i. record {
        differ = (c.master_copies_differ-differ.ensures ∙ ap (master_copies_differ source) table) i;
        first = (one.known ∙ ap (copies_of source) p) i;
        second = (two.known ∙ ap (copies_of source) q) i;
      };
      filled =
          two.filled
          ∙ (λ i. fill 262144 (bytes_of (chosen source (q i)))
          ((one.filled ∙ (λ j. fill 0 (bytes_of (chosen source (p j))) (filled a.image.format image a.work.now c.requires _ read j))) i));
    }
