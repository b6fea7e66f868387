-- What a disc reading hands back (01, "What the desk gets back"): the answer, the lent memory, and what a slot yields of them. How it is read
-- is the matter of `Disc`. Assumes nothing.
use Rattle.std.specs.Prelude.{ℕ, min, Bool, ◌&&◌, List, eqb}
use Rattle.std.proofs.Math.Option.{Option, some}
use Rattle.sectors.specs.Fill.{part}
use Rattle.sectors.specs.Options.{only_if}
use Rattle.area.specs.Limits.{max_tracks, table_size}
use Rattle.area.specs.declared.area.Area.{Area}
use Rattle.area.specs.declared.track.Track.{Track}
use Rattle.disc.specs.Slot.{Slot, two_channel, multichannel, region_at, tracks_at}
use Rattle.disc.specs.declared.answer.DiscAnswer.{DiscAnswer}

-- "Disc reading borrows the image, 544,768 work bytes, 510 track records", and warning words: what is lent but for the image
pub record Memory : Type 0 where
  pub work : List ℕ
  pub tracks : List Track
  pub words : List ℕ

-- what a reading hands back: the answer, and what it leaves in lent memory
pub record Outcome : Type 0 where
  pub answer : DiscAnswer
  pub memory : Memory

-- "the area's record, its tracks and the bytes themselves"
pub record Yielded : Type 0 where
  pub area : Area
  pub tracks : List Track
  pub bytes : List ℕ

-- the record that an answer has for a slot
unfoldable pub area_for : DiscAnswer → Slot → Area
area_for answer two_channel = answer.two_channel
area_for answer multichannel = answer.multichannel

-- an accepted answer has no refusal; a slot with an area has the flag 1
unfoldable pub is_accepted : DiscAnswer → Bool
is_accepted answer = eqb answer.refusal 0

unfoldable pub is_present : Area → Bool
is_present area = eqb area.present 1

-- "the record returned, the tracks in their places, the bytes at the start of the region". "a sector count above 128 counts as 128, a track
-- count above 255 as 255"
unfoldable pub handed_back : Memory → Slot → Area → Yielded
handed_back memory slot area = record {
  area = area;
  tracks = part (tracks_at slot) (min area.track_count max_tracks) memory.tracks;
  bytes = part (region_at slot) (table_size area.origin.toc_sectors) memory.work;
}

-- "A slot yields these three, its area, as an accepted reading hands them back". "Without an area it yields nothing."
unfoldable pub slot_yields : Outcome → Slot → Option Yielded
slot_yields o slot =
    only_if (is_accepted o.answer && is_present (area_for o.answer slot)) (some (handed_back o.memory slot (area_for o.answer slot)))
