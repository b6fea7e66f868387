-- The steps in which a disc is read, for the contracts of our own functions: what is fetched from the image, and what is judged of it. What 01
-- says of it stands in `Copies` and `Disc`; `StepLaws` joins the two. Assumes nothing.
use Rattle.std.specs.Prelude.{ℕ, Bool, cond, ◌&&◌, ◌||◌, List, [], ◌++◌, map, eqb, length}
use Rattle.sectors.specs.Fill.{fill, part}
use Rattle.sectors.specs.Run.{comparison_of}
use Rattle.sectors.specs.Sector.{sector_count}
use Rattle.sectors.specs.Source.{Source}
use Rattle.area.specs.Lent.{counted}
use Rattle.area.specs.Limits.{table_bytes}
use Rattle.area.specs.Table as Area
use Rattle.area.specs.Warning.{word_of}
use Rattle.area.specs.declared.table.TableHead.{TableHead}
use Rattle.area.specs.declared.track.Track.{Track}
use Rattle.area.specs.declared.warning.Warning.{Warning}
use Rattle.disc.specs.Slot.{two_channel, multichannel, master_region, region_of}
use Rattle.disc.specs.Master.{master_bytes, is_scarlet_book, is_newer, pointer_of, master_of}
use Rattle.disc.specs.Refusal.{not_scarlet_book, version_unsupported}
use Rattle.disc.specs.Copies.{copies_of, copy_warnings, chosen_lsn}
use Rattle.disc.specs.Outcome.{is_present}
use Rattle.disc.specs.Disc.{Master, refused, reads, master_copies_differ, disc_warnings, silent}
use Rattle.disc.specs.declared.master.AreaPointer.{AreaPointer}
use Rattle.disc.specs.declared.copies.SlotCopies.{SlotCopies}
use Rattle.disc.specs.declared.fetch.Fetched.{Fetched}
use Rattle.disc.specs.declared.judge.SlotPlan.{SlotPlan}
use Rattle.disc.specs.declared.disc.Opened.{Opened}
use Rattle.disc.specs.declared.disc.SlotRead.{SlotRead}
use Rattle.disc.specs.declared.answer.DiscAnswer.{DiscAnswer}

-- ---- fetching
-- a readable run that differs from lent bytes
unfoldable pub run_differs : ℕ → List ℕ → ℕ → ℕ → List ℕ → Bool
run_differs format image lsn sectors bytes =
    eqb (comparison_of format image lsn sectors bytes).refusal 0 && eqb (comparison_of format image lsn sectors bytes).equal 0

-- a second copy that differs from the first, which lent bytes begin with
unfoldable pub second_differs : ℕ → List ℕ → Bool → AreaPointer → List ℕ → Bool
second_differs format image both p region = both && run_differs format image p.toc2_lsn.0 p.toc_sectors region

-- the refusal of a master table by its first sector
unfoldable pub sector_refusal : List ℕ → ℕ
sector_refusal sector = cond (is_scarlet_book sector) (cond (is_newer sector) version_unsupported 0) not_scarlet_book

unfoldable pub refusal_of : Master → ℕ
refusal_of (refused number) = number
refusal_of (reads table) = 0

unfoldable pub fetched_of : Source → List ℕ → Fetched
fetched_of source table = record {
  differ = master_copies_differ source table;
  first = copies_of source (pointer_of table two_channel);
  second = copies_of source (pointer_of table multichannel);
}

-- what is known once a master table is read
unfoldable pub opened_of : Source → List ℕ → Opened
opened_of source table = record {
  count = length (disc_warnings (master_copies_differ source table) table);
  first = copies_of source (pointer_of table two_channel);
  second = copies_of source (pointer_of table multichannel);
}

-- the words then: the disc's warnings fill the first
unfoldable pub opened_words : Source → List ℕ → List ℕ → List ℕ
opened_words source table old = fill 0 (map word_of (disc_warnings (master_copies_differ source table) table)) old

-- ---- judging
-- the head of a slot's table, if a copy of it is there
module _ (work : List ℕ) (slot : ℕ) (c : SlotCopies) where
  unfoldable pub slot_head : TableHead
  slot_head =
      cond (c.toc1 || c.toc2)
      (Area.head_of (table_bytes c.pointer.toc_sectors (region_of slot work)) slot (chosen_lsn c.pointer c.toc1).0 c.pointer.toc_sectors)
      Area.no_head

  -- the warnings of its copies and of its head
  unfoldable pub plan_warnings : List Warning
  plan_warnings = copy_warnings slot c ++ cond (c.toc1 || c.toc2) (Area.head_warnings slot slot_head) []

  unfoldable pub slot_plan_of : List ℕ → ℕ → SlotPlan
  slot_plan_of words count = record { count = counted words count plan_warnings; head = slot_head }

  -- its tracks, and all its warnings
  unfoldable pub slot_tracks : List Track
  slot_tracks = Area.tracks_in (region_of slot work) slot_head

  unfoldable pub slot_notes : List Warning
  slot_notes = plan_warnings ++ Area.warnings_in (region_of slot work) slot_head

  unfoldable pub slot_read_by : List ℕ → ℕ → SlotRead
  slot_read_by words count = record { count = counted words count slot_notes; area = slot_head.area }

unfoldable pub slot_read_of : SlotPlan → ℕ → SlotRead
slot_read_of plan count = record { count = count; area = plan.head.area }

-- ---- answering
-- the answer by what was read
unfoldable pub read_answer : ℕ → ℕ → List ℕ → SlotRead → SlotRead → DiscAnswer
read_answer format sectors table first second = record {
  refusal = 0;
  warnings = second.count;
  sector_format = format;
  sectors = sectors;
  master = master_of table;
  two_channel = first.area;
  multichannel = second.area;
}

unfoldable pub answer_from : ℕ → ℕ → List ℕ → SlotRead → SlotRead → DiscAnswer
answer_from format bytes work first second =
    cond (is_present first.area || is_present second.area)
    (read_answer format (sector_count format bytes) (part master_region master_bytes work) first second)
    (silent (part master_region master_bytes work) second.count)
