-- Laws that join the steps in which a disc is read to its definition: a slot's plan and its tracks give what is read of the slot, and what is
-- opened, read of both slots and answered is the reading of the disc. Assumes nothing.
use Rattle.std.proofs.Math.Path.{◌≡◌, sym, ap}
use Rattle.std.proofs.Common.{◌∙◌, zero-add}
use Rattle.std.proofs.Math.Bool.{cond}
use Rattle.std.specs.Prelude.{◌||◌, ℕ, ◌+◌, ◌≤◌, Result, Ok, Err, IfOk, OnOk, IfErr, OnErr}
use mathlib.Core.List.{List, ◌++◌, map}
use Rattle.std.proofs.Math.Option.{Option}
use native.Mathlib.Omega.{arith}
use Rattle.std.proofs.Math.ListN.{length, length-map}
use Rattle.std.proofs.Math.Seq.{sets, length-sets}
use Rattle.area.specs.Lent.{counted}
use Rattle.area.specs.LentLaws.{counted_all, counted_then, sets_counted, pushed_then}
use Rattle.area.specs.Limits.{max_tracks}
use Rattle.area.specs.Table as Area
use Rattle.area.specs.Table.{Table}
use Rattle.area.specs.Warning.{word_of}
use Rattle.area.specs.declared.table.TableHead.{TableHead}
use Rattle.area.specs.declared.track.Track.{Track}
use Rattle.area.specs.declared.warning.Warning.{Warning}
use Rattle.sectors.specs.Fill.{fill, part}
use Rattle.sectors.specs.FillLaws.{sets_fill, length_fill}
use Rattle.sectors.specs.Sector.{sector_count, run_data}
use Rattle.sectors.proofs.SectorLaws.{run_length}
use Rattle.sectors.specs.Source.{Source, image_source}
use Rattle.sectors.proofs.SourceLaws.{image_count, image_sized}
use Rattle.disc.specs.Slot.{Slot, slot_number, two_channel, multichannel, master_region, tracks_at, region_of, tracks_from}
use Rattle.disc.specs.Master.{master_lsn, master_sectors, master_bytes, pointer_of, master_of}
use Rattle.disc.specs.Refusal.{number_of, refused_by, number_some}
use Rattle.disc.specs.Copies.{copies_of, has_area, area_in, tracks_in, slot_table, slot_warnings}
use Rattle.disc.specs.Outcome.{Memory, Outcome, is_present}
use Rattle.disc.specs.Disc.{Master, refused, reads, image_master, master_copies_differ, disc_warnings, warnings_of, refusal, silent, accepted, answer_of, table_of, work_after, tracks_after, words_after, reading_of, outcome_of, read_disc}
use Rattle.disc.specs.Steps.{refusal_of, opened_of, opened_words, slot_head, plan_warnings, slot_plan_of, slot_tracks, slot_notes, slot_read_by, slot_read_of, read_answer, answer_from}
use Rattle.disc.specs.FetchLaws.{Opens, opens}
use Rattle.disc.specs.RegionLaws.{master_held}
use Rattle.disc.specs.SlotLaws.{slot_area, slot_present, slot_tracks_lem, slot_notes_lem}
use Rattle.disc.specs.WarningBounds.{disc_warnings_few, warnings_fit}
use Rattle.disc.specs.declared.answer.DiscAnswer.{DiscAnswer}
use Rattle.disc.specs.declared.disc.Opened.{Opened}
use Rattle.disc.specs.declared.refusal.DiscRefusal.{DiscRefusal}
use Rattle.disc.specs.declared.copies.SlotCopies.{SlotCopies}
use Rattle.disc.specs.declared.disc.SlotRead.{SlotRead}
use Rattle.disc.specs.declared.judge.SlotPlan.{SlotPlan}
use Rattle.disc.specs.CopyLaws.{slot_tracks_few}

-- ---- a slot: its plan, then its tracks
pub slot_read_by_lem : (work : List ℕ) (slot : ℕ) (c : SlotCopies) (words : List ℕ) (count : ℕ) (plan : SlotPlan) (noted : List ℕ) (n : ℕ) (tracks filled : List Track) (written : List ℕ) (read : SlotRead)
    → plan ≡ slot_plan_of work slot c words count → noted ≡ sets words count (map word_of (plan_warnings work slot c))
    → n ≡ counted noted plan.count (Area.warnings_in (region_of slot work) plan.head)
    → filled ≡ sets tracks (tracks_from slot) (Area.tracks_in (region_of slot work) plan.head)
    → written ≡ sets noted plan.count (map word_of (Area.warnings_in (region_of slot work) plan.head))
    → read ≡ slot_read_of plan n
    → (read ≡ slot_read_by work slot c words count) × ((filled ≡ sets tracks (tracks_from slot) (slot_tracks work slot c)) × (written ≡ sets words count (map word_of (slot_notes work slot c))))
unfolding slot_plan_of slot_tracks slot_notes slot_read_by slot_read_of
slot_read_by_lem work slot c words count plan noted n tracks filled written read p w k t u r = (
  r ∙ (λ i. slot_read_of (p i) (all_counted i)),
  (t ∙ ap (λ (q : SlotPlan). sets tracks (tracks_from slot) (Area.tracks_in (region_of slot work) q.head)) p, all_written),
)
  where
    rest : SlotPlan → List Warning
    rest q = Area.warnings_in (region_of slot work) q.head

    all_counted : n ≡ counted words count (slot_notes work slot c)
    all_counted =
        k ∙ ap (λ (q : SlotPlan). counted noted q.count (rest q)) p
        ∙ counted_then words noted count (plan_warnings work slot c) (rest (slot_plan_of work slot c words count)) (ap length w ∙ length-sets words count (map word_of (plan_warnings work slot c)))

    all_written : written ≡ sets words count (map word_of (slot_notes work slot c))
    all_written =
        u ∙ (λ i. sets (w i) (p i).count (map word_of (rest (p i))))
        ∙ sets_counted word_of words count (plan_warnings work slot c) (rest (slot_plan_of work slot c words count))

-- ---- the answer
module _ (format bytes : ℕ) (work : List ℕ) (first second : SlotRead) where
  answer_read : (table : List ℕ) (count : ℕ) (t u : Option Table) → part master_region master_bytes work ≡ table → second.count ≡ count
      → first.area ≡ area_in t → is_present first.area ≡ has_area t → second.area ≡ area_in u → is_present second.area ≡ has_area u
      → answer_from format bytes work first second ≡ answer_of format (sector_count format bytes) table count t u
  unfolding answer_from answer_of read_answer accepted
  answer_read table count t u held n a p b q = λ i.
      cond (p i || q i)
      (record {
        refusal = 0;
        warnings = n i;
        sector_format = format;
        sectors = sector_count format bytes;
        master = master_of (held i);
        two_channel = a i;
        multichannel = b i;
      })
      (silent (held i) (n i))

-- ---- a refused disc: its reading is the refusal, and changes nothing
pub disc_refused : (format : ℕ) (image : List ℕ) (m : Memory) (number : ℕ)
    → number ≡ refusal_of (image_master format image (length m.work) (length m.tracks) (length m.words)) → (number ≡ 0 → ⊥)
    → ◌≡◌ {A = Outcome} (record { answer = refusal number; memory = m }) (read_disc format image m)
unfolding read_disc refusal_of outcome_of
disc_refused format image m number = go (image_master format image (length m.work) (length m.tracks) (length m.words))
  where
    go : (master : Master) → number ≡ refusal_of master → (number ≡ 0 → ⊥)
        → ◌≡◌ {A = Outcome} (record { answer = refusal number; memory = m }) (outcome_of (image_source format image) format m master)
    go (refused n) e some = λ i. record { answer = refusal (e i); memory = m }
    go (reads table) e some = absurd (some e)

-- ---- a disc that is not refused
module _ (format : ℕ) (image work : List ℕ) (tracks : List Track) (words : List ℕ) (opened : Opened) (work₁ words₁ : List ℕ) (first second : SlotRead)
    (tracks₁ tracks₂ : List Track) (words₂ words₃ : List ℕ) (answer : DiscAnswer)
    (unrefused : refusal_of (image_master format image (length work) (length tracks) (length words)) ≡ 0)
    (o : opened ≡ opened_of (image_source format image) (run_data format image master_lsn master_sectors))
    (w : work₁ ≡ work_after (image_source format image) (run_data format image master_lsn master_sectors) work)
    (d : words₁ ≡ opened_words (image_source format image) (run_data format image master_lsn master_sectors) words)
    (r : first ≡ slot_read_by work₁ 1 opened.first words₁ opened.count)
    (t : tracks₁ ≡ sets tracks (tracks_from 1) (slot_tracks work₁ 1 opened.first))
    (u : words₂ ≡ sets words₁ opened.count (map word_of (slot_notes work₁ 1 opened.first)))
    (r' : second ≡ slot_read_by work₁ 2 opened.second words₂ first.count)
    (t' : tracks₂ ≡ sets tracks₁ (tracks_from 2) (slot_tracks work₁ 2 opened.second))
    (u' : words₃ ≡ sets words₂ first.count (map word_of (slot_notes work₁ 2 opened.second)))
    (a : answer ≡ answer_from format (length image) work₁ first second) where
  abbrev source : Source
  source = image_source format image

  abbrev master : Master
  master = image_master format image (length work) (length tracks) (length words)

  abbrev memory : Memory
  memory = record { work = work; tracks = tracks; words = words }

  open_so : Opens format image (length work) (length tracks) (length words)
  open_so = opens format image (length work) (length tracks) (length words) unrefused

  abbrev table : List ℕ
  table = run_data format image master_lsn master_sectors

  table_size_lem : length table ≡ master_bytes
  table_size_lem = run_length format image master_lsn master_sectors open_so.there

  -- what is opened
  abbrev own : List Warning
  own = disc_warnings (master_copies_differ source table) table

  opened_so : opened ≡ record {
    count = length own;
    first = copies_of source (pointer_of table two_channel);
    second = copies_of source (pointer_of table multichannel);
  }
  unfolding opened_of
  opened_so = o

  work_so : work₁ ≡ work_after source table work
  work_so = w

  words_opened : words₁ ≡ fill 0 (map word_of own) words
  unfolding opened_words
  words_opened = d

  -- the table of a slot, and what is read of it
  abbrev table_for : Slot → Option Table
  table_for slot = slot_table source slot (pointer_of table slot)

  abbrev notes_for : Slot → List Warning
  notes_for slot = slot_warnings source slot (pointer_of table slot)

  module _ (slot : Slot) (copies : SlotCopies) (c : copies ≡ copies_of source (pointer_of table slot)) where
    head_so : slot_head work₁ (slot_number slot) copies ≡ slot_head (work_after source table work) (slot_number slot) (copies_of source (pointer_of table slot))
    head_so = λ i. slot_head (work_so i) (slot_number slot) (c i)

    tracks_so : slot_tracks work₁ (slot_number slot) copies ≡ tracks_in (table_for slot)
    tracks_so =
        (λ i. slot_tracks (work_so i) (slot_number slot) (c i))
        ∙ slot_tracks_lem source (image_sized format image) table work table_size_lem open_so.enough_work slot

    notes_so : slot_notes work₁ (slot_number slot) copies ≡ notes_for slot
    notes_so =
        (λ i. slot_notes (work_so i) (slot_number slot) (c i))
        ∙ slot_notes_lem source (image_sized format image) table work table_size_lem open_so.enough_work slot

    module _ (old : List ℕ) (count : ℕ) (read : SlotRead) (b : read ≡ slot_read_by work₁ (slot_number slot) copies old count) where
      area_so : read.area ≡ area_in (table_for slot)
      unfolding slot_read_by
      area_so =
          ap (λ (x : SlotRead). x.area) b ∙ ap (λ (h : TableHead). h.area) head_so
          ∙ slot_area source (image_sized format image) table work table_size_lem open_so.enough_work slot

      present_so : is_present read.area ≡ has_area (table_for slot)
      unfolding slot_read_by
      present_so =
          ap (λ (x : SlotRead). is_present x.area) b ∙ ap (λ (h : TableHead). is_present h.area) head_so
          ∙ slot_present source (image_sized format image) table work table_size_lem open_so.enough_work slot

      count_so : read.count ≡ counted old count (notes_for slot)
      unfolding slot_read_by
      count_so = ap (λ (x : SlotRead). x.count) b ∙ ap (counted old count) notes_so

  abbrev first_copies : opened.first ≡ copies_of source (pointer_of table two_channel)
  first_copies = ap (λ (q : Opened). q.first) opened_so

  abbrev second_copies : opened.second ≡ copies_of source (pointer_of table multichannel)
  second_copies = ap (λ (q : Opened). q.second) opened_so

  -- ---- all warnings fit: the disc's, then each slot's
  abbrev Noted : List ℕ → ℕ → List Warning → List ℕ → ℕ → Type 0
  Noted old count new after n = (after ≡ sets old count (map word_of new)) × (n ≡ counted old count new)

  own_noted : Noted words 0 own words₁ opened.count
  own_noted =
      let few = disc_warnings_few (master_copies_differ source table) table in let c = open_so in (
        words_opened ∙ sym (sets_fill 0 (map word_of own) words (omega (arith, length-map own word_of))),
        ap (λ (q : Opened). q.count) opened_so ∙ sym (counted_all words 0 own (omega arith) ∙ zero-add (length own)),
      )

  first_noted : Noted words₁ opened.count (notes_for two_channel) words₂ first.count
  unfolding slot_number
  first_noted = (
    u ∙ ap (λ (l : List Warning). sets words₁ opened.count (map word_of l)) (notes_so two_channel opened.first first_copies),
    count_so two_channel opened.first first_copies words₁ opened.count first r,
  )

  second_noted : Noted words₂ first.count (notes_for multichannel) words₃ second.count
  unfolding slot_number
  second_noted = (
    u' ∙ ap (λ (l : List Warning). sets words₂ first.count (map word_of l)) (notes_so multichannel opened.second second_copies),
    count_so multichannel opened.second second_copies words₂ first.count second r',
  )

  abbrev all : List Warning
  all = warnings_of source table

  all_noted : Noted words 0 all words₃ second.count
  unfolding warnings_of
  all_noted =
      pushed_then word_of words words₂ words₃ 0 first.count second.count (own ++ notes_for two_channel) (notes_for multichannel)
      (pushed_then word_of words words₁ words₂ 0 opened.count first.count own (notes_for two_channel) own_noted first_noted) second_noted

  room : length all ≤ length words
  room = omega (arith, open_so.enough_words, warnings_fit source table)

  words_filled : words₃ ≡ words_after source table words
  unfolding words_after
  words_filled = let k = room in all_noted.0 ∙ sets_fill 0 (map word_of all) words (omega (arith, length-map all word_of))

  all_counted : second.count ≡ length all
  all_counted = let k = room in all_noted.1 ∙ counted_all words 0 all (omega arith) ∙ zero-add (length all)

  -- ---- both slots' tracks fit
  few_tracks : (slot : Slot) → length (tracks_in (table_for slot)) ≤ max_tracks
  few_tracks slot = slot_tracks_few source (pointer_of table slot) slot

  first_fits : tracks_at two_channel + length (tracks_in (table_for two_channel)) ≤ length tracks
  unfolding tracks_at
  first_fits = omega (arith, open_so.enough_tracks, few_tracks two_channel)

  first_filled : tracks₁ ≡ fill (tracks_at two_channel) (tracks_in (table_for two_channel)) tracks
  unfolding slot_number tracks_from
  first_filled =
      t ∙ ap (sets tracks (tracks_at two_channel)) (tracks_so two_channel opened.first first_copies)
      ∙ sets_fill (tracks_at two_channel) (tracks_in (table_for two_channel)) tracks first_fits

  second_fits : tracks_at multichannel + length (tracks_in (table_for multichannel)) ≤ length tracks₁
  unfolding tracks_at
  second_fits =
      let n = ap length first_filled ∙ length_fill (tracks_at two_channel) (tracks_in (table_for two_channel)) tracks first_fits in
      omega (arith, open_so.enough_tracks, few_tracks multichannel)

  tracks_filled : tracks₂ ≡ tracks_after source table tracks
  unfolding slot_number tracks_from tracks_after table_of
  tracks_filled =
      t' ∙ ap (sets tracks₁ (tracks_at multichannel)) (tracks_so multichannel opened.second second_copies)
      ∙ sets_fill (tracks_at multichannel) (tracks_in (table_for multichannel)) tracks₁ second_fits
      ∙ ap (fill (tracks_at multichannel) (tracks_in (table_for multichannel))) first_filled

  -- ---- the answer
  answered : answer ≡ answer_of format source.count table (length all) (table_for two_channel) (table_for multichannel)
  unfolding slot_number
  answered =
      let held = ap (part master_region master_bytes) work_so ∙ master_held source (image_sized format image) table work table_size_lem open_so.enough_work in
      a ∙ answer_read format (length image) work₁ first second table (length all) (table_for two_channel) (table_for multichannel)
      held all_counted
      (area_so two_channel opened.first first_copies words₁ opened.count first r)
      (present_so two_channel opened.first first_copies words₁ opened.count first r)
      (area_so multichannel opened.second second_copies words₂ first.count second r')
      (present_so multichannel opened.second second_copies words₂ first.count second r')
      ∙ ap (λ (n : ℕ). answer_of format n table (length all) (table_for two_channel) (table_for multichannel)) (sym (image_count format image))

  -- opened, read and answered: the reading of the disc
  pub disc_opened : ◌≡◌ {A = Outcome} (record { answer = answer; memory = record { work = work₁; tracks = tracks₂; words = words₃ } }) (read_disc format image memory)
  unfolding read_disc outcome_of reading_of table_of
  disc_opened =
      let read : (record { answer = answer; memory = record { work = work₁; tracks = tracks₂; words = words₃ } }) ≡ reading_of source table format memory =
      λ i. record { answer = answered i; memory = record { work = work_so i; tracks = tracks_filled i; words = words_filled i } } in
      read ∙ sym (ap (outcome_of source format memory) open_so.is_read)

-- ---- the disc, refused or not: what `open` answers, and what is read on of it
module _ (format : ℕ) (image work : List ℕ) (tracks : List Track) (words work₁ words₁ : List ℕ) (first second : SlotRead)
    (tracks₁ tracks₂ : List Track) (words₂ words₃ : List ℕ) (answer : DiscAnswer) where
  -- opened, read and answered, or refused and left as it was: the reading of the disc
  pub disc_read : (opened : Result Opened DiscRefusal)
      → refused_by opened ≡ refusal_of (image_master format image (length work) (length tracks) (length words))
      → IfOk opened (λ o. o ≡ opened_of (image_source format image) (run_data format image master_lsn master_sectors))
      → OnOk opened (work₁ ≡ work_after (image_source format image) (run_data format image master_lsn master_sectors) work)
      → OnOk opened (words₁ ≡ opened_words (image_source format image) (run_data format image master_lsn master_sectors) words)
      → OnErr opened ((work₁ ≡ work) × (words₁ ≡ words))
      → IfOk opened (λ o. first ≡ slot_read_by work₁ 1 o.first words₁ o.count)
      → IfOk opened (λ o. tracks₁ ≡ sets tracks (tracks_from 1) (slot_tracks work₁ 1 o.first))
      → IfOk opened (λ o. words₂ ≡ sets words₁ o.count (map word_of (slot_notes work₁ 1 o.first)))
      → IfOk opened (λ o. second ≡ slot_read_by work₁ 2 o.second words₂ first.count)
      → IfOk opened (λ o. tracks₂ ≡ sets tracks₁ (tracks_from 2) (slot_tracks work₁ 2 o.second))
      → IfOk opened (λ o. words₃ ≡ sets words₂ first.count (map word_of (slot_notes work₁ 2 o.second)))
      → OnOk opened (answer ≡ answer_from format (length image) work₁ first second)
      → IfErr opened (λ e. answer ≡ refusal (number_of e)) → OnErr opened ((tracks₂ ≡ tracks) × (words₃ ≡ words₁))
      → ◌≡◌ {A = Outcome} (record { answer = answer; memory = record { work = work₁; tracks = tracks₂; words = words₃ } })
      (read_disc format image (record { work = work; tracks = tracks; words = words }))
  unfolding refused_by
  disc_read (Ok opened) n o w d k r t u r' t' u' a e s =
      disc_opened format image work tracks words opened work₁ words₁ first second tracks₁ tracks₂ words₂ words₃ answer (sym n) o w d r t u r' t' u' a
  disc_read (Err number) n o w d k r t u r' t' u' a e s =
      (λ i. record { answer = e i; memory = record { work = k.0 i; tracks = s.0 i; words = (s.1 ∙ k.1) i } })
      ∙ disc_refused format image (record { work = work; tracks = tracks; words = words }) (number_of number) n (number_some number)
