-- Laws of a slot after opening: what its region and the master region hold, and what is read from them. Assumes nothing.
use Prim.Native.Nat.{ℕ, ◌*◌, ◌≤◌}
use Rattle.std.proofs.Common.{arith, ◌∙◌, subst, take-append-drop}
use Rattle.std.specs.Prelude.{◌≡◌, Bool, cond, length, take, drop}
use Rattle.std.proofs.Math.Path.{refl, sym, ap}
use Rattle.std.proofs.Math.Bool.{true, false}
use mathlib.Core.List.{List, [], ◌++◌, append_assoc}
use Rattle.std.proofs.Math.Option.{Option, none, some}
use Rattle.std.proofs.Math.Dec.{eqb}
use borrow.Author.Tests.{eqb-true, eqb-false}
use Rattle.sectors.specs.Fill.{part}
use Rattle.sectors.specs.FillLaws.{take_part}
use Rattle.sectors.specs.Format.{sector_size}
use Rattle.sectors.specs.Options.{only_if}
use Rattle.sectors.specs.Source.{Source, Sized}
use Rattle.area.specs.Limits.{max_area_toc_sectors, max_table_bytes, table_bytes}
use Rattle.area.specs.LimitLaws.{table_bytes_front}
use Rattle.area.specs.Skip.{skip_of}
use Rattle.area.specs.Table as Area
use Rattle.area.specs.Table.{Table}
use Rattle.area.proofs.TableLaws.{head_yields, head_skips, head_skip_area, head_gives_area, head_gives_tracks, head_gives_warnings, head_present, tracks_none, warnings_none, no_area_absent, no_head_area}
use Rattle.area.specs.declared.table.TableHead.{TableHead}
use Rattle.area.specs.declared.warning.Warning.{Warning}
use Rattle.disc.specs.Copies.{first_copy, is_there, copies_of, copy_warnings, chosen, bytes_of, has_area, area_in, tracks_in, warnings_in, slot_table, slot_warnings, chosen_lsn}
use Rattle.disc.specs.Disc.{work_after}
use Rattle.disc.specs.Master.{master_bytes, pointer_of}
use Rattle.disc.specs.Outcome.{is_present}
use Rattle.disc.specs.Slot.{Slot, two_channel, multichannel, slot_number, region_at, work_bytes, region_of}
use Rattle.disc.specs.Steps.{slot_head, plan_warnings, slot_tracks, slot_notes}
use Rattle.disc.specs.declared.master.AreaPointer.{AreaPointer}
use Rattle.disc.specs.RegionLaws.{region_begins}
use Rattle.disc.specs.CopyLaws.{either_there, table_chosen, chosen_whole}

-- ---- a head and its warnings give what a table gives: its area, its tracks, its warnings
record Gives (lent : List ℕ) (head : TableHead) (warned : List Warning) (t : Option Table) : Type 0 where
  area : head.area ≡ area_in t
  present : is_present head.area ≡ has_area t
  tracks : Area.tracks_in lent head ≡ tracks_in t
  warnings : warned ++ Area.warnings_in lent head ≡ warnings_in t

gives_none : (lent : List ℕ) → Gives lent Area.no_head [] none
unfolding area_in has_area tracks_in warnings_in is_present
gives_none lent = record {
  area = no_head_area;
  present = ap is_present no_head_area ∙ ap (λ (n : ℕ). eqb n 1) no_area_absent;
  tracks = tracks_none lent Area.no_head no_head_area;
  warnings = warnings_none lent Area.no_head no_head_area;
}

module _ (lent table : List ℕ) (slot lsn sectors : ℕ) (whole : table_bytes sectors lent ≡ table) where
  abbrev head : TableHead
  head = Area.head_of table slot lsn sectors

  present_table : is_present head.area ≡ has_area (some (Area.area_at table slot lsn sectors))
  unfolding has_area is_present
  present_table = go (eqb (skip_of table) 0) refl
    where
      go : (t : Bool) → eqb (skip_of table) 0 ≡ t → is_present head.area ≡ has_area (some (Area.area_at table slot lsn sectors))
      go true e =
          let kept = eqb-true (skip_of table) 0 e in
          ap (λ (n : ℕ). eqb n 1) (head_present lent table slot lsn sectors whole kept)
          ∙ sym (ap (λ (t : Table). has_area (some t)) (head_yields lent table slot lsn sectors whole kept))
      go false e =
          let skipped = eqb-false (skip_of table) 0 e in
          ap is_present (head_skip_area table slot lsn sectors skipped) ∙ ap (λ (n : ℕ). eqb n 1) no_area_absent
          ∙ sym (ap (λ (t : Table). has_area (some t)) (head_skips table slot lsn sectors skipped))

  gives_table : Gives lent head (Area.head_warnings slot head) (some (Area.area_at table slot lsn sectors))
  unfolding area_in tracks_in warnings_in
  gives_table = record {
    area = sym (head_gives_area lent table slot lsn sectors whole);
    present = present_table;
    tracks = sym (head_gives_tracks lent table slot lsn sectors whole);
    warnings = sym (head_gives_warnings lent table slot lsn sectors whole);
  }

-- ---- what the regions hold
-- a region that begins with a table's bytes
region_table : (at sectors : ℕ) (bytes work : List ℕ) → length bytes ≡ sectors * sector_size → sectors ≤ max_area_toc_sectors → part at (length bytes) work ≡ bytes
    → table_bytes sectors (part at max_table_bytes work) ≡ bytes
region_table at sectors bytes work size small begins =
    let region = part at max_table_bytes work in
    let front : take (length bytes) region ≡ bytes = take_part at (length bytes) max_table_bytes work (omega arith) ∙ begins in
    ap (table_bytes sectors) (sym (take-append-drop (length bytes) region) ∙ ap (λ (l : List ℕ). l ++ drop (length bytes) region) front)
    ∙ table_bytes_front sectors bytes (drop (length bytes) region) small size

-- the region of a slot's number is the slot's
region_at_lem : (slot : Slot) (work : List ℕ) → region_of (slot_number slot) work ≡ part (region_at slot) max_table_bytes work
unfolding region_of slot_number
region_at_lem two_channel work = refl
region_at_lem multichannel work = refl

module _ (source : Source) (sized : Sized source) (table work : List ℕ) (whole : length table ≡ master_bytes) (enough : work_bytes ≤ length work) where
  abbrev copy : Slot → List ℕ
  copy slot = bytes_of (chosen source (pointer_of table slot))

  region_held : (slot : Slot) → either_there source (pointer_of table slot) ≡ true
      → table_bytes (pointer_of table slot).toc_sectors (region_of (slot_number slot) (work_after source table work)) ≡ copy slot
  region_held slot there =
      let w = chosen_whole source (pointer_of table slot) sized there in
      ap (table_bytes (pointer_of table slot).toc_sectors) (region_at_lem slot (work_after source table work))
      ∙ region_table (region_at slot) (pointer_of table slot).toc_sectors (copy slot) (work_after source table work) w.0 w.1 (region_begins source sized table work whole enough slot)

  -- ---- so a slot is read from its region as its table says
  module _ (slot : Slot) where
    abbrev p : AreaPointer
    p = pointer_of table slot

    abbrev lent : List ℕ
    lent = region_of (slot_number slot) (work_after source table work)

    abbrev read : TableHead
    read = slot_head (work_after source table work) (slot_number slot) (copies_of source p)

    abbrev warned : List Warning
    warned = cond (either_there source p) (Area.head_warnings (slot_number slot) read) []

    slot_gives : Gives lent read warned (slot_table source slot p)
    unfolding slot_head copies_of
    slot_gives = go (either_there source p) refl
      where
        table_at : List ℕ → Table
        table_at bytes = Area.area_at bytes (slot_number slot) (chosen_lsn p (is_there (first_copy source p))).0 p.toc_sectors

        found : TableHead
        found = Area.head_of (table_bytes p.toc_sectors lent) (slot_number slot) (chosen_lsn p (is_there (first_copy source p))).0 p.toc_sectors

        go : (t : Bool) → either_there source p ≡ t
            → Gives lent (cond t found Area.no_head) (cond t (Area.head_warnings (slot_number slot) (cond t found Area.no_head)) []) (slot_table source slot p)
        go true e =
            subst (Gives lent found (Area.head_warnings (slot_number slot) found))
            (sym (table_chosen source p slot ∙ (λ i. only_if (e i) (some (table_at (sym (region_held slot e) i))))))
            (gives_table lent (table_bytes p.toc_sectors lent) (slot_number slot) (chosen_lsn p (is_there (first_copy source p))).0 p.toc_sectors refl)
        go false e =
            subst (Gives lent Area.no_head []) (sym (table_chosen source p slot ∙ ap (λ (t : Bool). only_if t (some (table_at (copy slot)))) e)) (gives_none lent)

    pub slot_area : read.area ≡ area_in (slot_table source slot p)
    slot_area = slot_gives.area

    pub slot_present : is_present read.area ≡ has_area (slot_table source slot p)
    slot_present = slot_gives.present

    pub slot_tracks_lem : slot_tracks (work_after source table work) (slot_number slot) (copies_of source p) ≡ tracks_in (slot_table source slot p)
    unfolding slot_tracks
    slot_tracks_lem = slot_gives.tracks

    pub slot_notes_lem : slot_notes (work_after source table work) (slot_number slot) (copies_of source p) ≡ slot_warnings source slot p
    unfolding slot_notes plan_warnings slot_warnings copies_of
    slot_notes_lem =
        append_assoc (copy_warnings (slot_number slot) (copies_of source p)) warned (Area.warnings_in lent read)
        ∙ ap (λ (l : List Warning). copy_warnings (slot_number slot) (copies_of source p) ++ l) slot_gives.warnings
