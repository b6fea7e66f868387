-- Demand 3 of the letter, stated of any reader. Each field of `Holds`, `OneCut` and `TwoCuts` is a clause of its text, quoted above it; the
-- words that 01 defines for it (01, "Disc": "Demand 3 speaks of ..") are the definitions before, each under its own sentence. How a disc is
-- read is not needed here: `Demand3Proof` proves `Demand3` of `read_disc`, `Controls` refutes it of other readers. Assumes nothing.
use Rattle.std.specs.Prelude.{ℕ, ◌+◌, ◌*◌, ◌≤◌, ◌<◌, true, false, ◌≢◌, ◌↔◌, ◌≡◌, length, get_or}
use mathlib.Core.List.{List, Memᴰ}
use Rattle.std.proofs.Math.Option.{Option, none, some}
use Rattle.sectors.specs.Format.{foreign, stored_size, data_offset, sector_size}
use Rattle.sectors.specs.Options.{only_if}
use Rattle.sectors.specs.Sector.{sector_count, readable, run_data}
use Rattle.area.specs.Area.{addressed}
use Rattle.area.specs.Limits.{max_area_toc_sectors}
use Rattle.area.specs.Refusal.{no_audio_areas}
use Rattle.area.specs.Table.{Table, skips, yields, area_at}
use Rattle.area.specs.declared.track.Track.{Track}
use Rattle.disc.specs.Slot.{Slot, two_channel, multichannel, slot_number, work_bytes, track_records, warning_words}
use Rattle.disc.specs.Master.{master_lsn, master_sectors, is_scarlet_book, major_version, pointer_of, master_of}
use Rattle.disc.specs.Outcome.{Memory, Outcome, Yielded, slot_yields}
use Rattle.disc.specs.declared.master.AreaPointer.{AreaPointer}

-- ---- what a master table names

-- so many sectors from an address on
pub record Place : Type 0 where
  pub lsn : ℕ
  pub sectors : ℕ

-- "A slot is used when TOC-1's LSN and the sector count are nonzero." "a used slot of at most 128 sectors"
pub record Served (p : AreaPointer) : Type 0 where
  pub toc1_nonzero : p.toc1_lsn.0 ≢ 0
  pub sectors_nonzero : p.toc_sectors ≢ 0
  pub sectors_few : p.toc_sectors ≤ max_area_toc_sectors

-- "a first copy, its sector count from TOC-1's LSN on, and a second, as many from TOC-2's LSN on"
unfoldable pub first_place : AreaPointer → Place
first_place p = record { lsn = p.toc1_lsn.0; sectors = p.toc_sectors }

unfoldable pub second_place : AreaPointer → Place
second_place p = record { lsn = p.toc2_lsn.0; sectors = p.toc_sectors }

-- "if that is nonzero"
abbrev pub HasSecond : AreaPointer → Type 0
HasSecond p = p.toc2_lsn.0 ≢ 0

-- "The master table names, for a used slot of at most 128 sectors, a first copy .., and a second .., if that is nonzero."
pub data Names (p : AreaPointer) (place : Place) : Type 0 where
  the_first : Served p → place ≡ first_place p → Names p place
  the_second : Served p → HasSecond p → place ≡ second_place p → Names p place

-- ---- what an image holds

-- "It lies in an image when its sectors are readable there.": in one of so many bytes
abbrev pub LiesIn : ℕ → ℕ → Place → Type 0
LiesIn format bytes place = readable format bytes place.lsn place.sectors ≡ true

-- "fewer than 520 whole sectors": no fewer
abbrev pub HasMaster : ℕ → ℕ → Type 0
HasMaster format bytes = master_lsn + master_sectors ≤ sector_count format bytes

-- "its data bytes of LSN 510 to 519"
unfoldable pub master_table : ℕ → List ℕ → List ℕ
master_table format image = run_data format image master_lsn master_sectors

-- "A copy's bytes are its sectors' data bytes."
unfoldable pub copy_bytes : ℕ → List ℕ → Place → List ℕ
copy_bytes format image place = run_data format image place.lsn place.sectors

-- ---- a reading

-- "A track comes out when a slot yields it."
pub record ComesOut (outcome : Outcome) (slot : Slot) (t : Track) : Type 0 where
  pub area : Yielded
  pub is_yielded : slot_yields outcome slot ≡ some area
  pub member : Memᴰ t area.tracks

-- "a lent buffer is below its size": none is
pub record Roomy (memory : Memory) : Type 0 where
  pub work_suffices : work_bytes ≤ length memory.work
  pub tracks_suffice : track_records ≤ length memory.tracks
  pub words_suffice : warning_words ≤ length memory.words

-- "Unless one of refusals 1 to 5 applies by 01": none does, in their order
pub record Unrefused (format : ℕ) (image : List ℕ) (memory : Memory) : Type 0 where
  pub not_foreign : foreign format ≡ false
  pub not_short : Roomy memory
  pub not_truncated : HasMaster format (length image)
  pub is_scarlet : is_scarlet_book (master_table format image) ≡ true
  pub not_newer : major_version (master_table format image) ≤ 1

-- "equal but for its table address"
pub record EqualButAddress (x y : Yielded) : Type 0 where
  pub same_record : addressed 0 x.area ≡ addressed 0 y.area
  pub same_tracks : x.tracks ≡ y.tracks
  pub same_bytes : x.bytes ≡ y.bytes

-- "the area's record, its tracks and the bytes themselves, or nothing if 8 to 11 skips it"
unfoldable pub yielded_by : List ℕ → Table → Option Yielded
yielded_by bytes (skips warning) = none
yielded_by bytes (yields area tracks warnings) = some (record { area = area; tracks = tracks; bytes = bytes })

-- "what Area, from the signature on, makes of its bytes, slot, LSN and sector count"
unfoldable pub area_from : Slot → Place → List ℕ → Option Yielded
area_from slot place bytes = yielded_by bytes (area_at bytes (slot_number slot) place.lsn place.sectors)

-- ---- an uncut image

module _ (format : ℕ) (uncut : List ℕ) where
  -- what its master table says of a slot
  unfoldable pub pointer : Slot → AreaPointer
  pointer slot = pointer_of (master_table format uncut) slot

  -- "Kept are the data bytes of LSN 510 to 519 and of each named copy that lies in the uncut image": the sectors of these
  pub data KeptSector (n : ℕ) : Type 0 where
    of_master : master_lsn ≤ n → n < master_lsn + master_sectors → KeptSector n
    of_copy : (slot : Slot) (place : Place) → Names (pointer slot) place → LiesIn format (length uncut) place
        → place.lsn ≤ n → n < place.lsn + place.sectors → KeptSector n

  -- the byte at a position is a data byte of one; "none under a foreign format or below 520 whole sectors uncut"
  pub record Kept (position : ℕ) : Type 0 where
    pub not_foreign : foreign format ≡ false
    pub not_short : HasMaster format (length uncut)
    pub sector : ℕ
    pub in_sector : ℕ
    pub is_data : in_sector < sector_size
    pub lies_there : position ≡ sector * stored_size format + data_offset format + in_sector
    pub is_kept : KeptSector sector

  -- "A cut image is what an uncut one has before the cut, from no byte to all, and each byte of that may have any value unless it is
  -- kept."
  pub record Rewritten (cut : ℕ) (image : List ℕ) : Type 0 where
    pub cut_within : cut ≤ length uncut
    pub cut_there : length image ≡ cut
    pub kept : (position : ℕ) → position < cut → Kept position → get_or image position 0 ≡ get_or uncut position 0

  -- "For a copy in the uncut image the rules give what Area, from the signature on, makes of its bytes, slot, LSN and sector count ..
  -- Any other copy gives nothing."
  unfoldable pub given : Slot → Place → Option Yielded
  given slot place =
      only_if (readable format (length uncut) place.lsn place.sectors) (area_from slot place (copy_bytes format uncut place))

  -- a copy of the slot gave the track: there is a master table, it names the copy, and the track is of the area that the rules give for it
  pub record Gave (slot : Slot) (t : Track) : Type 0 where
    pub has_table : HasMaster format (length uncut)
    pub place : Place
    pub named : Names (pointer slot) place
    pub area : Yielded
    pub is_given : given slot place ≡ some area
    pub member : Memᴰ t area.tracks

  -- ---- the clauses

  -- what is handed back by a reading of a cut at a byte
  pub record Holds (cut : ℕ) (outcome : Outcome) : Type 0 where
    -- "the master record is the uncut image's"; "what Disc makes of its data bytes of LSN 510 to 519"
    pub the_master : outcome.answer.master ≡ master_of (master_table format uncut)
    -- "A used slot of at most 128 sectors yields exactly what the rules give for its first copy in the uncut image if that lies in the
    -- cut's whole sectors."
    pub first_copy_lem : (slot : Slot) → Served (pointer slot) → LiesIn format cut (first_place (pointer slot))
        → slot_yields outcome slot ≡ given slot (first_place (pointer slot))
    -- "Else it yields that for its second if named and likewise there,"
    pub second_copy_lem : (slot : Slot) → Served (pointer slot) → ¬ LiesIn format cut (first_place (pointer slot))
        → HasSecond (pointer slot) → LiesIn format cut (second_place (pointer slot))
        → slot_yields outcome slot ≡ given slot (second_place (pointer slot))
    -- "else nothing."
    pub no_copy : (slot : Slot) → Served (pointer slot) → ¬ LiesIn format cut (first_place (pointer slot))
        → ¬ (HasSecond (pointer slot) × LiesIn format cut (second_place (pointer slot)))
        → slot_yields outcome slot ≡ none
    -- "Other slots yield nothing."
    pub other_slots : (slot : Slot) → ¬ Served (pointer slot) → slot_yields outcome slot ≡ none
    -- "Refusal 6 comes exactly when neither slot yields."
    pub silent_exactly : (outcome.answer.refusal ≡ no_audio_areas)
        ↔ ((slot_yields outcome two_channel ≡ none) × (slot_yields outcome multichannel ≡ none))

  -- one cut, rewritten to `image`, and read with memory lent
  pub record OneCut (cut : ℕ) (image : List ℕ) (memory : Memory) (outcome : Outcome) : Type 0 where
    -- "Whatever they write, no track comes out that neither copy of its slot gave."
    pub no_other_track : (slot : Slot) (t : Track) → ComesOut outcome slot t → Gave slot t
    -- "Unless one of refusals 1 to 5 applies by 01, the master record is the uncut image's, and the rest of this demand holds."
    pub unless_refused : Unrefused format image memory → Holds cut outcome

  -- two cuts, the second no shorter
  pub record TwoCuts (outcome outcome' : Outcome) : Type 0 where
    -- "If a slot's two copies both lie in the uncut image with equal bytes, an area from one cut comes from every cut no shorter too,
    -- whatever was rewritten in each, and is equal but for its table address."
    pub comes_again : (slot : Slot) → Served (pointer slot) → HasSecond (pointer slot)
        → LiesIn format (length uncut) (first_place (pointer slot)) → LiesIn format (length uncut) (second_place (pointer slot))
        → copy_bytes format uncut (first_place (pointer slot)) ≡ copy_bytes format uncut (second_place (pointer slot))
        → (x : Yielded) → slot_yields outcome slot ≡ some x
        → (y : Yielded) × (slot_yields outcome' slot ≡ some y) × EqualButAddress x y

-- Demand 3 of a reader: "Cut any image at any byte", rewrite it, and read it in any format with any memory lent. "where it compares two
-- cuts, both are of one uncut image and neither reading has a short buffer"
pub record Demand3 (reader : ℕ → List ℕ → Memory → Outcome) : Type 0 where
  pub one_cut : (format : ℕ) (uncut : List ℕ) (cut : ℕ) (image : List ℕ) → Rewritten format uncut cut image
      → (memory : Memory) → OneCut format uncut cut image memory (reader format image memory)
  pub two_cuts : (format : ℕ) (uncut : List ℕ) (cut : ℕ) (image : List ℕ) → Rewritten format uncut cut image
      → (cut' : ℕ) (image' : List ℕ) → Rewritten format uncut cut' image' → cut ≤ cut'
      → (memory memory' : Memory) → Roomy memory → Roomy memory'
      → TwoCuts format uncut (reader format image memory) (reader format image' memory')
