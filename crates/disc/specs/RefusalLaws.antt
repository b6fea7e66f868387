-- When each of refusals 1 to 5 comes, what a refusal leaves, and what stands in the master region, of a format, an image and lent memory, by the
-- image's bytes and the lengths alone (01, "What the desk gets back"). Assumes nothing.
use Rattle.std.specs.Prelude.{ℕ, ◌+◌, ◌*◌, ◌<◌, ◌≤◌, not, ◌||◌, List, ◌≢◌, ◌↔◌, ◌⊎◌, ◌≡◌, length, get_or}
use Rattle.std.proofs.Common.{arith, inl, inr, sym, ◌∙◌}
use Rattle.std.proofs.Math.Bool.{Bool, true, false, cond, true≢false, or-true}
use Rattle.std.proofs.Math.Path.{refl, ap}
use borrow.Author.Tests.{ltb-true, ltb-false, lt-ltb, not-true, not-false}
use Rattle.std.proofs.Math.Dec.{ltb}
use Rattle.sectors.specs.CheckLaws.{fails, comes_here, comes_later, not_either}
use Rattle.sectors.specs.Fill.{part}
use Rattle.sectors.specs.FillLaws.{part_size, part_part}
use Rattle.sectors.specs.Format.{foreign, stored_size, data_offset, sector_size}
use Rattle.sectors.specs.Number.{be_at}
use Rattle.sectors.specs.NumberLaws.{be_byte}
use Rattle.sectors.specs.Refusal.{foreign_format, short_buffer}
use Rattle.sectors.specs.Sector.{sector_count, readable}
use Rattle.sectors.proofs.SectorLaws.{foreign_when, readable_false, is_readable, not_readable, run_length, run_byte, run_section}
use Rattle.sectors.specs.Signature.{signed_at}
use Rattle.sectors.proofs.SignatureLaws.{signed_here, signed_is}
use Rattle.sectors.specs.Source.{Source, image_source, run_of}
use Rattle.sectors.proofs.SourceLaws.{image_run, image_no_run, image_sized}
use Rattle.area.specs.Refusal.{no_audio_areas}
use Rattle.disc.specs.Slot.{work_bytes, track_records, warning_words, master_region, two_channel, multichannel}
use Rattle.disc.specs.Master.{master_lsn, master_sectors, master_bytes, master_signature, manufacturer_signature, is_scarlet_book, major_version, is_newer, has_manufacturer, manufacturer_flag, master_of}
use Rattle.disc.specs.Refusal.{master_toc_truncated, not_scarlet_book, version_unsupported}
use Rattle.disc.specs.Copies.{has_area}
use Rattle.disc.specs.Outcome.{Memory, Outcome}
use Rattle.disc.specs.Disc.{Master, refused, reads, is_short, judged, master_in, image_master, warnings_of, refusal, silent, accepted, answer_of, table_of, reading_of, outcome_of, read_disc}
use Rattle.disc.specs.Demand3.{master_table}
use Rattle.disc.specs.DiscLaws.{master_back}
use Rattle.disc.specs.RegionLaws.{master_held}
use Rattle.disc.specs.declared.master.MasterToc.{MasterToc}

-- ---- the conditions

-- "format is not 0 (`Plain`), 1 (`Raw2054`), 2 (`Raw2064`)"
abbrev pub Foreign : ℕ → Type 0
Foreign format = (format ≢ 0) × ((format ≢ 1) × (format ≢ 2))

-- "a lent buffer is below its size": "544,768 work bytes, 510 track records"; "Warning buffers become 2,047 and 1,021 words." (02, item 5)
abbrev pub Short : Memory → Type 0
Short memory = (length memory.work < 544768) ⊎ ((length memory.tracks < 510) ⊎ (length memory.words < 2047))

-- "fewer than 520 whole sectors"
abbrev pub Truncated : ℕ → List ℕ → Type 0
Truncated format image = sector_count format (length image) < 520

-- where the data of an address begin: "data begins at byte 0, 6, 12"
unfoldable pub place_of : ℕ → ℕ → ℕ
place_of format lsn = lsn * stored_size format + data_offset format

-- "LSN 510 doesn't begin `SACDMTOC`"
abbrev pub NotScarletBook : ℕ → List ℕ → Type 0
NotScarletBook format image = part (place_of format 510) 8 image ≢ master_signature

-- "master major version above 1": byte 8 of LSN 510
abbrev pub Newer : ℕ → List ℕ → Type 0
Newer format image = 1 < get_or image (place_of format 510 + 8) 0

-- ---- the tests say the conditions

module _ (memory : Memory) where
  abbrev short_test : Bool
  short_test = is_short (length memory.work) (length memory.tracks) (length memory.words)

  either_true : (a b : Bool) → a || b ≡ true → (a ≡ true) ⊎ (b ≡ true)
  either_true true b e = inl refl
  either_true false b e = inr e

  short_says : (short_test ≡ true) ↔ Short memory
  unfolding is_short
  short_says = (told, found)
    where
      work : Bool
      work = ltb (length memory.work) work_bytes

      tracks : Bool
      tracks = ltb (length memory.tracks) track_records

      words : Bool
      words = ltb (length memory.words) warning_words

      told : work || tracks || words ≡ true → Short memory
      told e = first (either_true (work || tracks) words e)
        where
          second : (work ≡ true) ⊎ (tracks ≡ true) → Short memory
          second (inl q) = inl (ltb-true (length memory.work) work_bytes q)
          second (inr q) = inr (inl (ltb-true (length memory.tracks) track_records q))

          first : (work || tracks ≡ true) ⊎ (words ≡ true) → Short memory
          first (inl q) = second (either_true work tracks q)
          first (inr q) = inr (inr (ltb-true (length memory.words) warning_words q))

      found : Short memory → work || tracks || words ≡ true
      found (inl h) = rw (lt-ltb (length memory.work) work_bytes h)
      found (inr (inl h)) = rw (lt-ltb (length memory.tracks) track_records h, or-true work)
      found (inr (inr h)) = rw (lt-ltb (length memory.words) warning_words h, or-true (work || tracks))

module _ (format : ℕ) (image : List ℕ) where
  truncated_says : (not (readable format (length image) master_lsn master_sectors) ≡ true) ↔ Truncated format image
  truncated_says = (
    (λ e. readable_false format (length image) master_lsn master_sectors (not-true (readable format (length image) master_lsn master_sectors) e)),
    (λ h. rw (not_readable format (length image) master_lsn master_sectors h)),
  )

  module _ (whole : ¬ Truncated format image) where
    there : readable format (length image) master_lsn master_sectors ≡ true
    there = is_readable format (length image) master_lsn master_sectors (omega arith)

    -- bytes of sector k of the master table
    master_section : (k i n : ℕ) → k < master_sectors → i + n ≤ sector_size
        → part (k * sector_size + i) n (master_table format image) ≡ part (place_of format (master_lsn + k) + i) n image
    unfolding master_table place_of
    master_section k i n l q = run_section format image master_lsn master_sectors k i n there l q

    -- a signature of eight bytes at the start of sector k
    signature_says : (k : ℕ) (signature : List ℕ) → k < master_sectors → length signature ≡ 8
        → (signed_at (master_table format image) (k * sector_size) signature ≡ true) ↔ (part (place_of format (master_lsn + k)) 8 image ≡ signature)
    signature_says k signature l eight =
        let from : k * sector_size + 0 ≡ k * sector_size = omega arith in
        let to : place_of format (master_lsn + k) + 0 ≡ place_of format (master_lsn + k) = omega arith in
        let same : part (k * sector_size) 8 (master_table format image) ≡ part (place_of format (master_lsn + k)) 8 image =
        rw (from, to) at (master_section k 0 8 l (omega arith)) in
        let size : part (k * sector_size) (length signature) (master_table format image) ≡ part (place_of format (master_lsn + k)) 8 image =
        ap (λ (n : ℕ). part (k * sector_size) n (master_table format image)) eight ∙ same in (
          (λ e. sym size ∙ signed_is (master_table format image) (k * sector_size) signature e),
          (λ e. signed_here (master_table format image) (k * sector_size) signature (size ∙ e)),
        )

    scarlet_says : (not (is_scarlet_book (master_table format image)) ≡ true) ↔ NotScarletBook format image
    unfolding is_scarlet_book
    scarlet_says =
        let says = signature_says 0 master_signature (omega arith) refl in (
          (λ e q. true≢false (sym (says.1 q) ∙ not-true (signed_at (master_table format image) 0 master_signature) e)),
          (λ n. rw ((fails (signed_at (master_table format image) 0 master_signature) says).1 n)),
        )

    newer_says : (is_newer (master_table format image) ≡ true) ↔ Newer format image
    unfolding is_newer major_version master_table place_of
    newer_says =
        let byte = be_byte (master_table format image) 8 ∙ run_byte format image master_lsn master_sectors 0 8 there (omega arith) (omega arith) in (
          (λ e. let above = ltb-true 1 (be_at (master_table format image) 8 1) e in omega arith),
          (λ h. lt-ltb 1 (be_at (master_table format image) 8 1) (omega arith)),
        )

-- ---- the number that is answered

-- that of a reading: accepted, or 6
reading_number : (source : Source) (table : List ℕ) (format : ℕ) (memory : Memory)
    → ((reading_of source table format memory).answer.refusal ≡ 0) ⊎ ((reading_of source table format memory).answer.refusal ≡ no_audio_areas)
unfolding reading_of answer_of accepted silent
reading_number source table format memory = go (has_area (table_of source table two_channel) || has_area (table_of source table multichannel))
  where
    count : ℕ
    count = length (warnings_of source table)

    number : Bool → ℕ
    number t = (cond t (accepted format source.count table count (table_of source table two_channel) (table_of source table multichannel)) (silent table count)).refusal

    go : (t : Bool) → (number t ≡ 0) ⊎ (number t ≡ no_audio_areas)
    go true = inl refl
    go false = inr refl

-- neither is one of 1 to 5
neither : (n k : ℕ) → (n ≡ 0) ⊎ (n ≡ no_audio_areas) → 0 < k → k < no_audio_areas → n ≢ k
neither n k (inl e) low high q = absurd (omega arith)
neither n k (inr e) low high q = absurd (omega arith)

-- one that is neither is none of these
neither_left : {n : ℕ} → (n ≡ 0) ⊎ (n ≡ no_audio_areas) → n ≢ 0 → n ≢ no_audio_areas → ⊥
neither_left (inl e) a b = a e
neither_left (inr e) a b = b e

module _ (format : ℕ) (image : List ℕ) (memory : Memory) where
  abbrev source : Source
  source = image_source format image

  abbrev table : List ℕ
  table = master_table format image

  -- the numbers from a check on
  abbrev read : ℕ
  read = (reading_of source table format memory).answer.refusal

  abbrev from5 : ℕ
  from5 = cond (is_newer table) version_unsupported read

  abbrev from4 : ℕ
  from4 = cond (not (is_scarlet_book table)) not_scarlet_book from5

  abbrev from3 : ℕ
  from3 = cond (not (readable format (length image) master_lsn master_sectors)) master_toc_truncated from4

  abbrev from2 : ℕ
  from2 = cond (short_test memory) short_buffer from3

  abbrev answered : ℕ
  answered = (read_disc format image memory).answer.refusal

  checked : answered ≡ cond (foreign format) foreign_format from2
  unfolding read_disc outcome_of image_master master_in judged refusal master_table
  checked = go (foreign format) (short_test memory) (readable format (length image) master_lsn master_sectors) refl
    where
      signed : (scarlet newer : Bool)
          → (outcome_of source format memory (cond scarlet (cond newer (refused version_unsupported) (reads table)) (refused not_scarlet_book))).answer.refusal
          ≡ cond (not scarlet) not_scarlet_book (cond newer version_unsupported read)
      signed false newer = refl
      signed true false = refl
      signed true true = refl

      go : (is-foreign short there : Bool) → readable format (length image) master_lsn master_sectors ≡ there
          → (outcome_of source format memory (cond is-foreign (refused foreign_format) (cond short (refused short_buffer) (judged (run_of source master_lsn master_sectors))))).answer.refusal
          ≡ cond is-foreign foreign_format (cond short short_buffer (cond (not there) master_toc_truncated from4))
      go true short there e = refl
      go false true there e = refl
      go false false false e = rw (image_no_run format image master_lsn master_sectors e)
      go false false true e = rw (image_run format image master_lsn master_sectors e) (signed (is_scarlet_book table) (is_newer table))

  -- a number from 1 to 5 that no check from one on has
  read_other : (k : ℕ) → 0 < k → k < no_audio_areas → read ≢ k
  read_other k low high = neither read k (reading_number source table format memory) low high

  from5_other : (k : ℕ) → 0 < k → k < version_unsupported → from5 ≢ k
  from5_other k low high = not_either (is_newer table) version_unsupported read k (omega arith) (read_other k low (omega arith))

  from4_other : (k : ℕ) → 0 < k → k < not_scarlet_book → from4 ≢ k
  from4_other k low high = not_either (not (is_scarlet_book table)) not_scarlet_book from5 k (omega arith) (from5_other k low (omega arith))

  from3_other : (k : ℕ) → 0 < k → k < master_toc_truncated → from3 ≢ k
  from3_other k low high =
      not_either (not (readable format (length image) master_lsn master_sectors)) master_toc_truncated from4 k (omega arith) (from4_other k low (omega arith))

  from2_other : from2 ≢ 1
  from2_other = not_either (short_test memory) short_buffer from3 1 (omega arith) (from3_other 1 (omega arith) (omega arith))

  -- ---- "Number | Word | When, and only then, if no earlier check applies"

  -- "1 | foreign format | format is not 0 (`Plain`), 1 (`Raw2054`), 2 (`Raw2064`)"
  pub refused_1 : (answered ≡ 1) ↔ Foreign format
  refused_1 = rw checked (comes_here (foreign format) (foreign_when format) foreign_format from2 from2_other)

  -- a later refusal comes where the format is not foreign
  known : {Q : Type 0} (k : ℕ) → 1 < k → (from2 ≡ k) ↔ Q → (answered ≡ k) ↔ (¬ Foreign format × Q)
  known k above comes = rw checked (comes_later (foreign format) (foreign_when format) foreign_format from2 k (omega arith) (λ free. comes))

  -- "2 | short bench | a lent buffer is below its size"
  pub refused_2 : (answered ≡ 2) ↔ (¬ Foreign format × Short memory)
  refused_2 = known 2 (omega arith) (comes_here (short_test memory) (short_says memory) short_buffer from3 (from3_other 2 (omega arith) (omega arith)))

  -- .. and no lent buffer is short
  roomy : {Q : Type 0} (k : ℕ) → 2 < k → (from3 ≡ k) ↔ Q → (answered ≡ k) ↔ (¬ Foreign format × (¬ Short memory × Q))
  roomy k above comes = known k (omega arith) (comes_later (short_test memory) (short_says memory) short_buffer from3 k (omega arith) (λ free. comes))

  -- "3 | cut master | fewer than 520 whole sectors"
  pub refused_3 : (answered ≡ 3) ↔ (¬ Foreign format × (¬ Short memory × Truncated format image))
  refused_3 =
      roomy 3 (omega arith)
      (comes_here (not (readable format (length image) master_lsn master_sectors)) (truncated_says format image) master_toc_truncated from4
      (from4_other 3 (omega arith) (omega arith)))

  -- .. and there are 520 whole sectors
  whole : {Q : Type 0} (k : ℕ) → 3 < k → (¬ Truncated format image → (from4 ≡ k) ↔ Q)
      → (answered ≡ k) ↔ (¬ Foreign format × (¬ Short memory × (¬ Truncated format image × Q)))
  whole k above comes =
      roomy k (omega arith)
      (comes_later (not (readable format (length image) master_lsn master_sectors)) (truncated_says format image) master_toc_truncated from4 k (omega arith) comes)

  -- "4 | not Scarlet Book | LSN 510 doesn't begin `SACDMTOC`"
  pub refused_4 : (answered ≡ 4) ↔ (¬ Foreign format × (¬ Short memory × (¬ Truncated format image × NotScarletBook format image)))
  refused_4 =
      whole 4 (omega arith) (λ free.
      comes_here (not (is_scarlet_book table)) (scarlet_says format image free) not_scarlet_book from5 (from5_other 4 (omega arith) (omega arith)))

  -- "5 | newer edition | master major version above 1"
  pub refused_5 : (answered ≡ 5)
      ↔ (¬ Foreign format × (¬ Short memory × (¬ Truncated format image × (¬ NotScarletBook format image × Newer format image))))
  refused_5 =
      whole 5 (omega arith) (λ free.
      comes_later (not (is_scarlet_book table)) (scarlet_says format image free) not_scarlet_book from5 5 (omega arith) (λ signed.
      comes_here (is_newer table) (newer_says format image free) version_unsupported read (read_other 5 (omega arith) (omega arith))))

  -- "Every refusal but 6, any added later too, changes no lent memory."
  pub refusal_leaves : answered ≢ 0 → answered ≢ no_audio_areas → (read_disc format image memory).memory ≡ memory
  unfolding read_disc outcome_of
  refusal_leaves = go (image_master format image (length memory.work) (length memory.tracks) (length memory.words))
    where
      go : (m : Master) → (outcome_of source format memory m).answer.refusal ≢ 0 → (outcome_of source format memory m).answer.refusal ≢ no_audio_areas
          → (outcome_of source format memory m).memory ≡ memory
      go (refused n) a b = refl
      go (reads t) a b = absurd (neither_left (reading_number source t format memory) a b)

  -- ---- "After acceptance or refusal 6"
  module _ (after : (answered ≡ 0) ⊎ (answered ≡ no_audio_areas)) where
    other : (k : ℕ) → 0 < k → k < no_audio_areas → answered ≢ k
    other k low high = neither answered k after low high

    not_foreign : ¬ Foreign format
    not_foreign f = other 1 (omega arith) (omega arith) (refused_1.1 f)

    not_short : ¬ Short memory
    not_short s = other 2 (omega arith) (omega arith) (refused_2.1 (not_foreign, s))

    not_truncated : ¬ Truncated format image
    not_truncated t = other 3 (omega arith) (omega arith) (refused_3.1 (not_foreign, (not_short, t)))

    scarlet : ¬ NotScarletBook format image
    scarlet n = other 4 (omega arith) (omega arith) (refused_4.1 (not_foreign, (not_short, (not_truncated, n))))

    not_newer : ¬ Newer format image
    not_newer n = other 5 (omega arith) (omega arith) (refused_5.1 (not_foreign, (not_short, (not_truncated, (scarlet, n)))))

    is_reading : read_disc format image memory ≡ reading_of source table format memory
    unfolding read_disc outcome_of image_master master_in judged master_table
    is_reading =
        let signed = not-false (is_scarlet_book table) ((fails (not (is_scarlet_book table)) (scarlet_says format image not_truncated)).1 scarlet) in
        rw (
          (fails (foreign format) (foreign_when format)).1 not_foreign,
          (fails (short_test memory) (short_says memory)).1 not_short,
          image_run format image master_lsn master_sectors (there format image not_truncated),
          signed,
          (fails (is_newer table) (newer_says format image not_truncated)).1 not_newer,
        )

    enough : work_bytes ≤ length memory.work
    enough = ltb-false (length memory.work) work_bytes ((fails (ltb (length memory.work) work_bytes) (λ e. e, λ e. e)).1 (λ e. not_short (inl (ltb-true (length memory.work) work_bytes e))))

    table_long : length table ≡ master_bytes
    unfolding master_table
    table_long = run_length format image master_lsn master_sectors (there format image not_truncated)

    -- "the master .. fill[s] the start of [its region]"
    master_stands : part master_region master_bytes (read_disc format image memory).memory.work ≡ table
    unfolding reading_of
    master_stands =
        ap (λ (o : Outcome). part master_region master_bytes o.memory.work) is_reading
        ∙ master_held source (image_sized format image) table memory.work table_long enough

    manufacturer_of : (read_disc format image memory).answer.master.manufacturer ≡ cond (has_manufacturer table) 1 0
    unfolding manufacturer_flag master_of
    manufacturer_of = ap (λ (o : Outcome). o.answer.master.manufacturer) is_reading ∙ ap (λ (m : MasterToc). m.manufacturer) (master_back source table format memory)

    manufacturer_says : (has_manufacturer table ≡ true) ↔ (part (place_of format 519) 8 image ≡ manufacturer_signature)
    unfolding has_manufacturer
    manufacturer_says = signature_says format image not_truncated 9 manufacturer_signature (omega arith) refl

    -- "The manufacturer is a flag,": 1 where LSN 519, sector 9 of the master table, begins `SACD_Man`, and only there
    pub manufacturer_flagged : ((read_disc format image memory).answer.master.manufacturer ≡ 1) ↔ (part (place_of format 519) 8 image ≡ manufacturer_signature)
    manufacturer_flagged = rw manufacturer_of (comes_here (has_manufacturer table) manufacturer_says 1 0 (omega arith))

    -- .. and 0 elsewhere
    pub manufacturer_unflagged : part (place_of format 519) 8 image ≢ manufacturer_signature → (read_disc format image memory).answer.master.manufacturer ≡ 0
    manufacturer_unflagged other-bytes = rw (manufacturer_of, (fails (has_manufacturer table) manufacturer_says).1 other-bytes)

    -- "its 2,040 bytes standing in the master region.": those behind the signature
    pub manufacturer_stands : part (master_region + 9 * sector_size + 8) 2040 (read_disc format image memory).memory.work ≡ part (place_of format 519 + 8) 2040 image
    manufacturer_stands =
        let work = (read_disc format image memory).memory.work in
        let size = sym (part_size master_region master_bytes work) ∙ ap length master_stands in
        sym (part_part master_region master_bytes (9 * sector_size + 8) 2040 work (omega arith) (omega (arith, size, table_long)))
        ∙ ap (part (9 * sector_size + 8) 2040) master_stands
        ∙ master_section format image not_truncated 9 8 2040 (omega arith) (omega arith)
