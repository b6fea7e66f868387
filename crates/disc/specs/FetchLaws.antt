-- Laws of what is fetched from an image: which copies of a slot are there and with which bytes, whether copies differ, and the refusals before
-- anything is read. Assumes nothing.
use Rattle.std.specs.Prelude.{ℕ, ◌*◌, ◌≤◌, ◌<◌, ◌↔◌, Bool, ◌&&◌, ◌||◌, List, [], length, take}
use native.Mathlib.Omega.{arith}
use Rattle.std.proofs.Math.Path.{◌≡◌, refl, sym, ap}
use Rattle.std.proofs.Common.{◌∙◌, take_all, ltb-false, ne_eqb}
use Rattle.std.proofs.Math.Bool.{true, false, cond, not}
use Rattle.std.proofs.Math.Option.{some}
use Rattle.std.proofs.Math.Dec.{ltb, eqb}
use Rattle.sectors.specs.Bytes.{same}
use Rattle.sectors.specs.Fill.{part}
use Rattle.sectors.specs.Format.{foreign, sector_size}
use Rattle.sectors.specs.NumberLaws.{be_part}
use Rattle.sectors.specs.Options.{only_if}
use Rattle.sectors.specs.Refusal.{foreign_format, short_buffer}
use Rattle.sectors.specs.Run.{read_refusal}
use Rattle.sectors.proofs.RunLaws.{not_refused, is_not_refused, compares, compares_not}
use Rattle.sectors.specs.Sector.{sector_count, readable, sector_data, run_data}
use Rattle.sectors.proofs.SectorLaws.{readable_false, not_readable, run_length, run_part}
use Rattle.sectors.proofs.SignatureLaws.{signed_part}
use Rattle.sectors.specs.Source.{image_source, run_of}
use Rattle.sectors.proofs.SourceLaws.{image_run, image_no_run}
use Rattle.sectors.specs.declared.run.Comparison.{Comparison}
use Rattle.area.specs.TestLaws.{or_left, or_right}
use Rattle.disc.specs.CopyLaws.{chosen_without}
use Rattle.disc.specs.Copies.{is_served, has_second, first_copy, second_copy, is_there, unequal, Copy, chosen_of, chosen, bytes_of, first_readable, second_readable, chosen_lsn}
use Rattle.disc.specs.Disc.{is_short, refused, reads, judged, master_in, image_master, second_master_lsn, third_master_lsn, is_unequal, master_copies_differ}
use Rattle.disc.specs.Master.{master_lsn, master_sectors, master_bytes, master_signature, is_scarlet_book, major_version, is_newer}
use Rattle.disc.specs.Refusal.{master_toc_truncated, not_scarlet_book, version_unsupported}
use Rattle.disc.specs.Slot.{work_bytes, track_records, warning_words}
use Rattle.disc.specs.Steps.{run_differs, sector_refusal, refusal_of}
use Rattle.disc.specs.declared.master.AreaPointer.{AreaPointer}

there_only : (t : Bool) (bytes : List ℕ) → is_there (only_if t (some bytes)) ≡ t
unfolding is_there
there_only true bytes = refl
there_only false bytes = refl

-- ---- the copies of a slot in an image
module _ (format : ℕ) (image : List ℕ) where
  -- a run is there exactly when it is readable
  run_is : (lsn n : ℕ) → run_of (image_source format image) lsn n ≡ only_if (readable format (length image) lsn n) (some (run_data format image lsn n))
  run_is lsn n = go (readable format (length image) lsn n) refl
    where
      go : (t : Bool) → readable format (length image) lsn n ≡ t → run_of (image_source format image) lsn n ≡ only_if t (some (run_data format image lsn n))
      go true e = image_run format image lsn n e
      go false e = image_no_run format image lsn n e

  run_if : (t : Bool) (lsn n : ℕ)
      → only_if t (run_of (image_source format image) lsn n) ≡ only_if (t && readable format (length image) lsn n) (some (run_data format image lsn n))
  run_if true lsn n = run_is lsn n
  run_if false lsn n = refl

  module _ (p : AreaPointer) where
    abbrev first : Bool
    first = first_readable format (length image) p

    abbrev second : Bool
    second = second_readable format (length image) p

    abbrev first_run : List ℕ
    first_run = run_data format image p.toc1_lsn.0 p.toc_sectors

    abbrev second_run : List ℕ
    second_run = run_data format image p.toc2_lsn.0 p.toc_sectors

    pub first_copy_lem : first_copy (image_source format image) p ≡ only_if first (some first_run)
    unfolding first_copy first_readable
    first_copy_lem = run_if (is_served p) p.toc1_lsn.0 p.toc_sectors

    pub second_copy_lem : second_copy (image_source format image) p ≡ only_if second (some second_run)
    unfolding second_copy second_readable
    second_copy_lem = run_if (is_served p && has_second p) p.toc2_lsn.0 p.toc_sectors

    pub first_readable_lem : first_readable format (length image) p ≡ is_there (first_copy (image_source format image) p)
    first_readable_lem = sym (ap is_there first_copy_lem ∙ there_only first first_run)

    pub second_readable_lem : second_readable format (length image) p ≡ is_there (second_copy (image_source format image) p)
    second_readable_lem = sym (ap is_there second_copy_lem ∙ there_only second second_run)

    -- the copy that is chosen: the first if it is readable, else the second
    abbrev chosen_copy : Copy
    chosen_copy = record {
      lsn = (chosen_lsn p first).0;
      sectors = p.toc_sectors;
      bytes = run_data format image (chosen_lsn p first).0 p.toc_sectors;
    }

    chosen_so : chosen (image_source format image) p ≡ chosen_of p (only_if first (some first_run)) (only_if second (some second_run))
    unfolding chosen
    chosen_so = λ i. chosen_of p (first_copy_lem i) (second_copy_lem i)

    pub chosen_is : (first || second) ≡ true → chosen (image_source format image) p ≡ some chosen_copy
    unfolding chosen_of chosen_lsn
    chosen_is either = chosen_so ∙ go first second either
      where
        go : (a b : Bool) → (a || b) ≡ true
            → chosen_of p (only_if a (some first_run)) (only_if b (some second_run))
            ≡ some (record { lsn = (chosen_lsn p a).0; sectors = p.toc_sectors; bytes = run_data format image (chosen_lsn p a).0 p.toc_sectors })
        go true b e = refl
        go false true e = refl
        go false false e = let z : ◌≡◌ {A = ℕ} 0 1 = cc in absurd (omega arith)

    pub chosen_bytes : (first || second) ≡ true → bytes_of (chosen (image_source format image) p) ≡ run_data format image (chosen_lsn p first).0 p.toc_sectors
    unfolding bytes_of
    chosen_bytes either = ap bytes_of (chosen_is either)

    pub chosen_no_bytes : (first || second) ≡ false → bytes_of (chosen (image_source format image) p) ≡ []
    chosen_no_bytes neither = chosen_without (image_source format image) p ((λ i. sym first_readable_lem i || sym second_readable_lem i) ∙ neither)

    -- whether the copies differ
    pub copies_differ : unequal (first_copy (image_source format image) p) (second_copy (image_source format image) p)
        ≡ (first && second && not (same second_run first_run))
    unfolding unequal
    copies_differ = (λ i. unequal (first_copy_lem i) (second_copy_lem i)) ∙ go first second
      where
        go : (a b : Bool) → unequal (only_if a (some first_run)) (only_if b (some second_run)) ≡ (a && b && not (same second_run first_run))
        go true true = refl
        go true false = refl
        go false b = refl

-- ---- runs that are compared with lent bytes
module _ (format : ℕ) (image : List ℕ) (lsn n : ℕ) (bytes : List ℕ) (known : foreign format ≡ false) (room : n * sector_size ≤ length bytes) where
  -- a readable run differs from the bytes, as many as it has
  pub run_differs_lem : readable format (length image) lsn n ≡ true → run_differs format image lsn n bytes ≡ not (same (run_data format image lsn n) (take (n * sector_size) bytes))
  unfolding run_differs
  run_differs_lem there =
      ap (λ (c : Comparison). eqb c.refusal 0 && eqb c.equal 0) (compares format image lsn n bytes (is_not_refused format (length image) lsn n 0 (length bytes) known there (omega arith)))
      ∙ go (same (run_data format image lsn n) (take (n * sector_size) bytes))
    where
      go : (t : Bool) → (eqb 0 0 && eqb (cond t 1 0) 0) ≡ not t
      go true = refl
      go false = refl

  -- one that is not readable differs from nothing
  pub run_missing : readable format (length image) lsn n ≡ false → run_differs format image lsn n bytes ≡ false
  unfolding run_differs
  run_missing missing =
      ap (λ (c : Comparison). eqb c.refusal 0 && eqb c.equal 0) (compares_not format image lsn n bytes refuses)
      ∙ ap (λ (t : Bool). t && eqb 0 0) (ne_eqb (read_refusal format (length image) lsn n 0 (length bytes)) 0 refuses)
    where
      refuses : read_refusal format (length image) lsn n 0 (length bytes) ≡ 0 → ⊥
      refuses e = let there = (not_refused format (length image) lsn n 0 (length bytes) e).0 in let z : ◌≡◌ {A = ℕ} 0 1 = cc in omega arith

  pub run_unequal : run_differs format image lsn n bytes ≡ is_unequal (take (n * sector_size) bytes) (run_of (image_source format image) lsn n)
  unfolding is_unequal
  run_unequal = go (readable format (length image) lsn n) refl
    where
      go : (t : Bool) → readable format (length image) lsn n ≡ t → run_differs format image lsn n bytes ≡ is_unequal (take (n * sector_size) bytes) (run_of (image_source format image) lsn n)
      go true e = run_differs_lem e ∙ sym (ap (is_unequal (take (n * sector_size) bytes)) (image_run format image lsn n e))
      go false e = run_missing e ∙ sym (ap (is_unequal (take (n * sector_size) bytes)) (image_no_run format image lsn n e))

-- the copies of the master table
pub master_copies_differ_lem : (format : ℕ) (image table : List ℕ) → foreign format ≡ false → length table ≡ master_bytes
    → master_copies_differ (image_source format image) table
    ≡ (run_differs format image second_master_lsn master_sectors table || run_differs format image third_master_lsn master_sectors table)
unfolding master_copies_differ
master_copies_differ_lem format image table known size =
    sym (λ i. each second_master_lsn i || each third_master_lsn i)
  where
    each : (lsn : ℕ) → run_differs format image lsn master_sectors table ≡ is_unequal table (run_of (image_source format image) lsn master_sectors)
    each lsn =
        run_unequal format image lsn master_sectors table known (omega arith)
        ∙ ap (λ (t : List ℕ). is_unequal t (run_of (image_source format image) lsn master_sectors)) (take_all (master_sectors * sector_size) table (omega arith))

-- ---- a readable master table is judged by its first sector
module _ (format : ℕ) (image : List ℕ) (there : readable format (length image) master_lsn master_sectors ≡ true) where
  sector_first : part 0 sector_size (run_data format image master_lsn master_sectors) ≡ sector_data format image master_lsn
  sector_first = run_part format image master_lsn master_sectors 0 there (omega arith)

  pub scarlet_first : is_scarlet_book (sector_data format image master_lsn) ≡ is_scarlet_book (run_data format image master_lsn master_sectors)
  unfolding is_scarlet_book
  scarlet_first =
      let size = run_length format image master_lsn master_sectors there in
      ap is_scarlet_book (sym sector_first) ∙ signed_part 0 sector_size (run_data format image master_lsn master_sectors) 0 master_signature (omega arith) (omega arith)

  pub newer_first : is_newer (sector_data format image master_lsn) ≡ is_newer (run_data format image master_lsn master_sectors)
  unfolding is_newer major_version
  newer_first =
      ap is_newer (sym sector_first) ∙ ap (λ (m : ℕ). ltb 1 m) (be_part 1 0 sector_size (run_data format image master_lsn master_sectors) 8 (omega arith))

  refusal_first : refusal_of (judged (some (run_data format image master_lsn master_sectors))) ≡ sector_refusal (sector_data format image master_lsn)
  unfolding judged refusal_of sector_refusal
  refusal_first = simp (scarlet_first, newer_first) (go (is_scarlet_book (run_data format image master_lsn master_sectors)) (is_newer (run_data format image master_lsn master_sectors)))
    where
      go : (s n : Bool) → refusal_of (cond s (cond n (refused version_unsupported) (reads (run_data format image master_lsn master_sectors))) (refused not_scarlet_book))
          ≡ cond s (cond n version_unsupported 0) not_scarlet_book
      go true true = refl
      go true false = refl
      go false n = refl

-- ---- the refusals that read nothing
module _ (format : ℕ) (image : List ℕ) (work records words : ℕ) where
  pub refusal_foreign : foreign format ≡ true → refusal_of (image_master format image work records words) ≡ foreign_format
  unfolding image_master refusal_of
  refusal_foreign e = simp e

  module _ (known : foreign format ≡ false) where
    pub refusal_short : is_short work records words ≡ true → refusal_of (image_master format image work records words) ≡ short_buffer
    unfolding image_master master_in refusal_of
    refusal_short short = simp (known, short)

    module _ (room : is_short work records words ≡ false) where
      master_judged : image_master format image work records words ≡ judged (run_of (image_source format image) master_lsn master_sectors)
      unfolding image_master master_in
      master_judged = simp (known, room)

      pub refusal_cut : readable format (length image) master_lsn master_sectors ≡ false → refusal_of (image_master format image work records words) ≡ master_toc_truncated
      unfolding judged refusal_of
      refusal_cut missing = ap refusal_of (master_judged ∙ ap judged (image_no_run format image master_lsn master_sectors missing))

      pub master_there : readable format (length image) master_lsn master_sectors ≡ true
          → image_master format image work records words ≡ judged (some (run_data format image master_lsn master_sectors))
      master_there there = master_judged ∙ ap judged (image_run format image master_lsn master_sectors there)

      pub refusal_sector : readable format (length image) master_lsn master_sectors ≡ true
          → refusal_of (image_master format image work records words) ≡ sector_refusal (sector_data format image master_lsn)
      refusal_sector there = ap refusal_of (master_there there) ∙ refusal_first format image there

-- "3 | cut master | fewer than 520 whole sectors"
pub cut_master : (format : ℕ) (image : List ℕ)
    → (judged (run_of (image_source format image) master_lsn master_sectors) ≡ refused master_toc_truncated) ↔ (sector_count format (length image) < 520)
unfolding judged
cut_master format image = (cut (readable format (length image) master_lsn master_sectors) refl, few)
  where
    not_cut : (table : List ℕ) (s n : Bool) → cond s (cond n (refused version_unsupported) (reads table)) (refused not_scarlet_book) ≡ refused master_toc_truncated → ⊥
    not_cut table true true e = let z : version_unsupported ≡ master_toc_truncated = cc in omega arith
    not_cut table true false e = let z : ◌≡◌ {A = ℕ} 0 1 = cc in omega arith
    not_cut table false n e = let z : not_scarlet_book ≡ master_toc_truncated = cc in omega arith

    cut : (t : Bool) → readable format (length image) master_lsn master_sectors ≡ t
        → judged (run_of (image_source format image) master_lsn master_sectors) ≡ refused master_toc_truncated → sector_count format (length image) < 520
    cut false q e = readable_false format (length image) master_lsn master_sectors q
    cut true q e =
        let table = run_data format image master_lsn master_sectors in
        absurd (not_cut table (is_scarlet_book table) (is_newer table) (sym (ap judged (image_run format image master_lsn master_sectors q)) ∙ e))

    few : sector_count format (length image) < 520 → judged (run_of (image_source format image) master_lsn master_sectors) ≡ refused master_toc_truncated
    few h = ap judged (image_no_run format image master_lsn master_sectors (not_readable format (length image) master_lsn master_sectors h))

-- ---- what is known when nothing is refused
pub record Opens (format : ℕ) (image : List ℕ) (work records words : ℕ) : Type 0 where
  pub known : foreign format ≡ false
  pub enough_work : work_bytes ≤ work
  pub enough_tracks : track_records ≤ records
  pub enough_words : warning_words ≤ words
  pub there : readable format (length image) master_lsn master_sectors ≡ true
  pub is_read : image_master format image work records words ≡ reads (run_data format image master_lsn master_sectors)

judged_reads : (table : List ℕ) → refusal_of (judged (some table)) ≡ 0 → judged (some table) ≡ reads table
unfolding judged refusal_of
judged_reads table = go (is_scarlet_book table) (is_newer table)
  where
    go : (s n : Bool) → refusal_of (cond s (cond n (refused version_unsupported) (reads table)) (refused not_scarlet_book)) ≡ 0
        → cond s (cond n (refused version_unsupported) (reads table)) (refused not_scarlet_book) ≡ reads table
    go true true e = absurd (omega arith)
    go true false e = refl
    go false n e = absurd (omega arith)

pub opens : (format : ℕ) (image : List ℕ) (work records words : ℕ) → refusal_of (image_master format image work records words) ≡ 0 → Opens format image work records words
unfolding is_short
opens format image work records words unrefused =
    by_tests (foreign format) (is_short work records words) (readable format (length image) master_lsn master_sectors) refl refl refl
  where
    table : List ℕ
    table = run_data format image master_lsn master_sectors

    by_tests : (f s t : Bool) → foreign format ≡ f → is_short work records words ≡ s → readable format (length image) master_lsn master_sectors ≡ t
        → Opens format image work records words
    by_tests true s t p q r = absurd (omega (arith, refusal_foreign format image work records words p))
    by_tests false true t p q r = absurd (omega (arith, refusal_short format image work records words p q))
    by_tests false false false p q r = absurd (omega (arith, refusal_cut format image work records words p q r))
    by_tests false false true p q r =
        let judges = master_there format image work records words p q r in
        record {
          known = p;
          enough_work = ltb-false work work_bytes (or_left (ltb work work_bytes) _ (or_left _ _ q));
          enough_tracks = ltb-false records track_records (or_right (ltb work work_bytes) _ (or_left _ _ q));
          enough_words = ltb-false words warning_words (or_right (ltb work work_bytes || ltb records track_records) _ q);
          there = r;
          is_read = judges ∙ judged_reads table (sym (ap refusal_of judges) ∙ unrefused);
        }
