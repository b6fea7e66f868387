-- The proof of demand 3: an image cut and rewritten is a cut source, sector by sector and byte by byte; a reading with a property that none of
-- refusals 1 to 5 has meets none of them. Assumes nothing.
use Rattle.std.specs.Prelude.{ℕ, ◌+◌, ◌*◌, ◌≤◌, Bool, cond, ◌≡◌, length}
use Rattle.std.proofs.Common.{arith, ◌∙◌, subst}
use Rattle.std.proofs.Math.Bool.{true, false}
use mathlib.Core.List.{List}
use Rattle.std.proofs.Math.Option.{Option, none, some}
use Rattle.std.proofs.Math.Path.{refl, sym, ap}
use Rattle.sectors.specs.Format.{foreign, stored_size, data_offset}
use Rattle.sectors.specs.OptionLaws.{some_eq, no_some}
use Rattle.sectors.specs.Options.{Known}
use Rattle.sectors.specs.Refusal.{foreign_format}
use Rattle.sectors.specs.Sector.{sector_count, readable, sector_data}
use Rattle.sectors.proofs.SectorLaws.{readable_true, is_readable, count_known, count_mono, sector_inside, sector_ext}
use Rattle.sectors.specs.Source.{image_source, run_of}
use Rattle.sectors.proofs.SourceLaws.{image_count, image_at, image_holds, image_sized, image_run, image_no_run}
use Rattle.disc.specs.Slot.{Slot}
use Rattle.disc.specs.Master.{master_lsn, master_sectors, pointer_of}
use Rattle.disc.specs.Outcome.{Memory, Outcome, Yielded, slot_yields}
use Rattle.disc.specs.Disc.{refused, master_in, image_master, refusal, outcome_of, read_source, read_disc}
use Rattle.disc.specs.Demand3.{Place, Names, first_place, second_place, LiesIn, HasMaster, master_table, copy_bytes, Roomy, Unrefused, area_from, pointer, KeptSector, of_master, of_copy, Rewritten, given, Holds, OneCut, TwoCuts, Demand3}
use Rattle.disc.specs.DiscLaws.{Passed, passed_of, refusal_yields}
use Rattle.disc.specs.SourceCut.{CutOf, same_table, SourceHolds, source_holds, SourceGave, source_gave, source_again}

-- ---- an image as a source

-- a run that is there lies in the image
there_lies : (format : ℕ) (image : List ℕ) (lsn n : ℕ) (b : List ℕ) → run_of (image_source format image) lsn n ≡ some b
    → readable format (length image) lsn n ≡ true
there_lies format image lsn n b e = go (readable format (length image) lsn n) refl
  where
    go : (t : Bool) → readable format (length image) lsn n ≡ t → readable format (length image) lsn n ≡ true
    go true q = q
    go false q = absurd (no_some (image_no_run format image lsn n q) e)

-- one that does not is not there
not_there : (format : ℕ) (image : List ℕ) (place : Place) → ¬ LiesIn format (length image) place
    → run_of (image_source format image) place.lsn place.sectors ≡ none
not_there format image place not_in = go (readable format (length image) place.lsn place.sectors) refl
  where
    go : (t : Bool) → readable format (length image) place.lsn place.sectors ≡ t → run_of (image_source format image) place.lsn place.sectors ≡ none
    go true q = absurd (not_in q)
    go false q = image_no_run format image place.lsn place.sectors q

-- a copy that is there has the bytes that 01 says
copy_is : (format : ℕ) (image : List ℕ) (place : Place) → LiesIn format (length image) place
    → run_of (image_source format image) place.lsn place.sectors ≡ some (copy_bytes format image place)
unfolding copy_bytes
copy_is format image place h = image_run format image place.lsn place.sectors h

-- so has the master table
table_is : (format : ℕ) (image : List ℕ) → HasMaster format (length image) → run_of (image_source format image) master_lsn master_sectors ≡ some (master_table format image)
unfolding master_table
table_is format image h = image_run format image master_lsn master_sectors (is_readable format (length image) master_lsn master_sectors h)

-- what the rules give for a copy that is there
given_is : (format : ℕ) (image : List ℕ) (slot : Slot) (place : Place) (b : List ℕ) → run_of (image_source format image) place.lsn place.sectors ≡ some b
    → given format image slot place ≡ area_from slot place b
unfolding given
given_is format image slot place b e =
    let h = there_lies format image place.lsn place.sectors b e in
    let bytes : copy_bytes format image place ≡ b = some_eq (sym (copy_is format image place h) ∙ e) in
    rw (h, bytes)

pub known_read : (format : ℕ) (image : List ℕ) (m : Memory) → foreign format ≡ false → read_disc format image m ≡ read_source (image_source format image) format m
unfolding read_disc image_master read_source
known_read format image m h = rw h

-- an image with at least as many bytes has every sector of another
sectors_more : (format : ℕ) (a b : List ℕ) → length a ≤ length b → (n : ℕ) (d : List ℕ) → (image_source format a).at n ≡ some d → Known ((image_source format b).at n)
sectors_more format a b shorter n d e =
    let within = readable_true format (length a) n 1 (image_holds format a n d e).0 in
    let fewer = count_mono format (length a) (length b) shorter in
    (sector_data format b n, image_at format b n (is_readable format (length b) n 1 (omega arith)))

-- ---- one cut

module _ (format : ℕ) (uncut : List ℕ) (cut : ℕ) (image : List ℕ) (r : Rewritten format uncut cut image) where
  shorter : length image ≤ length uncut
  shorter = let within = r.cut_within in let there = r.cut_there in omega arith

  fewer : sector_count format (length image) ≤ sector_count format (length uncut)
  fewer = count_mono format (length image) (length uncut) shorter

  -- a kept sector that the cut has: its data are as they were
  kept_data : HasMaster format (length uncut) → (n : ℕ) → KeptSector format uncut n
      → readable format (length image) n 1 ≡ true → readable format (length uncut) n 1 ≡ true → sector_data format image n ≡ sector_data format uncut n
  kept_data has n k here there =
      let end = sector_inside format image n here in
      let length-is = r.cut_there in
      sector_ext format image uncut n here there (λ i small.
      r.kept (n * stored_size format + data_offset format + i) (omega arith)
      (record {
        not_foreign = count_known format (length uncut) (omega arith);
        not_short = has;
        sector = n;
        in_sector = i;
        is_data = small;
        lies_there = refl;
        is_kept = k;
      }))

  kept_sector : HasMaster format (length uncut) → (n : ℕ) → KeptSector format uncut n → (d : List ℕ)
      → (image_source format image).at n ≡ some d → (image_source format uncut).at n ≡ some d
  kept_sector has n k d e =
      let q = image_holds format image n d e in
      let within = readable_true format (length image) n 1 q.0 in
      let few = fewer in
      let there = is_readable format (length uncut) n 1 (omega arith) in
      image_at format uncut n there ∙ ap {B = Option (List ℕ)} some (sym (kept_data has n k q.0 there) ∙ q.1)

  -- an image cut and rewritten is a cut source
  is_cut : HasMaster format (length uncut) → CutOf (image_source format uncut) (image_source format image)
  unfolding pointer
  is_cut has = record {
    no_longer = rw (image_count format image, image_count format uncut) fewer;
    none_new = sectors_more format image uncut shorter;
    master_kept = λ n d l h e. kept_sector has n (of_master l h) d e;
    copies_kept = λ table t slot place named known n d l h e.
        let same : table ≡ master_table format uncut = some_eq (sym t ∙ table_is format uncut has) in
        let lies = there_lies format uncut place.lsn place.sectors known.0 known.1 in
        kept_sector has n (of_copy slot place (subst (λ (x : List ℕ). Names (pointer_of x slot) place) same named) lies l h) d e;
  }

  module _ (has : HasMaster format (length image)) where
    has_uncut : HasMaster format (length uncut)
    has_uncut = let few = fewer in omega arith

    -- the cut's master table is the uncut image's
    pub tables_same : master_table format image ≡ master_table format uncut
    tables_same =
        some_eq (sym (same_table (image_source format uncut) (image_source format image) (is_cut has_uncut) (master_table format image) (table_is format image has))
        ∙ table_is format uncut has_uncut)

  -- ---- a reading that none of refusals 1 to 5 ends

  module _ (memory : Memory) (u : Unrefused format image memory) where
    passed : Passed (image_source format image) memory (master_table format uncut)
    passed =
        let same = tables_same u.not_truncated in
        record {
          room = u.not_short;
          there = table_is format image u.not_truncated ∙ ap {B = Option (List ℕ)} some same;
          scarlet = rw same at u.is_scarlet;
          old = rw same at u.not_newer;
        }

    holds_source : SourceHolds (image_source format uncut) (image_source format image) (master_table format uncut) (read_source (image_source format image) format memory)
    holds_source =
        source_holds (image_source format image) (image_sized format image) format memory (master_table format uncut) passed
        (image_source format uncut) (is_cut (has_uncut u.not_truncated))

    copy_there : (place : Place) → LiesIn format cut place → run_of (image_source format image) place.lsn place.sectors ≡ some (copy_bytes format image place)
    copy_there place h = copy_is format image place (rw r.cut_there h)

    copy_lost : (place : Place) → ¬ LiesIn format cut place → run_of (image_source format image) place.lsn place.sectors ≡ none
    copy_lost place h = not_there format image place (rw r.cut_there h)

    holds : Holds format uncut cut (read_disc format image memory)
    unfolding pointer
    holds = rw (known_read format image memory u.not_foreign) (record {
      the_master = holds_source.s_master;
      first_copy_lem = λ slot h l.
          let place = first_place (pointer_of (master_table format uncut) slot) in
          let s = holds_source.s_first slot h (copy_bytes format image place) (copy_there place l) in
          s.1 ∙ sym (given_is format uncut slot place (copy_bytes format image place) s.0);
      second_copy_lem = λ slot h f n l.
          let place = second_place (pointer_of (master_table format uncut) slot) in
          let s = holds_source.s_second slot h (copy_lost (first_place (pointer_of (master_table format uncut) slot)) f) n (copy_bytes format image place) (copy_there place l) in
          s.1 ∙ sym (given_is format uncut slot place (copy_bytes format image place) s.0);
      no_copy = λ slot h f g.
          holds_source.s_none slot h (copy_lost (first_place (pointer_of (master_table format uncut) slot)) f)
          (λ n. copy_lost (second_place (pointer_of (master_table format uncut) slot)) (λ l. g (n, l)));
      other_slots = holds_source.s_other;
      silent_exactly = holds_source.s_silent;
    })

  -- ---- a reading with a property that none of refusals 1 to 5 has

  module _ (P : Outcome → Type 0) (memory : Memory) (never : (n : ℕ) → ¬ P (record { answer = refusal n; memory = memory })) (e : P (read_disc format image memory)) where
    known_of : foreign format ≡ false
    unfolding read_disc image_master outcome_of
    known_of = go (foreign format) refl e
      where
        go : (t : Bool) → foreign format ≡ t
            → P (outcome_of (image_source format image) format memory (cond t (refused foreign_format) (master_in (image_source format image) (length memory.work) (length memory.tracks) (length memory.words))))
            → foreign format ≡ false
        go true q h = absurd (never foreign_format h)
        go false q h = q

    unrefused_of : Unrefused format image memory
    unrefused_of =
        let q = passed_of P (image_source format image) format memory never (rw (known_read format image memory known_of) at e) in
        let p = q.1 in
        let has = readable_true format (length image) master_lsn master_sectors (there_lies format image master_lsn master_sectors q.0 p.there) in
        let same : q.0 ≡ master_table format image = some_eq (sym p.there ∙ table_is format image has) in
        record {
          not_foreign = known_of;
          not_short = p.room;
          not_truncated = has;
          is_scarlet = rw (← same) p.scarlet;
          not_newer = rw (← same) p.old;
        }

  -- ---- a reading that yields

  module _ (memory : Memory) (slot : Slot) (a : Yielded) (e : slot_yields (read_disc format image memory) slot ≡ some a) where
    yields_unrefused : Unrefused format image memory
    yields_unrefused = unrefused_of (λ o. slot_yields o slot ≡ some a) memory (λ n. refusal_yields memory a n slot) e

    from_source : slot_yields (read_source (image_source format image) format memory) slot ≡ some a
    from_source = rw (known_read format image memory yields_unrefused.not_foreign) at e

    yields_gave : SourceGave (image_source format uncut) (master_table format uncut) slot a
    yields_gave =
        let u = yields_unrefused in
        source_gave (image_source format image) (image_sized format image) format memory (master_table format uncut) (passed memory u)
        (image_source format uncut) (is_cut (has_uncut u.not_truncated)) slot a from_source

  one : (memory : Memory) → OneCut format uncut cut image memory (read_disc format image memory)
  unfolding pointer
  one memory = record {
    no_other_track = λ slot t c.
        let g = yields_gave memory slot c.area c.is_yielded in
        record {
          has_table = has_uncut (yields_unrefused memory slot c.area c.is_yielded).not_truncated;
          place = g.place;
          named = g.named;
          area = c.area;
          is_given = given_is format uncut slot g.place g.bytes g.there ∙ g.gives;
          member = c.member;
        };
    unless_refused = holds memory;
  }

-- ---- two cuts

module _ (format : ℕ) (uncut : List ℕ) (cut : ℕ) (image : List ℕ) (r : Rewritten format uncut cut image)
    (cut' : ℕ) (image' : List ℕ) (r' : Rewritten format uncut cut' image') (no_shorter : cut ≤ cut') where
  longer : length image ≤ length image'
  longer = let a = r.cut_there in let b = r'.cut_there in omega arith

  no_fewer : sector_count format (length image) ≤ sector_count format (length image')
  no_fewer = count_mono format (length image) (length image') longer

  -- the longer cut is not refused either, if its buffers are not short
  unrefused_too : (memory memory' : Memory) → Roomy memory' → Unrefused format image memory → Unrefused format image' memory'
  unrefused_too memory memory' room u =
      let more = no_fewer in
      let has = u.not_truncated in
      let has' : HasMaster format (length image') = omega arith in
      let same : master_table format image' ≡ master_table format image =
      tables_same format uncut cut' image' r' has' ∙ sym (tables_same format uncut cut image r has) in
      record {
        not_foreign = u.not_foreign;
        not_short = room;
        not_truncated = has';
        is_scarlet = rw same u.is_scarlet;
        not_newer = rw same u.not_newer;
      }

  two : (memory memory' : Memory) → Roomy memory' → TwoCuts format uncut (read_disc format image memory) (read_disc format image' memory')
  unfolding pointer
  two memory memory' room = record {
    comes_again = λ slot h n l₁ l₂ same x e.
        let u = yields_unrefused format uncut cut image r memory slot x e in
        let u' = unrefused_too memory memory' room u in
        let has = has_uncut format uncut cut image r u.not_truncated in
        let first = first_place (pointer_of (master_table format uncut) slot) in
        let second = second_place (pointer_of (master_table format uncut) slot) in
        let again = source_again (image_source format uncut) (image_source format image) (image_source format image')
        (is_cut format uncut cut image r has) (is_cut format uncut cut' image' r' has)
        (image_sized format image) (image_sized format image')
        (rw (image_count format image, image_count format image') no_fewer)
        (sectors_more format image image' longer)
        format memory memory' (master_table format uncut) (passed format uncut cut image r memory u) (passed format uncut cut' image' r' memory' u')
        slot (copy_bytes format uncut first) (copy_is format uncut first l₁)
        (copy_is format uncut second l₂ ∙ ap {B = Option (List ℕ)} some (sym same))
        x (from_source format uncut cut image r memory slot x e) in
        (again.0, rw (known_read format image' memory' u.not_foreign) again.1, again.2);
  }

-- Demand 3 holds of disc reading.
pub demand3 : Demand3 read_disc
demand3 = record {
  one_cut = λ format uncut cut image r memory. one format uncut cut image r memory;
  two_cuts = λ format uncut cut image r cut' image' r' h memory memory' room room'. two format uncut cut image r cut' image' r' h memory memory' room';
}
