-- Laws of disc reading from any source: lent memory then holds what a slot yields, since the fills of it do not touch; and when none of
-- refusals 2 to 5 comes. Assumes nothing.
use Prim.Native.Nat.{ℕ, ◌+◌, ◌*◌, ◌≤◌, min}
use Rattle.std.proofs.Math.Decide.{ℕ_discrete}
use native.Mathlib.Omega.{arith}
use Rattle.std.proofs.Math.Bool.{Bool, true, false, cond}
use Rattle.std.specs.Prelude.{◌&&◌, ◌||◌, List, ◌↔◌, ◌≡◌, ltb, eqb}
use Rattle.std.proofs.Math.Option.{Option, none, some}
use Rattle.std.proofs.Math.Path.{refl, ap}
use Rattle.std.proofs.Common.{sym, ◌∙◌, le-ltb, ltb-false}
use Rattle.std.proofs.Math.ListN.{length}
use Rattle.sectors.specs.Fill.{part, fill}
use Rattle.sectors.specs.FillLaws.{length_fill, part_filled, part_before}
use Rattle.sectors.specs.Format.{sector_size}
use Rattle.sectors.specs.OptionLaws.{no_some}
use Rattle.sectors.specs.Options.{only_if}
use Rattle.sectors.specs.Refusal.{short_buffer}
use Rattle.sectors.specs.Source.{Source, Sized, run_of}
use Rattle.sectors.proofs.SourceLaws.{run_of_length}
use Rattle.area.specs.Area.{addressed, no_area}
use Rattle.area.specs.LimitLaws.{table_size_lem}
use Rattle.area.specs.Limits.{max_area_toc_sectors, max_tracks, table_size}
use Rattle.area.specs.Refusal.{no_audio_areas}
use Rattle.area.specs.Skip.{skip_of}
use Rattle.area.specs.Table as Area
use Rattle.area.proofs.TableLaws.{tracks_count, sectors_given, no_area_absent, addressed_track_count, addressed_sectors}
use Rattle.area.specs.TestLaws.{or_left, or_right}
use Rattle.disc.specs.Slot.{Slot, two_channel, multichannel, slot_number, region_at, tracks_at, work_bytes, track_records, warning_words}
use Rattle.disc.specs.Master.{master_lsn, master_sectors, master_bytes, is_scarlet_book, major_version, is_newer, pointer_of, master_of}
use Rattle.disc.specs.Refusal.{master_toc_truncated, not_scarlet_book, version_unsupported}
use Rattle.disc.specs.Copies.{Copy, chosen, bytes_of, table_in, has_area, area_in, tracks_in, slot_table}
use Rattle.disc.specs.Outcome.{Memory, Outcome, Yielded, area_for, is_accepted, is_present, handed_back, slot_yields}
use Rattle.disc.specs.Disc.{refused, reads, is_short, judged, master_in, warnings_of, refusal, silent, accepted, answer_of, table_of, copy_of, work_after, tracks_after, reading_of, outcome_of, read_source}
use Rattle.disc.specs.Demand3.{Roomy}
use Rattle.disc.specs.RegionLaws.{region_begins}
use Rattle.disc.specs.ChosenLaws.{place_of, chosen_named, chosen_there, names_served, names_sectors, yielded_in, whole_table, kept_yield, copy_tracks, kept_area, kept_present, kept_is, skipped_area, skipped_is, no_area_none, area_some}
use Rattle.disc.specs.declared.answer.DiscAnswer.{DiscAnswer}
use Rattle.disc.specs.declared.master.AreaPointer.{AreaPointer}
use Rattle.disc.specs.CopyLaws.{slot_tracks_few}

-- ---- two fills that do not touch

module _ {A : Type 0} (old first second : List A) (at : ℕ) (low : length first ≤ at) (high : at + length second ≤ length old) where
  high_too : at + length second ≤ length (fill 0 first old)
  high_too = rw (length_fill 0 first old (omega arith)) high

  two_first : part 0 (length first) (fill at second (fill 0 first old)) ≡ first
  two_first = part_before at second (fill 0 first old) high_too 0 (length first) (omega arith) ∙ part_filled 0 first old (omega arith)

  two_second : part at (length second) (fill at second (fill 0 first old)) ≡ second
  two_second = part_filled at second (fill 0 first old) high_too

-- ---- lent memory after a reading

module _ (s : Source) (z : Sized s) where
  -- a chosen copy has its sectors' bytes, and at most 128 sectors
  chosen_size : (p : AreaPointer) (c : Copy) → chosen s p ≡ some c → length c.bytes ≡ c.sectors * sector_size
  chosen_size p c e = run_of_length s z c.lsn c.sectors c.bytes (chosen_there s p c e)

  chosen_few : (p : AreaPointer) (c : Copy) → chosen s p ≡ some c → c.sectors ≤ max_area_toc_sectors
  unfolding place_of
  chosen_few p c e =
      let n = chosen_named s p c e in let few = (names_served n).sectors_few in let same = names_sectors n in omega arith

  module _ (table : List ℕ) (long : length table ≡ master_bytes) (memory : Memory) (room : Roomy memory) where
    bytes_held : (slot : Slot) → part (region_at slot) (length (copy_of s table slot)) (work_after s table memory.work) ≡ copy_of s table slot
    unfolding copy_of
    bytes_held slot = region_begins s z table memory.work long room.work_suffices slot

    tracks_few : (slot : Slot) → length (tracks_in (table_of s table slot)) ≤ max_tracks
    unfolding table_of
    tracks_few slot = slot_tracks_few s (pointer_of table slot) slot

    tracks_held : (slot : Slot)
        → part (tracks_at slot) (length (tracks_in (table_of s table slot))) (tracks_after s table memory.tracks) ≡ tracks_in (table_of s table slot)
    unfolding tracks_after tracks_at
    tracks_held slot = go slot
      where
        high : max_tracks + length (tracks_in (table_of s table multichannel)) ≤ length memory.tracks
        high = let few = tracks_few multichannel in let enough = room.tracks_suffice in omega arith

        go : (slot : Slot)
            → part (tracks_at slot) (length (tracks_in (table_of s table slot))) (tracks_after s table memory.tracks) ≡ tracks_in (table_of s table slot)
        go two_channel =
            two_first memory.tracks (tracks_in (table_of s table two_channel)) (tracks_in (table_of s table multichannel)) max_tracks (tracks_few two_channel) high
        go multichannel =
            two_second memory.tracks (tracks_in (table_of s table two_channel)) (tracks_in (table_of s table multichannel)) max_tracks (tracks_few two_channel) high

    module _ (format : ℕ) where
      -- what is handed back of a copy that is not skipped: its area's record, its tracks and its bytes
      held : (slot : Slot) (c : Copy) → chosen s (pointer_of table slot) ≡ some c → skip_of c.bytes ≡ 0
          → handed_back (reading_of s table format memory).memory slot (addressed c.lsn (Area.area_given (whole_table slot c))) ≡ kept_yield slot c
      unfolding handed_back reading_of kept_yield whole_table copy_of bytes_of table_of slot_table
      held slot c e kept = λ i. record { area = addressed c.lsn (Area.area_given (whole_table slot c)); tracks = same_tracks i; bytes = same_bytes i }
        where
          its_tracks : tracks_in (table_of s table slot) ≡ Area.tracks_given (whole_table slot c)
          its_tracks = ap (λ (x : Option Copy). tracks_in (table_in slot x)) e ∙ copy_tracks slot c

          its_bytes : copy_of s table slot ≡ c.bytes
          its_bytes = ap bytes_of e

          count : min (addressed c.lsn (Area.area_given (whole_table slot c))).track_count max_tracks ≡ length (tracks_in (table_of s table slot))
          count =
              ap (λ (n : ℕ). min n max_tracks) (addressed_track_count c.lsn (Area.area_given (whole_table slot c)))
              ∙ sym (tracks_count c.bytes (slot_number slot) c.sectors)
              ∙ ap length (sym its_tracks)

          size : table_size (addressed c.lsn (Area.area_given (whole_table slot c))).origin.toc_sectors ≡ length (copy_of s table slot)
          size =
              ap table_size (addressed_sectors c.lsn (Area.area_given (whole_table slot c)) ∙ sectors_given c.bytes (slot_number slot) c.sectors kept)
              ∙ table_size_lem c.sectors (chosen_few (pointer_of table slot) c e)
              ∙ sym (chosen_size (pointer_of table slot) c e)
              ∙ ap length (sym its_bytes)

          same_tracks : part (tracks_at slot) (min (addressed c.lsn (Area.area_given (whole_table slot c))).track_count max_tracks) (tracks_after s table memory.tracks)
              ≡ Area.tracks_given (whole_table slot c)
          same_tracks = ap (λ (n : ℕ). part (tracks_at slot) n (tracks_after s table memory.tracks)) count ∙ tracks_held slot ∙ its_tracks

          same_bytes : part (region_at slot) (table_size (addressed c.lsn (Area.area_given (whole_table slot c))).origin.toc_sectors) (work_after s table memory.work) ≡ c.bytes
          same_bytes = ap (λ (n : ℕ). part (region_at slot) n (work_after s table memory.work)) size ∙ bytes_held slot ∙ its_bytes

      -- .. and of any slot of an accepted reading
      slot_held : (slot : Slot) (x : Option Copy) → chosen s (pointer_of table slot) ≡ x
          → only_if (is_present (area_in (table_in slot x))) (some (handed_back (reading_of s table format memory).memory slot (area_in (table_in slot x)))) ≡ yielded_in slot x
      unfolding area_in table_in is_present yielded_in
      slot_held slot none e = rw no_area_absent
      slot_held slot (some c) e = go (ℕ_discrete (skip_of c.bytes) 0)
        where
          go : Dec (skip_of c.bytes ≡ 0)
              → only_if (is_present (area_in (table_in slot (some c)))) (some (handed_back (reading_of s table format memory).memory slot (area_in (table_in slot (some c))))) ≡ yielded_in slot (some c)
          go (yes kept) = rw (kept_area slot c kept, kept_present slot c kept, kept_is slot c kept) (ap {B = Option Yielded} some (held slot c e kept))
          go (no skipped) = rw (skipped_area slot c skipped, no_area_absent, skipped_is slot c skipped)

      -- A slot yields what the area rules make of its chosen copy.
      pub slot_yields_lem : (slot : Slot) → slot_yields (reading_of s table format memory) slot ≡ yielded_in slot (chosen s (pointer_of table slot))
      unfolding slot_yields reading_of answer_of accepted silent area_for is_accepted table_of slot_table
      slot_yields_lem slot = go (has_area (table_of s table two_channel)) (has_area (table_of s table multichannel)) refl refl slot
        where
          answer : Bool → Bool → DiscAnswer
          answer first second =
              cond (first || second)
              (accepted format s.count table (length (warnings_of s table)) (table_of s table two_channel) (table_of s table multichannel))
              (silent table (length (warnings_of s table)))

          shown : (slot : Slot)
              → slot_yields (record { answer = answer true true; memory = (reading_of s table format memory).memory }) slot ≡ yielded_in slot (chosen s (pointer_of table slot))
          shown two_channel = slot_held two_channel (chosen s (pointer_of table two_channel)) refl
          shown multichannel = slot_held multichannel (chosen s (pointer_of table multichannel)) refl

          go : (first second : Bool) → has_area (table_of s table two_channel) ≡ first → has_area (table_of s table multichannel) ≡ second → (slot : Slot)
              → slot_yields (record { answer = answer first second; memory = (reading_of s table format memory).memory }) slot ≡ yielded_in slot (chosen s (pointer_of table slot))
          go true second p q slot = shown slot
          go false true p q slot = shown slot
          go false false p q two_channel = sym (no_area_none two_channel (chosen s (pointer_of table two_channel)) p)
          go false false p q multichannel = sym (no_area_none multichannel (chosen s (pointer_of table multichannel)) q)

      -- Refusal 6 comes exactly when neither slot yields.
      pub silent_when : ((reading_of s table format memory).answer.refusal ≡ no_audio_areas)
          ↔ ((slot_yields (reading_of s table format memory) two_channel ≡ none) × (slot_yields (reading_of s table format memory) multichannel ≡ none))
      unfolding reading_of answer_of accepted silent table_of slot_table
      silent_when =
          rw (slot_yields_lem two_channel, slot_yields_lem multichannel)
          (go (has_area (table_of s table two_channel)) (has_area (table_of s table multichannel)) refl refl)
        where
          number : Bool → Bool → ℕ
          number first second =
              (cond (first || second)
              (accepted format s.count table (length (warnings_of s table)) (table_of s table two_channel) (table_of s table multichannel))
              (silent table (length (warnings_of s table)))).refusal

          go : (first second : Bool) → has_area (table_of s table two_channel) ≡ first → has_area (table_of s table multichannel) ≡ second
              → (number first second ≡ no_audio_areas)
              ↔ ((yielded_in two_channel (chosen s (pointer_of table two_channel)) ≡ none) × (yielded_in multichannel (chosen s (pointer_of table multichannel)) ≡ none))
          go true second p q = (λ e. absurd (omega (arith, e)), λ e. absurd (area_some two_channel (chosen s (pointer_of table two_channel)) p e.0))
          go false true p q = (λ e. absurd (omega (arith, e)), λ e. absurd (area_some multichannel (chosen s (pointer_of table multichannel)) q e.1))
          go false false p q =
              (λ e. (no_area_none two_channel (chosen s (pointer_of table two_channel)) p, no_area_none multichannel (chosen s (pointer_of table multichannel)) q), λ e. refl)

-- What an accepted answer and a silent one both have, the reading has: the master record, and the count of the warnings.
module _ (s : Source) (table : List ℕ) (format : ℕ) (memory : Memory) where
  both_have : {A : Type 0} (f : DiscAnswer → A) (x : A)
      → f (accepted format s.count table (length (warnings_of s table)) (table_of s table two_channel) (table_of s table multichannel)) ≡ x
      → f (silent table (length (warnings_of s table))) ≡ x → f (reading_of s table format memory).answer ≡ x
  unfolding reading_of answer_of
  both_have f x first second = go (has_area (table_of s table two_channel) || has_area (table_of s table multichannel))
    where
      go : (b : Bool)
          → f (cond b (accepted format s.count table (length (warnings_of s table)) (table_of s table two_channel) (table_of s table multichannel))
          (silent table (length (warnings_of s table)))) ≡ x
      go true = first
      go false = second

  pub master_back : (reading_of s table format memory).answer.master ≡ master_of table
  unfolding accepted silent
  master_back = both_have (λ a. a.master) (master_of table) refl refl

  pub count_back : (reading_of s table format memory).answer.warnings ≡ length (warnings_of s table)
  unfolding accepted silent
  count_back = both_have (λ a. a.warnings) (length (warnings_of s table)) refl refl

-- ---- the checks

-- none of refusals 2 to 5 comes, and the master table is `table`
pub record Passed (source : Source) (memory : Memory) (table : List ℕ) : Type 0 where
  pub room : Roomy memory
  pub there : run_of source master_lsn master_sectors ≡ some table
  pub scarlet : is_scarlet_book table ≡ true
  pub old : major_version table ≤ 1

not_short : (m : Memory) → Roomy m → is_short (length m.work) (length m.tracks) (length m.words) ≡ false
unfolding is_short
not_short m r =
    rw (
      le-ltb (length m.work) work_bytes r.work_suffices,
      le-ltb (length m.tracks) track_records r.tracks_suffice,
      le-ltb (length m.words) warning_words r.words_suffice,
    )

is_roomy : (m : Memory) → is_short (length m.work) (length m.tracks) (length m.words) ≡ false → Roomy m
unfolding is_short
is_roomy m e =
    let work = ltb (length m.work) work_bytes in let tracks = ltb (length m.tracks) track_records in let words = ltb (length m.words) warning_words in
    let two = or_left (work || tracks) words e in
    record {
      work_suffices = ltb-false (length m.work) work_bytes (or_left work tracks two);
      tracks_suffice = ltb-false (length m.tracks) track_records (or_right work tracks two);
      words_suffice = ltb-false (length m.words) warning_words (or_right (work || tracks) words e);
    }

pub passed_read : (s : Source) (format : ℕ) (m : Memory) (table : List ℕ) → Passed s m table → read_source s format m ≡ reading_of s table format m
unfolding read_source outcome_of master_in judged is_newer
passed_read s format m table p = rw (not_short m p.room, p.there, p.scarlet, le-ltb 1 (major_version table) p.old)

-- a reading with a property that no refusal of 1 to 5 has, passed them
pub passed_of : (P : Outcome → Type 0) (s : Source) (format : ℕ) (m : Memory) → ((n : ℕ) → ¬ P (record { answer = refusal n; memory = m })) → P (read_source s format m)
    → (table : List ℕ) × Passed s m table
unfolding read_source outcome_of master_in judged is_newer
passed_of P s format m never e = room (is_short (length m.work) (length m.tracks) (length m.words)) refl e
  where
    checked : Roomy m → (table : List ℕ) → run_of s master_lsn master_sectors ≡ some table → (signed newer : Bool)
        → is_scarlet_book table ≡ signed → is_newer table ≡ newer
        → P (outcome_of s format m (cond signed (cond newer (refused version_unsupported) (reads table)) (refused not_scarlet_book)))
        → (table : List ℕ) × Passed s m table
    checked r table t false newer p q h = absurd (never not_scarlet_book h)
    checked r table t true true p q h = absurd (never version_unsupported h)
    checked r table t true false p q h = (table, record { room = r; there = t; scarlet = p; old = ltb-false 1 (major_version table) q })

    master : Roomy m → (x : Option (List ℕ)) → run_of s master_lsn master_sectors ≡ x → P (outcome_of s format m (judged x)) → (table : List ℕ) × Passed s m table
    master r none q h = absurd (never master_toc_truncated h)
    master r (some table) q h = checked r table q (is_scarlet_book table) (is_newer table) refl refl h

    room : (short : Bool) → is_short (length m.work) (length m.tracks) (length m.words) ≡ short
        → P (outcome_of s format m (cond short (refused short_buffer) (judged (run_of s master_lsn master_sectors)))) → (table : List ℕ) × Passed s m table
    room true q h = absurd (never short_buffer h)
    room false q h = master (is_roomy m q) (run_of s master_lsn master_sectors) refl h

-- a refusal of 1 to 5 yields nothing
module _ (m : Memory) (a : Yielded) where
  absent : (accepted : Bool) (slot : Slot) → only_if (accepted && eqb no_area.present 1) (some (handed_back m slot no_area)) ≡ some a → ⊥
  absent true slot e = no_some refl (rw no_area_absent at e)
  absent false slot e = no_some refl e

  pub refusal_yields : (n : ℕ) (slot : Slot) → ¬ (slot_yields (record { answer = refusal n; memory = m }) slot ≡ some a)
  unfolding slot_yields refusal area_for is_accepted is_present
  refusal_yields n two_channel e = absent (eqb n 0) two_channel e
  refusal_yields n multichannel e = absent (eqb n 0) multichannel e
