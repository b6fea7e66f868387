-- Controls of demand 3: its statement is false of wrong readers, `Rewritten` allows all that the text allows, and an area that comes again can
-- have another address. Assumes nothing.
use Rattle.std.specs.Prelude.{ℕ, ◌+◌, ◌*◌, ◌≤◌, ◌<◌, min, Bool, true, false, cond, ◌&&◌, ◌≢◌, ◌⊎◌, ◌≡◌, refl, eqb, length, get_or, take, set, replicate}
use Rattle.std.proofs.Common.{arith, inl, inr, sym, ◌∙◌, subst, ne_eqb, eqb-true, length-set, length-take-le, get_or-take, get_or-set_other, take_all, take-take}
use mathlib.Core.List.{List, [], ◌∷◌, Memᴰ}
use Rattle.std.proofs.Math.Option.{Option, none, some}
use Rattle.std.proofs.Math.Path.{ap}
use Rattle.std.proofs.lemmas.List.{length-replicate, get_or-replicate}
use Rattle.sectors.specs.Fill.{part}
use Rattle.sectors.specs.FillLaws.{part_all, part_at}
use Rattle.sectors.specs.Format.{sector_size}
use Rattle.sectors.specs.OptionLaws.{some_eq, no_some}
use Rattle.sectors.specs.Options.{only_if}
use Rattle.sectors.specs.Sector.{sector_count, readable}
use Rattle.sectors.proofs.SectorLaws.{readable_true, is_readable, not_readable, count_known, count_bound, plain_count}
use Rattle.sectors.specs.Signature.{signed_at}
use Rattle.area.specs.Area.{two_channel_signature, addressed}
use Rattle.area.specs.Limits.{max_tracks}
use Rattle.area.specs.Refusal.{no_audio_areas}
use Rattle.area.specs.Skip.{skip_of}
use Rattle.area.specs.Table as Area
use Rattle.area.proofs.TableLaws.{tracks_count, tracks_numbered, count_given, present_given, addressed_at, addressed_present, addressed_track_count, head_skips, area_yields}
use Rattle.area.specs.Track.{no_track}
use Rattle.area.proofs.TrackLaws.{no_track_number}
use Rattle.area.specs.declared.area.Area as Declared
use Rattle.area.specs.declared.track.Track.{Track}
use Rattle.disc.specs.Slot.{Slot, two_channel, multichannel, slot_number, tracks_at, work_bytes, track_records, warning_words}
use Rattle.disc.specs.Master.{pointer_of, master_of}
use Rattle.disc.specs.Outcome.{Memory, Outcome, Yielded, area_for, is_accepted, is_present, handed_back, slot_yields}
use Rattle.disc.specs.Disc.{silent, read_disc}
use Rattle.disc.specs.Demand3.{Served, first_place, second_place, LiesIn, master_table, copy_bytes, ComesOut, Roomy, Unrefused, yielded_by, area_from, pointer, Kept, Rewritten, given, Holds, Demand3}
use Rattle.disc.specs.Demand3Proof.{tables_same, demand3}
use Rattle.disc.specs.Sample.{sample_table, other_table, unsigned_table, marked_length, sample_kept, other_kept, other_unsigned, unsigned_skipped, marked_count, Sample, sample_image, image_length, image_sectors, first_bytes, second_bytes, sample_scarlet, sample_version, sample_minor, sample_served, sample_second, first_place_lem, second_place_lem}
use Rattle.disc.specs.declared.master.MasterToc.{MasterToc}
use Rattle.disc.specs.declared.answer.DiscAnswer.{DiscAnswer}

-- ---- `Rewritten` allows any prefix, and any value for a byte that is not kept

module _ (format : ℕ) (uncut : List ℕ) where
  pub prefix_is_a_cut : (cut : ℕ) → cut ≤ length uncut → Rewritten format uncut cut (take cut uncut)
  prefix_is_a_cut cut h = record {
    cut_within = h;
    cut_there = length-take-le cut uncut h;
    kept = λ i below k. get_or-take cut uncut i 0 below;
  }

  pub any_value_elsewhere : (cut : ℕ) (image : List ℕ) → Rewritten format uncut cut image
      → (at value : ℕ) → ¬ Kept format uncut at → Rewritten format uncut cut (set image at value)
  any_value_elsewhere cut image r at value free = record {
    cut_within = r.cut_within;
    cut_there = length-set image at value ∙ r.cut_there;
    kept = λ i below k. get_or-set_other image at i value 0 (λ q. free (subst (λ (n : ℕ). Kept format uncut n) q k)) ∙ r.kept i below k;
  }

-- ---- what the demand says of the sample disc, whole and cut behind 520 sectors

pub lent : Memory
lent = record { work = replicate work_bytes 0; tracks = replicate track_records no_track; words = replicate warning_words 0 }

-- as many places as are asked for
is_long : {A : Type 0} (n : ℕ) (x : A) → n ≤ length (replicate n x)
is_long n x = omega (arith, length-replicate n x)

lent_roomy : Roomy lent
unfolding lent
lent_roomy = record {
  work_suffices = is_long {A = ℕ} work_bytes 0;
  tracks_suffice = is_long {A = Track} track_records no_track;
  words_suffice = is_long {A = ℕ} warning_words 0;
}

whole_sectors : (n : ℕ) → sector_count 0 (n * sector_size) ≡ n
whole_sectors n = let e : n * sector_size ≡ n * sector_size + 0 = omega arith in ap (sector_count 0) e ∙ plain_count n 0 (omega arith)

-- its first sectors
pub first_sectors : Sample → ℕ → List ℕ
first_sectors disc n = take (n * sector_size) (sample_image disc)

module _ (disc : Sample) (n : ℕ) (enough : 520 ≤ n) (within : n ≤ 603) where
  cut_is : Rewritten 0 (sample_image disc) (n * sector_size) (first_sectors disc n)
  unfolding first_sectors
  cut_is = let long = image_length disc in prefix_is_a_cut 0 (sample_image disc) (n * sector_size) (omega arith)

  cut_count : sector_count 0 (length (first_sectors disc n)) ≡ n
  cut_count = ap (sector_count 0) cut_is.cut_there ∙ whole_sectors n

  cut_table : master_table 0 (first_sectors disc n) ≡ master_table 0 (sample_image disc)
  cut_table = let count = cut_count in tables_same 0 (sample_image disc) (n * sector_size) (first_sectors disc n) cut_is (omega arith)

  cut_unrefused : Unrefused 0 (first_sectors disc n) lent
  cut_unrefused =
      let count = cut_count in
      record {
        not_foreign = count_known 0 (length (first_sectors disc n)) (omega arith);
        not_short = lent_roomy;
        not_truncated = omega arith;
        is_scarlet = rw cut_table (sample_scarlet disc);
        not_newer = let v = sample_version disc in rw cut_table (omega arith);
      }

  cut_holds : (reader : ℕ → List ℕ → Memory → Outcome) → Demand3 reader → Holds 0 (sample_image disc) (n * sector_size) (reader 0 (first_sectors disc n) lent)
  cut_holds reader d = (d.one_cut 0 (sample_image disc) (n * sector_size) (first_sectors disc n) cut_is lent).unless_refused cut_unrefused

-- a disc with the example's table in both copies, and one of another minor version
abbrev pub sample_disc : Sample
sample_disc = record { minor = 0; first = sample_table; second = sample_table; first_size = marked_length 84 87 79; second_size = marked_length 84 87 79 }

abbrev pub minor_disc : Sample
minor_disc = record { minor = 1; first = sample_table; second = sample_table; first_size = marked_length 84 87 79; second_size = marked_length 84 87 79 }

-- what a table yields at an address
pub yield_at : List ℕ → ℕ → Yielded
yield_at table lsn = record { area = addressed lsn (Area.area_given (Area.table_of table 1 3)); tracks = Area.tracks_given (Area.table_of table 1 3); bytes = table }

module _ (disc : Sample) where
  -- what the rules give for a copy: the area of its table, or nothing if it is skipped
  module _ (lsn : ℕ) (inside : lsn + 3 ≤ 603) (table : List ℕ) (bytes : copy_bytes 0 (sample_image disc) (record { lsn = lsn; sectors = 3 }) ≡ table) where
    rules_give : skip_of table ≡ 0 → given 0 (sample_image disc) two_channel (record { lsn = lsn; sectors = 3 }) ≡ some (yield_at table lsn)
    unfolding given area_from yielded_by slot_number yield_at
    rules_give kept =
        let count = image_sectors disc in
        rw (is_readable 0 (length (sample_image disc)) lsn 3 (omega arith), bytes, area_yields table 1 lsn 3 kept)

    rules_give_nothing : skip_of table ≢ 0 → given 0 (sample_image disc) two_channel (record { lsn = lsn; sectors = 3 }) ≡ none
    unfolding given area_from yielded_by slot_number
    rules_give_nothing skipped =
        let count = image_sectors disc in
        rw (is_readable 0 (length (sample_image disc)) lsn 3 (omega arith), bytes, head_skips table 1 lsn 3 skipped)

  module _ (reader : ℕ → List ℕ → Memory → Outcome) (d : Demand3 reader) where
    -- the whole disc yields what the rules give for the first copy
    whole_gives : slot_yields (reader 0 (first_sectors disc 603) lent) two_channel ≡ given 0 (sample_image disc) two_channel (record { lsn = 600; sectors = 3 })
    whole_gives =
        let count = whole_sectors 603 in
        let lies : LiesIn 0 (603 * sector_size) (first_place (pointer 0 (sample_image disc) two_channel)) =
        rw (first_place_lem disc) (is_readable 0 (603 * sector_size) 600 3 (omega arith)) in
        (cut_holds disc 603 (omega arith) (omega arith) reader d).first_copy_lem two_channel (sample_served disc) lies
        ∙ ap (given 0 (sample_image disc) two_channel) (first_place_lem disc)

    -- a shorter one for the second
    short_gives : (n : ℕ) → 520 ≤ n → n < 603
        → slot_yields (reader 0 (first_sectors disc n) lent) two_channel ≡ given 0 (sample_image disc) two_channel (record { lsn = 1; sectors = 3 })
    short_gives n enough short =
        let count = whole_sectors n in
        let lost : ¬ LiesIn 0 (n * sector_size) (first_place (pointer 0 (sample_image disc) two_channel)) =
        rw (first_place_lem disc) (λ h. let end = readable_true 0 (n * sector_size) 600 3 h in omega arith) in
        let lies : LiesIn 0 (n * sector_size) (second_place (pointer 0 (sample_image disc) two_channel)) =
        rw (second_place_lem disc) (is_readable 0 (n * sector_size) 1 3 (omega arith)) in
        (cut_holds disc n enough (omega arith) reader d).second_copy_lem two_channel (sample_served disc) lost (sample_second disc) lies
        ∙ ap (given 0 (sample_image disc) two_channel) (second_place_lem disc)

    -- .. the area of its table, if that is not skipped
    whole_yields : skip_of disc.first ≡ 0 → slot_yields (reader 0 (first_sectors disc 603) lent) two_channel ≡ some (yield_at disc.first 600)
    whole_yields kept = whole_gives ∙ rules_give 600 (omega arith) disc.first (first_bytes disc) kept

    short_yields : skip_of disc.second ≡ 0 → (n : ℕ) → 520 ≤ n → n < 603
        → slot_yields (reader 0 (first_sectors disc n) lent) two_channel ≡ some (yield_at disc.second 1)
    short_yields kept n enough short = short_gives n enough short ∙ rules_give 1 (omega arith) disc.second (second_bytes disc) kept

-- what a slot yields is handed back
handed : (outcome : Outcome) (slot : Slot) (y : Yielded) → slot_yields outcome slot ≡ some y → handed_back outcome.memory slot (area_for outcome.answer slot) ≡ y
unfolding slot_yields
handed outcome slot y e = go (is_accepted outcome.answer && is_present (area_for outcome.answer slot)) e
  where
    go : (t : Bool) → only_if t (some (handed_back outcome.memory slot (area_for outcome.answer slot))) ≡ some y
        → handed_back outcome.memory slot (area_for outcome.answer slot) ≡ y
    go true q = some_eq q
    go false q = absurd (no_some refl q)

-- and by an accepted reading
yields_accepted : (outcome : Outcome) (slot : Slot) (y : Yielded) → slot_yields outcome slot ≡ some y → outcome.answer.refusal ≡ 0
unfolding slot_yields is_accepted
yields_accepted outcome slot y e = go (eqb outcome.answer.refusal 0) refl e
  where
    go : (t : Bool) → eqb outcome.answer.refusal 0 ≡ t
        → only_if (t && is_present (area_for outcome.answer slot)) (some (handed_back outcome.memory slot (area_for outcome.answer slot))) ≡ some y
        → outcome.answer.refusal ≡ 0
    go true q h = eqb-true outcome.answer.refusal 0 q
    go false q h = absurd (no_some refl h)

-- the sample's area has one track
one_track : (Area.area_given (Area.table_of sample_table 1 3)).track_count ≡ 1
one_track = count_given sample_table 1 3 sample_kept ∙ marked_count 84 87 79

-- ---- "A reader that calls every disc silent"

pub saying_silent : ℕ → List ℕ → Memory → Outcome
saying_silent format image memory = record { answer = silent (master_table format image) 0; memory = memory }

silent_yields : (format : ℕ) (image : List ℕ) (memory : Memory) → slot_yields (saying_silent format image memory) two_channel ≡ none
unfolding saying_silent silent slot_yields is_accepted
silent_yields format image memory = refl

-- any that yields nothing of the sample's first slot
pub not_silent : (reader : ℕ → List ℕ → Memory → Outcome) → slot_yields (reader 0 (first_sectors sample_disc 603) lent) two_channel ≡ none → ¬ Demand3 reader
not_silent reader nothing d = no_some nothing (whole_yields sample_disc reader d sample_kept)

pub not_always_silent : ¬ Demand3 saying_silent
not_always_silent = not_silent saying_silent (silent_yields 0 (first_sectors sample_disc 603) lent)

-- ---- "One that finds no second copy before looking"

-- any that yields nothing of the slot where only the second copy is left
pub not_without_second : (reader : ℕ → List ℕ → Memory → Outcome) → slot_yields (reader 0 (first_sectors sample_disc 520) lent) two_channel ≡ none → ¬ Demand3 reader
not_without_second reader nothing d = no_some nothing (short_yields sample_disc reader d sample_kept 520 (omega arith) (omega arith))

-- such as this
pub first_only : ℕ → List ℕ → Memory → Outcome
first_only format image memory =
    cond (readable format (length image) (first_place (pointer format image two_channel)).lsn (first_place (pointer format image two_channel)).sectors)
    (read_disc format image memory) (saying_silent format image memory)

first_lost : first_only 0 (first_sectors sample_disc 520) lent ≡ saying_silent 0 (first_sectors sample_disc 520) lent
unfolding first_only pointer
first_lost =
    let count = cut_count sample_disc 520 (omega arith) (omega arith) in
    let place : first_place (pointer 0 (first_sectors sample_disc 520) two_channel) ≡ record { lsn = 600; sectors = 3 } =
    ap (λ (t : List ℕ). first_place (pointer_of t two_channel)) (cut_table sample_disc 520 (omega arith) (omega arith)) ∙ first_place_lem sample_disc in
    let lost = not_readable 0 (length (first_sectors sample_disc 520)) 600 3 (omega arith) in
    rw (place, lost)

pub not_first_only : ¬ Demand3 first_only
not_first_only =
    not_without_second first_only (ap (λ (o : Outcome). slot_yields o two_channel) first_lost ∙ silent_yields 0 (first_sectors sample_disc 520) lent)

-- ---- "Traps: trying TOC-2 when TOC-1 has a bad signature"

-- any that yields an area where the first copy lies in the cut and is skipped by 8 to 11, from whichever copy
pub not_past_skipped : (format : ℕ) (uncut : List ℕ) (cut : ℕ) (image : List ℕ) → Rewritten format uncut cut image
    → (memory : Memory) → Unrefused format image memory
    → (slot : Slot) → Served (pointer format uncut slot) → LiesIn format cut (first_place (pointer format uncut slot))
    → given format uncut slot (first_place (pointer format uncut slot)) ≡ none
    → (reader : ℕ → List ℕ → Memory → Outcome) (y : Yielded) → slot_yields (reader format image memory) slot ≡ some y → ¬ Demand3 reader
not_past_skipped format uncut cut image r memory u slot served lies skipped reader y e d =
    no_some (((d.one_cut format uncut cut image r memory).unless_refused u).first_copy_lem slot served lies ∙ skipped) e

-- a disc whose first copy begins with neither signature; its second is the example's
abbrev pub skipped_disc : Sample
skipped_disc = record { minor = 0; first = unsigned_table; second = sample_table; first_size = marked_length 0 0 0; second_size = marked_length 84 87 79 }

-- any that yields an area of it
pub not_second_for_skipped : (reader : ℕ → List ℕ → Memory → Outcome) (y : Yielded)
    → slot_yields (reader 0 (first_sectors skipped_disc 603) lent) two_channel ≡ some y → ¬ Demand3 reader
not_second_for_skipped reader y e d =
    let skip = unsigned_skipped in
    no_some (whole_gives skipped_disc reader d ∙ rules_give_nothing skipped_disc 600 (omega arith) unsigned_table (first_bytes skipped_disc) (omega arith)) e

-- such as this, which reads up to a first copy that is skipped
pub tries_second : ℕ → List ℕ → Memory → Outcome
tries_second format image memory =
    cond (eqb (skip_of (copy_bytes format image (first_place (pointer format image two_channel)))) 0) (read_disc format image memory)
    (read_disc format (take ((first_place (pointer format image two_channel)).lsn * sector_size) image) memory)

-- the whole disc has its copies where it names them
module _ (disc : Sample) where
  whole_place : first_place (pointer 0 (first_sectors disc 603) two_channel) ≡ record { lsn = 600; sectors = 3 }
  unfolding pointer
  whole_place = ap (λ (t : List ℕ). first_place (pointer_of t two_channel)) (cut_table disc 603 (omega arith) (omega arith)) ∙ first_place_lem disc

  whole_first : copy_bytes 0 (first_sectors disc 603) (record { lsn = 600; sectors = 3 }) ≡ disc.first
  unfolding first_sectors
  whole_first =
      let long = image_length disc in
      ap (λ (image : List ℕ). copy_bytes 0 image (record { lsn = 600; sectors = 3 })) (take_all (603 * sector_size) (sample_image disc) (omega arith))
      ∙ first_bytes disc

second_tried : tries_second 0 (first_sectors skipped_disc 603) lent ≡ read_disc 0 (first_sectors skipped_disc 600) lent
unfolding tries_second first_sectors
second_tried =
    let skip = unsigned_skipped in
    rw (
      whole_place skipped_disc,
      whole_first skipped_disc,
      ne_eqb (skip_of unsigned_table) 0 (omega arith),
      take-take (600 * sector_size) (603 * sector_size) (sample_image skipped_disc) (omega arith),
    )

pub not_trying_second : ¬ Demand3 tries_second
not_trying_second =
    not_second_for_skipped tries_second (yield_at sample_table 1)
    (ap (λ (o : Outcome). slot_yields o two_channel) second_tried ∙ short_yields skipped_disc read_disc demand3 sample_kept 600 (omega arith) (omega arith))

-- ---- "Either signature serves either slot.": one that demands the slot's own

-- a disc whose two-channel slot has the example's table with `MULCHTOC`
abbrev pub other_disc : Sample
other_disc = record { minor = 0; first = other_table; second = other_table; first_size = marked_length 77 85 76; second_size = marked_length 77 85 76 }

-- any that yields nothing of it
pub not_by_signature : (reader : ℕ → List ℕ → Memory → Outcome) → slot_yields (reader 0 (first_sectors other_disc 603) lent) two_channel ≡ none → ¬ Demand3 reader
not_by_signature reader nothing d = no_some nothing (whole_yields other_disc reader d other_kept)

-- such as this
pub own_signature : ℕ → List ℕ → Memory → Outcome
own_signature format image memory =
    cond (signed_at (copy_bytes format image (first_place (pointer format image two_channel))) 0 two_channel_signature)
    (read_disc format image memory) (saying_silent format image memory)

other_refused : own_signature 0 (first_sectors other_disc 603) lent ≡ saying_silent 0 (first_sectors other_disc 603) lent
unfolding own_signature
other_refused = rw (whole_place other_disc, whole_first other_disc, other_unsigned)

pub not_own_signature : ¬ Demand3 own_signature
not_own_signature =
    not_by_signature own_signature (ap (λ (o : Outcome). slot_yields o two_channel) other_refused ∙ silent_yields 0 (first_sectors other_disc 603) lent)

-- ---- "One that returns one stock disc", whichever it is and whatever it does to lent memory

pub not_stock : (stock : DiscAnswer) (after : ℕ → List ℕ → Memory → Memory) → ¬ Demand3 (λ format image memory. record { answer = stock; memory = after format image memory })
not_stock stock after d =
    let a = (cut_holds sample_disc 603 (omega arith) (omega arith) (λ format image memory. record { answer = stock; memory = after format image memory }) d).the_master in
    let b = (cut_holds minor_disc 603 (omega arith) (omega arith) (λ format image memory. record { answer = stock; memory = after format image memory }) d).the_master in
    let e = sym (ap (λ (m : MasterToc). m.version.minor) a ∙ sample_minor sample_disc) ∙ ap (λ (m : MasterToc). m.version.minor) b ∙ sample_minor minor_disc in
    omega (arith, e)

-- ---- "One that gives empty areas and writes no record"

-- accepts every image, with one record for both slots, and leaves memory as it was
pub accepts_with : Declared.Area → ℕ → List ℕ → Memory → Outcome
accepts_with area format image memory = record {
  answer = record {
    refusal = 0;
    warnings = 0;
    sector_format = format;
    sectors = sector_count format (length image);
    master = master_of (master_table format image);
    two_channel = area;
    multichannel = area;
  };
  memory = memory;
}

-- any whose record has no tracks, whatever its flag
pub not_empty_areas : (reader : ℕ → List ℕ → Memory → Outcome) → (area_for (reader 0 (first_sectors sample_disc 603) lent).answer two_channel).track_count ≡ 0 → ¬ Demand3 reader
unfolding handed_back yield_at
not_empty_areas reader no_tracks d =
    let y = handed (reader 0 (first_sectors sample_disc 603) lent) two_channel (yield_at sample_table 600) (whole_yields sample_disc reader d sample_kept) in
    let e = ap (λ (a : Yielded). a.area.track_count) y in
    omega (arith, e, no_tracks, one_track, addressed_track_count 600 (Area.area_given (Area.table_of sample_table 1 3)))

-- the answer, the bytes and the words are right; no track is written
pub unwritten : ℕ → List ℕ → Memory → Outcome
unwritten format image memory = record {
  answer = (read_disc format image memory).answer;
  memory = record { work = (read_disc format image memory).memory.work; tracks = memory.tracks; words = (read_disc format image memory).memory.words };
}

pub not_unwritten : ¬ Demand3 unwritten
unfolding unwritten handed_back yield_at lent tracks_at
not_unwritten d =
    let area = area_for (read_disc 0 (first_sectors sample_disc 603) lent).answer two_channel in
    let table = Area.table_of sample_table 1 3 in
    let y = handed (unwritten 0 (first_sectors sample_disc 603) lent) two_channel (yield_at sample_table 600) (whole_yields sample_disc unwritten d sample_kept) in
    let count = ap (λ (a : Yielded). a.area.track_count) y ∙ addressed_track_count 600 (Area.area_given table) ∙ one_track in
    let few = tracks_count sample_table 1 3 in
    let one = one_track in
    let read = ap (λ (a : Yielded). (get_or a.tracks 0 no_track).number) y in
    let first = tracks_numbered sample_table 1 3 0 (omega arith) in
    let blank =
    ap (λ (t : Track). t.number)
    (part_at 0 (min area.track_count max_tracks) (replicate track_records no_track) 0 no_track (omega arith) ∙ get_or-replicate track_records 0 no_track no_track (omega arith)) in
    omega (arith, read, first, blank, no_track_number)

-- ---- one that makes up a track: an empty image has none, and no memory is lent but for one record

pub stock_area : Declared.Area
stock_area = addressed 0 (Area.area_given (Area.table_of sample_table 1 3))

pub making_up : ℕ → List ℕ → Memory → Outcome
making_up = accepts_with stock_area

made_up : ComesOut (making_up 0 [] (record { work = []; tracks = no_track ∷ []; words = [] })) two_channel no_track
unfolding making_up accepts_with stock_area slot_yields area_for is_accepted is_present handed_back tracks_at
made_up =
    let count = addressed_track_count 0 (Area.area_given (Area.table_of sample_table 1 3)) ∙ one_track in
    let flag = addressed_present 0 (Area.area_given (Area.table_of sample_table 1 3)) ∙ present_given sample_table 1 3 sample_kept in
    let size : min stock_area.track_count max_tracks ≡ 1 = omega arith in
    record {
      area = handed_back (record { work = []; tracks = no_track ∷ []; words = [] }) two_channel stock_area;
      is_yielded = rw flag;
      member = subst (Memᴰ no_track) (sym (ap (λ (n : ℕ). part 0 n (no_track ∷ [])) size ∙ part_all 1 (no_track ∷ []) (omega arith))) (Memᴰ.head refl);
    }

pub not_making_up : ¬ Demand3 making_up
not_making_up d =
    let memory : Memory = record { work = []; tracks = no_track ∷ []; words = [] } in
    let gave = (d.one_cut 0 [] 0 [] (record { cut_within = omega arith; cut_there = refl; kept = λ i below k. refl }) memory).no_other_track two_channel no_track made_up in
    let none = count_bound 0 0 in
    let some = gave.has_table in
    omega arith

-- ---- "but for its table address": from the short disc an area comes that comes from the whole one at another address
pub address_differs : (slot_yields (read_disc 0 (first_sectors sample_disc 520) lent) two_channel ≡ some (yield_at sample_table 1))
    × (slot_yields (read_disc 0 (first_sectors sample_disc 603) lent) two_channel ≡ some (yield_at sample_table 600))
    × ((yield_at sample_table 1).area.origin.toc_lsn.0 ≡ 1)
    × ((yield_at sample_table 600).area.origin.toc_lsn.0 ≡ 600)
unfolding yield_at
address_differs = (
  short_yields sample_disc read_disc demand3 sample_kept 520 (omega arith) (omega arith),
  whole_yields sample_disc read_disc demand3 sample_kept,
  addressed_at 1 (Area.area_given (Area.table_of sample_table 1 3)),
  addressed_at 600 (Area.area_given (Area.table_of sample_table 1 3)),
)

-- ---- where none of refusals 1 to 5 applies, the answer is acceptance or refusal 6
pub accepted_or_silent : (format : ℕ) (uncut : List ℕ) (cut : ℕ) (outcome : Outcome) → Holds format uncut cut outcome
    → (outcome.answer.refusal ≡ 0) ⊎ (outcome.answer.refusal ≡ no_audio_areas)
accepted_or_silent format uncut cut outcome h = go (slot_yields outcome two_channel) (slot_yields outcome multichannel) refl refl
  where
    go : (x y : Option Yielded) → slot_yields outcome two_channel ≡ x → slot_yields outcome multichannel ≡ y
        → (outcome.answer.refusal ≡ 0) ⊎ (outcome.answer.refusal ≡ no_audio_areas)
    go none none p q = inr (h.silent_exactly.1 (p, q))
    go none (some b) p q = inl (yields_accepted outcome multichannel b q)
    go (some a) y p q = inl (yields_accepted outcome two_channel a p)
