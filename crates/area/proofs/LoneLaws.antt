-- Laws of reading a lone table: its size, its head, and what its head, its tracks and its warnings come to. Assumes nothing.
use Rattle.std.specs.Prelude.{◌≡◌, refl, Bool, true, ◌||◌, ℕ, ◌*◌, ◌/◌, ◌%◌, ◌≤◌, eqb}
use Rattle.std.proofs.Math.Path.{sym, ap, subst}
use Rattle.std.proofs.Common.{◌∙◌, arith}
use Rattle.std.proofs.Math.Bool.{false, cond}
use mathlib.Core.List.{List, ◌++◌, map}
use Rattle.std.proofs.Math.Nat.{zero-add}
use Rattle.std.proofs.Math.Dec.{ltb}
use Rattle.std.proofs.Math.ListN.{length, length-append, length-map}
use Rattle.std.proofs.Math.Seq.{sets, length-sets}
use borrow.Author.Tests.{ltb-false, eqb-true, not-false, le-ltb}
use Rattle.sectors.specs.Fill.{fill}
use Rattle.sectors.specs.FillLaws.{fill_none, sets_fill}
use Rattle.sectors.specs.Format.{sector_size}
use Rattle.sectors.specs.Refusal.{short_buffer}
use Rattle.area.specs.TestLaws.{or_left, or_right}
use Rattle.area.specs.Lent.{counted}
use Rattle.area.specs.LentLaws.{counted_then, counted_all, sets_counted}
use Rattle.area.specs.Limits.{max_table_bytes, max_tracks, table_bytes}
use Rattle.area.specs.LimitLaws.{table_bytes_all}
use Rattle.area.specs.Refusal.{no_audio_areas, odd_table, number_of}
use Rattle.area.specs.Warning.{word_of}
use Rattle.area.specs.Area.{record_of}
use Rattle.area.specs.Chain.{chain_of}
use Rattle.area.specs.Skip.{skip_of}
use Rattle.area.specs.Table.{Table, skips, yields, of_slot, reads_of, yield_of, table_of, with_address, area_at, area_given, tracks_given, warnings_of, head_of, head_warnings, tracks_in, warnings_in}
use Rattle.area.proofs.TableLaws.{head_yields, head_skips, head_gives_area, head_gives_tracks, head_gives_warnings, head_warnings_few, tracks_few, warnings_few}
use Rattle.area.specs.Lone.{is_odd_table, table_words, is_short, lone_slot, lone_sectors, lone_head, Lone, refused, reads, lone_of, lone_answer, head_answer, lone_tracks, lone_words}
use Rattle.area.specs.declared.lone.TableAnswer.{TableAnswer}
use Rattle.area.specs.declared.refusal.TableRefusal.TheVariants as refusal
use Rattle.area.specs.declared.table.TableHead.{TableHead}
use Rattle.area.specs.declared.track.Track.{Track}
use Rattle.area.specs.declared.warning.Warning.{Warning}

-- ---- the numbers of two refusals, for the layer above
pub number_no_audio_areas : number_of refusal.NoAudioAreas ≡ no_audio_areas
unfolding number_of
number_no_audio_areas = refl

pub number_odd_table : number_of refusal.OddTable ≡ odd_table
unfolding number_of
number_odd_table = refl

-- ---- a table that is not odd
module _ (bytes : ℕ) (sized : is_odd_table bytes ≡ false) where
  pub sized_small : bytes ≤ max_table_bytes
  unfolding is_odd_table
  sized_small = ltb-false max_table_bytes bytes (or_right (eqb bytes 0) _ (or_left (eqb bytes 0 || ltb max_table_bytes bytes) _ sized))

  pub sized_whole : bytes ≡ bytes / sector_size * sector_size
  unfolding is_odd_table
  sized_whole = let e = eqb-true (bytes % sector_size) 0 (not-false _ (or_right (eqb bytes 0 || ltb max_table_bytes bytes) _ sized)) in omega (arith, e)

-- its bytes are those of its sectors
pub lone_bytes : (table : List ℕ) → is_odd_table (length table) ≡ false → table_bytes (lone_sectors table) table ≡ table
unfolding lone_sectors
lone_bytes table sized =
    let small = sized_small (length table) sized in let whole = sized_whole (length table) sized in
    table_bytes_all (length table / sector_size) table (omega arith) whole

pub lone_sectors_lem : (table : List ℕ) → lone_sectors table ≡ length table / sector_size
unfolding lone_sectors
lone_sectors_lem table = refl

-- ---- its head
pub lone_head_lem : (table : List ℕ) → lone_head table ≡ head_of table lone_slot 0 (lone_sectors table)
unfolding lone_head
lone_head_lem table = refl

-- 255 records and 1,021 words are enough
pub lone_room : is_short max_tracks table_words ≡ false
unfolding is_short
lone_room = refl

-- what is not short has as many
module _ (records words : ℕ) (room : is_short records words ≡ false) where
  pub enough_records : max_tracks ≤ records
  unfolding is_short
  enough_records = ltb-false records max_tracks (or_left _ _ room)

  pub enough_words : table_words ≤ words
  unfolding is_short
  enough_words = ltb-false words table_words (or_right (ltb records max_tracks) _ room)

module _ (table : List ℕ) (records words : ℕ) where
  pub lone_odd : is_odd_table (length table) ≡ true → lone_of table records words ≡ refused odd_table
  unfolding lone_of
  lone_odd odd = simp odd

  lone_short : is_odd_table (length table) ≡ false → is_short records words ≡ true → lone_of table records words ≡ refused short_buffer
  unfolding lone_of
  lone_short sized short = simp (sized, short)

  module _ (sized : is_odd_table (length table) ≡ false) (room : is_short records words ≡ false) where
    pub lone_reads : lone_of table records words ≡ reads (area_at table lone_slot 0 (lone_sectors table))
    unfolding lone_of
    lone_reads = simp (sized, room)

    pub lone_skips : ((lone_head table).skip ≡ 0 → ⊥) → lone_of table records words ≡ reads (skips (of_slot (lone_head table).skip lone_slot))
    unfolding lone_head head_of
    lone_skips skipped = lone_reads ∙ ap reads (head_skips table lone_slot 0 (lone_sectors table) skipped)

    pub lone_yields : (lone_head table).skip ≡ 0
        → lone_of table records words ≡ reads (yields (lone_head table).area (tracks_in table (lone_head table)) (head_warnings lone_slot (lone_head table) ++ warnings_in table (lone_head table)))
    unfolding lone_head head_of
    lone_yields kept = lone_reads ∙ ap reads (head_yields table table lone_slot 0 (lone_sectors table) (lone_bytes table sized) kept)

  -- what holds in each case holds of what is read
  pub by_case : (P : Lone → Type 0) → (is_odd_table (length table) ≡ true → P (refused odd_table))
      → (is_odd_table (length table) ≡ false → is_short records words ≡ true → P (refused short_buffer))
      → (is_odd_table (length table) ≡ false → is_short records words ≡ false → P (reads (area_at table lone_slot 0 (lone_sectors table))))
      → P (lone_of table records words)
  by_case P odd short read = by_size (is_odd_table (length table)) refl
    where
      by_room : is_odd_table (length table) ≡ false → (z : Bool) → is_short records words ≡ z → P (lone_of table records words)
      by_room sized true z = subst P (sym (lone_short sized z)) (short sized z)
      by_room sized false z = subst P (sym (lone_reads sized z)) (read sized z)

      by_size : (z : Bool) → is_odd_table (length table) ≡ z → P (lone_of table records words)
      by_size true z = subst P (sym (lone_odd z)) (odd z)
      by_size false z = by_room z (is_short records words) refl

-- ---- what reading gives, by what the table gives
given_answer : (t : Table) → lone_answer (reads t) ≡ record { refusal = (lone_answer (reads t)).refusal; warnings = length (warnings_of t); area = area_given t }
unfolding lone_answer area_given warnings_of
given_answer (skips warning) = refl
given_answer (yields area tracks warnings) = refl

given_tracks : (t : Table) (old : List Track) → lone_tracks (reads t) old ≡ fill 0 (tracks_given t) old
unfolding lone_tracks tracks_given
given_tracks (skips warning) old = sym (fill_none 0 old)
given_tracks (yields area tracks warnings) old = refl

-- 6 exactly if the table is skipped
given_refusal : (table : List ℕ) (slot lsn sectors : ℕ) → (lone_answer (reads (area_at table slot lsn sectors))).refusal ≡ cond (eqb (skip_of table) 0) 0 no_audio_areas
unfolding lone_answer area_at table_of yield_of with_address
given_refusal table slot lsn sectors = go (eqb (skip_of table) 0)
  where
    reading : Bool → Lone
    reading kept = reads (with_address lsn (cond kept (yield_of slot (record_of table slot sectors) (reads_of table (record_of table slot sectors) (chain_of table))) (skips (of_slot (skip_of table) slot))))

    go : (kept : Bool) → (lone_answer (reading kept)).refusal ≡ cond kept 0 no_audio_areas
    go true = refl
    go false = refl

-- ---- a table that is read: its head's warnings are written first, then those of its tracks
module _ (table : List ℕ) (tracks : List Track) (words : List ℕ) (head : TableHead) (noted written : List ℕ) (at count : ℕ) (filled : List Track)
    (w : noted ≡ sets words 0 (map word_of (head_warnings lone_slot head))) (a : at ≡ counted words 0 (head_warnings lone_slot head))
    (n : count ≡ counted noted at (warnings_in table head)) (t : filled ≡ sets tracks 0 (tracks_in table head))
    (u : written ≡ sets noted at (map word_of (warnings_in table head))) where
  abbrev warned : List Warning
  warned = head_warnings lone_slot head ++ warnings_in table head

  module _ (records : max_tracks ≤ length tracks) (room : table_words ≤ length words) where
    few : length warned ≤ length words
    few = omega (arith, length-append (head_warnings lone_slot head) (warnings_in table head), head_warnings_few lone_slot head, warnings_few table head)

    all_counted : count ≡ length warned
    all_counted =
        n ∙ (λ i. counted (w i) (a i) (warnings_in table head))
        ∙ counted_then words _ 0 (head_warnings lone_slot head) (warnings_in table head) (length-sets words 0 (map word_of (head_warnings lone_slot head)))
        ∙ counted_all words 0 warned (omega (arith, few)) ∙ zero-add (length warned)

    all_written : written ≡ fill 0 (map word_of warned) words
    all_written =
        u ∙ (λ i. sets (w i) (a i) (map word_of (warnings_in table head))) ∙ sets_counted word_of words 0 (head_warnings lone_slot head) (warnings_in table head)
        ∙ sets_fill 0 (map word_of warned) words (omega (arith, few, length-map warned word_of))

    all_filled : filled ≡ fill 0 (tracks_in table head) tracks
    all_filled = t ∙ sets_fill 0 (tracks_in table head) tracks (omega (arith, tracks_few table head))

    -- .. which is what reading gives
    pub table_read : (sized : is_odd_table (length table) ≡ false)
        → head ≡ head_of (table_bytes (length table / sector_size) table) lone_slot 0 (length table / sector_size)
        → (answer : TableAnswer) → answer ≡ head_answer head count
        → (answer ≡ lone_answer (lone_of table (length tracks) (length words)))
        × ((filled ≡ lone_tracks (lone_of table (length tracks) (length words)) tracks) × (written ≡ lone_words (lone_of table (length tracks) (length words)) words))
    unfolding lone_sectors head_of lone_words is_short head_answer
    table_read sized h answer r =
        let sectors = length table / sector_size in let whole = lone_bytes table sized in
        let its : head ≡ head_of table lone_slot 0 sectors = h ∙ ap (λ (bytes : List ℕ). head_of bytes lone_slot 0 sectors) whole in
        let given = area_at table lone_slot 0 sectors in
        let reading : lone_of table (length tracks) (length words) ≡ reads given = lone_reads table (length tracks) (length words) sized (simp (le-ltb _ _ records, le-ltb _ _ room)) in
        let its_warned : warned ≡ warnings_of given =
        ap (λ (x : TableHead). head_warnings lone_slot x ++ warnings_in table x) its ∙ sym (head_gives_warnings table table lone_slot 0 sectors whole) in (
          r ∙ (λ i. head_answer (its i) ((all_counted ∙ ap length its_warned) i))
              ∙ (λ i. record {
                refusal = sym (given_refusal table lone_slot 0 sectors) i;
                warnings = length (warnings_of given);
                area = sym (head_gives_area table table lone_slot 0 sectors whole) i;
              })
              ∙ sym (given_answer given) ∙ ap lone_answer (sym reading),
          (
            all_filled ∙ ap (λ (x : TableHead). fill 0 (tracks_in table x) tracks) its
                ∙ ap (λ (l : List Track). fill 0 l tracks) (sym (head_gives_tracks table table lone_slot 0 sectors whole)) ∙ sym (given_tracks given tracks)
                ∙ ap (λ (l : Lone). lone_tracks l tracks) (sym reading),
            all_written ∙ ap (λ (l : List Warning). fill 0 (map word_of l) words) its_warned ∙ ap (λ (l : Lone). lone_words l words) (sym reading),
          ),
        )

-- ---- a lone table of any size, read into any room: a refusal changes nothing; of any other the warnings of its head are written first, then
-- its tracks and their warnings. Answer, tracks and words are what reading gives
module _ (table : List ℕ) (tracks : List Track) (words : List ℕ) (answer : TableAnswer) (filled : List Track) (written : List ℕ) where
  abbrev Read : Lone → Type 0
  Read l = (answer ≡ lone_answer l) × ((filled ≡ lone_tracks l tracks) × (written ≡ lone_words l words))

  abbrev Refused : ℕ → Type 0
  Refused number = (answer ≡ lone_answer (refused number)) × ((filled ≡ tracks) × (written ≡ words))

  abbrev noted : List ℕ
  noted = sets words 0 (map word_of (head_warnings lone_slot (lone_head table)))

  abbrev at : ℕ
  at = counted words 0 (head_warnings lone_slot (lone_head table))

  abbrev Stepped : Type 0
  Stepped = (answer ≡ head_answer (lone_head table) (counted noted at (warnings_in table (lone_head table))))
      × ((filled ≡ sets tracks 0 (tracks_in table (lone_head table))) × (written ≡ sets noted at (map word_of (warnings_in table (lone_head table)))))

  refused_read : (number : ℕ) → Refused number → Read (refused number)
  unfolding lone_tracks lone_words
  refused_read number r = r

  head_read : is_odd_table (length table) ≡ false → lone_head table ≡ head_of (table_bytes (length table / sector_size) table) lone_slot 0 (length table / sector_size)
  unfolding lone_sectors lone_head
  head_read sized = ap (λ (bytes : List ℕ). head_of bytes lone_slot 0 (length table / sector_size)) (sym (lone_bytes table sized))

  pub lone_read : (is_odd_table (length table) ≡ true → Refused odd_table)
      → (is_odd_table (length table) ≡ false → is_short (length tracks) (length words) ≡ true → Refused short_buffer)
      → (is_odd_table (length table) ≡ false → is_short (length tracks) (length words) ≡ false → Stepped)
      → Read (lone_of table (length tracks) (length words))
  lone_read odd short steps =
      by_case table (length tracks) (length words) Read (λ e. refused_read odd_table (odd e)) (λ sized e. refused_read short_buffer (short sized e))
      (λ sized room. subst Read (lone_reads table (length tracks) (length words) sized room) (read sized room (steps sized room)))
    where
      read : is_odd_table (length table) ≡ false → is_short (length tracks) (length words) ≡ false → Stepped → Read (lone_of table (length tracks) (length words))
      read sized room s =
          table_read table tracks words (lone_head table) noted written at (counted noted at (warnings_in table (lone_head table))) filled refl refl refl s.1.0 s.1.1
          (enough_records _ _ room) (enough_words _ _ room) sized (head_read sized) answer s.0
