-- `listing_text::listing::put_listing` meets its contract: the size decides first, then the head; a word tells its warning.
use Rattle.std.proofs.Common.{◌≡◌, ℕ, ◌/◌, ◌<◌, true, false, ◌||◌, ltb, lt-ltb, le-ltb, List, ◌++◌, length, ⊎_elim, ap, sym, ◌∙◌, arith}
use mathlib.Core.List.Memᴰ
use mathlib.Core.List.{map, Memᴰ}
use Rattle.sectors.specs.Format.{sector_size}
use Rattle.area.specs.Limits.{max_tracks, table_bytes}
use Rattle.area.specs.Warning.{word_of}
use Rattle.area.proofs.WarningLaws.{head_warnings_of, warnings_in_of}
use Rattle.area.specs.Lone.{is_odd_table, lone_slot, lone_sectors, table_words, lone_head}
use Rattle.area.proofs.LoneLaws.{number_no_audio_areas, number_odd_table, lone_sectors_lem, lone_bytes, lone_head_lem, lone_room, lone_skips, lone_yields}
use Rattle.area.specs.Table.{head_of, head_warnings, tracks_in, warnings_in}
use Rattle.area.proofs.TableLaws.{track_count_few}
use Rattle.area.specs.declared.table.TableHead.{TableHead}
use Rattle.area.specs.declared.warning.Warning.{Warning}
use Rattle.listing_text.specs.Listing.{max_listed, sections_of, sections_by, refused_line, warning_of}
use Rattle.listing_text.specs.ListingLaws.{listing_odd, listing_skipped, listing_yielded, words_told}
use Rattle.listing_text.specs.Page.{appended}
use Rattle.listing_text.proofs.listing.put_listing.Goals as goal
use Rattle.listing_text.proofs.listing.put_listing.Goals.{then-table-gt-MAX_LISTED-via-then-table-gt-MAX_LISTED, then-table-gt-MAX_LISTED-via-else-table-gt-MAX_LISTED+then-is_odd_table}

module _ (table : List ℕ) (sized : is_odd_table (length table) ≡ false) where
  -- the head that is read is the lone table's
  head_read : (head : TableHead) → head ≡ head_of (table_bytes (length table / sector_size) table) lone_slot 0 (length table / sector_size) → head ≡ lone_head table
  head_read head e =
      e ∙ ap (λ (n : ℕ). head_of (table_bytes n table) lone_slot 0 n) (sym (lone_sectors_lem table))
      ∙ ap (λ (t : List ℕ). head_of t lone_slot 0 (lone_sectors table)) (lone_bytes table sized) ∙ sym (lone_head_lem table)

-- the words of a head's warnings, and of its tracks', tell them
warnings_told : (table : List ℕ) (head : TableHead) → head.area.origin.slot < 256
    → map warning_of (map word_of (head_warnings lone_slot head ++ warnings_in table head)) ≡ head_warnings lone_slot head ++ warnings_in table head
warnings_told table head small = words_told (head_warnings lone_slot head ++ warnings_in table head) (λ w m. ⊎_elim (λ h. of_head w h) (λ t. of_track w t) (Memᴰ.append_cases (head_warnings lone_slot head) m))
  where
    of_head : (w : Warning) → Memᴰ w (head_warnings lone_slot head) → (w.slot < 256) × (w.track < 256)
    of_head w m = let its = head_warnings_of lone_slot head w m in (omega arith, omega arith)

    of_track : (w : Warning) → Memᴰ w (warnings_in table head) → (w.slot < 256) × (w.track < 256)
    of_track w m = let its = warnings_in_of table head w m in let few = track_count_few head in (omega arith, omega arith)

pub returns-then-table-gt-MAX_LISTED : goal.returns-then-table-gt-MAX_LISTED
returns-then-table-gt-MAX_LISTED c =
    let table = c.args.table.now in
    let odd : ltb max_listed (length table) || is_odd_table (length table) ≡ true = elim c.then-table-gt-MAX_LISTED.branch [
      | then-table-gt-MAX_LISTED-via-then-table-gt-MAX_LISTED w ↦ rw (lt-ltb max_listed (length table) w.if-table-gt-MAX_LISTED.true)
      | then-table-gt-MAX_LISTED-via-else-table-gt-MAX_LISTED+then-is_odd_table w ↦
          rw (le-ltb max_listed (length table) w.if-table-gt-MAX_LISTED.false) (sym w.is_odd_table.ensures ∙ w.if-is_odd_table.true)
    ] in
    c.put_refused.ensures ∙ ap (appended c.args.page.now) (ap refused_line number_odd_table ∙ sym (listing_odd table odd))

pub returns-then-head-ne0 : goal.returns-then-head-ne0
returns-then-head-ne0 c =
    let table = c.args.table.now in let read = c.table_head-head in let odd = sym c.is_odd_table.ensures ∙ c.if-is_odd_table.false in
    let its = head_read table odd read.result read.ensures in
    let skip = lone_skips table max_tracks table_words odd lone_room (λ k. c.if-head-ne0.true (ap (λ (h : TableHead). h.skip) its ∙ k)) in
    c.put_refused-then-head-ne0.ensures ∙ ap (appended c.args.page.now) (ap refused_line number_no_audio_areas ∙ sym (listing_skipped table c.if-table-gt-MAX_LISTED.false _ skip))

pub returns : goal.returns
unfolding sections_by
returns c =
    let table = c.args.table.now in let read = c.table_head-head in let head = read.result in
    let odd = sym c.is_odd_table.ensures ∙ c.if-is_odd_table.false in
    let its = head_read table odd head read.ensures in
    let kept = ap (λ (h : TableHead). h.skip) (sym its) ∙ c.if-head-ne0.false in
    let is = listing_yielded table c.if-table-gt-MAX_LISTED.false _ _ _ (lone_yields table max_tracks table_words odd lone_room kept) in
    let told = warnings_told table head (omega arith) in
    let by_head = ap (λ (h : TableHead). sections_of h.area (tracks_in table h) (head_warnings lone_slot h ++ warnings_in table h)) its in
    c.put_sections.ensures ∙ ap (appended c.args.page.now) (ap (sections_of head.area (tracks_in table head)) told ∙ by_head ∙ sym is)
