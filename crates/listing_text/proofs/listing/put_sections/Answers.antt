-- `listing_text::listing::put_sections` meets its contract: section behind section, and the words hold all warnings.
use Rattle.std.proofs.Common.{◌≡◌, ℕ, ◌≤◌, List, ◌++◌, length, min, take, length-append, length-take-le, ap, sym, ◌∙◌, arith}
use Rattle.sectors.specs.FillLaws.{take_cut}
use Rattle.area.specs.Lone.{lone_slot, table_words}
use Rattle.area.specs.Table.{head_warnings, tracks_in, warnings_in}
use Rattle.area.proofs.TableLaws.{head_warnings_few, warnings_few}
use Rattle.area.specs.declared.locale.Locale.{Locale}
use Rattle.area.specs.declared.table.TableHead.{TableHead}
use Rattle.area.specs.declared.warning.Warning.{Warning}
use Rattle.listing_text.specs.Listing.{locales_word, tracks_word, warnings_word, locale_line, track_line, warning_line, section, locales_of, sections_of, sections_by, warning_of}
use Rattle.listing_text.specs.Page.{appended}
use Rattle.listing_text.specs.declared.page.Page.{Page}
use Rattle.listing_text.proofs.Writing.{joined}
use Rattle.listing_text.proofs.EntryLines.{section_mapped}
use Rattle.listing_text.proofs.TrackTurns.{warned_behind, warned_within, warned_words}
use Rattle.listing_text.proofs.listing.put_sections.Goals as goal

abbrev lone_warnings : List ℕ → TableHead → List Warning
lone_warnings table head = head_warnings lone_slot head ++ warnings_in table head

few : (table : List ℕ) (head : TableHead) → length (lone_warnings table head) ≤ table_words
few table head =
    let n = length-append (head_warnings lone_slot head) (warnings_in table head) in
    omega (arith, head_warnings_few lone_slot head, warnings_few table head)

pub slice_bounds-words-end : goal.slice_bounds-words-end
slice_bounds-words-end c =
    let head = c.push_head-count.ensures in let rest = c.put_track_section-warned.ensures in
    warned_within _ (lone_warnings c.args.table.now c.args.head) (warned_behind _ 0 _ _ (head.written, head.counted) (rest.warned, rest.counted))

pub slice_bounds-put_section-end-4 : goal.slice_bounds-put_section-end-4
slice_bounds-put_section-end-4 c =
    let head = c.push_head-count.ensures in let rest = c.put_track_section-warned.ensures in
    sym (length-take-le _ _ (warned_within _ (lone_warnings c.args.table.now c.args.head) (warned_behind _ 0 _ _ (head.written, head.counted) (rest.warned, rest.counted))))

pub returns : goal.returns
unfolding sections_by sections_of locales_of
returns c =
    let page = c.args.page.now in let table = c.args.table.now in let head = c.args.head in let all = head.area.locales in
    let pushed = c.push_head-count.ensures in let rest = c.put_track_section-warned.ensures in
    let locales = section locales_word locale_line (take head.area.locale_count all) in let tracks = section tracks_word track_line (tracks_in table head) in
    let v = warned_behind _ 0 (head_warnings lone_slot head) (warnings_in table head) (pushed.written, pushed.counted) (rest.warned, rest.counted) in
    let told = warned_words _ (lone_warnings table head) v (omega (arith, few table head)) in
    let size : c.min-locales.result ≡ min head.area.locale_count (length all) = omega arith in
    let first : c.put_section.new.page ≡ appended page locales =
    c.put_section.ensures ∙ ap (λ (l : List Locale). appended page (section locales_word locale_line l)) (ap (λ (n : ℕ). take n all) size ∙ take_cut head.area.locale_count all) in
    let second : c.put_track_section-warned.new.page ≡ appended page (locales ++ tracks) =
    rest.written ∙ ap (λ (p : Page). appended p tracks) first ∙ joined page locales tracks in
    c.put_section-2.ensures ∙ (λ i. appended (second i) (section_mapped warnings_word warning_line warning_of (told i) i)) ∙ joined page (locales ++ tracks) _
