-- `listing_text::section::put_track_section` meets its contract: the lines of all tracks are written, and their warnings as words.
use Rattle.std.proofs.Common.{◌≡◌, ℕ, List, ◌++◌, length, ap, sym, ◌∙◌, arith}
use mathlib.Core.List.{flat_map}
use Rattle.area.specs.Table.{read_in, track_count, tracks_in, track_warnings}
use Rattle.area.specs.declared.track.Track.{Track}
use Rattle.listing_text.specs.Line.{word_line}
use Rattle.listing_text.specs.Listing.{tracks_word, track_line, section}
use Rattle.listing_text.specs.Page.{appended}
use Rattle.listing_text.proofs.Writing.{joined}
use Rattle.listing_text.proofs.EntryLines.{no_line, line_behind}
use Rattle.listing_text.proofs.TrackTurns.{no_warning, warned, warned_behind, tracks_to, warnings_to, tracks_to_none, warnings_to_none, tracks_to_next, warnings_to_next, tracks_to_all, warnings_to_all, length_tracks}
use Rattle.listing_text.proofs.section.put_track_section.Goals as goal

pub loop-i-init : goal.loop-i-init
loop-i-init c =
    let a = c.args in let table = a.table.now in let head = a.head in let page = c.put_word_line.new.self in (
      no_line track_line page ∙ ap (λ (tracks : List Track). appended page (flat_map track_line tracks)) (sym (tracks_to_none table head)),
      warned a.words.now a.count (sym (warnings_to_none table head)) (no_warning a.words.now a.count),
    )

pub loop-i-preserved : goal.loop-i-preserved
loop-i-preserved c =
    let l = c.loop-i in let a = c.args in let table = a.table.now in let head = a.head in let page = c.put_word_line.new.self in
    let next = c.next_track-next.ensures in let read = read_in table head l.i in (
      c.put.ensures ∙ (λ i. appended (l.invariant.0 i) (track_line (next.0 i)))
          ∙ line_behind track_line page (tracks_to table head l.i) read.track
          ∙ ap (λ (tracks : List Track). appended page (flat_map track_line tracks)) (sym (tracks_to_next table head l.i)),
      warned a.words.now a.count (sym (warnings_to_next table head l.i))
          (warned_behind a.words.now a.count (warnings_to table head l.i) (track_warnings head.area.origin.slot read) l.invariant.1 (next.2, next.1)),
    )

pub returns : goal.returns
unfolding section
returns c =
    let l = c.loop-i in let a = c.args in let table = a.table.now in let head = a.head in
    let all : l.i ≡ track_count head = omega (arith, c.track_count-tracks.ensures) in
    let count : c.track_count-tracks.result ≡ length (tracks_in table head) = c.track_count-tracks.ensures ∙ sym (length_tracks table head) in
    let v = warned a.words.now a.count (warnings_to_all table head l.i all) l.invariant.1 in
    record {
      written =
          l.invariant.0 ∙ (λ i. appended (c.put_word_line.ensures i) (flat_map track_line (tracks_to_all table head l.i all i)))
          ∙ joined a.page.now _ _ ∙ ap (λ (n : ℕ). appended a.page.now (word_line tracks_word n ++ flat_map track_line (tracks_in table head))) count;
      warned = v.0;
      counted = v.1;
    }
