-- After i turns the lines of the first i tracks are written behind the section's first, and their warnings as words.
use Rattle.std.proofs.Common.{◌≡◌}
use mathlib.Core.List.{flat_map}
use Rattle.listing_text.specs.Listing.{track_line}
use Rattle.listing_text.specs.Page.{appended}
use Rattle.listing_text.proofs.TrackTurns.{Warns, tracks_to, warnings_to}
use Rattle.listing_text.proofs.section.put_track_section.Given as goal

abbrev pub invariant-loop-i : goal.invariant-loop-i
invariant-loop-i l =
    (l.page ≡ appended l.initial.page (flat_map track_line (tracks_to l.table l.head l.i))) × Warns l.initial.words l.count (warnings_to l.table l.head l.i) l.words l.warned
