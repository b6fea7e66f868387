-- After so many turns the lines of as many entries are written behind the section's first.
use Rattle.std.proofs.Common.{◌≡◌, take}
use mathlib.Core.List.{flat_map}
use Rattle.listing_text.specs.Page.{appended}
use Rattle.listing_text.proofs.section.put_section.Given as goal

abbrev pub invariant-loop-entry : goal.invariant-loop-entry
invariant-loop-entry g l = l.page ≡ appended l.initial.page (flat_map g.E.Entry.line (take l.entry-index l.entries))
