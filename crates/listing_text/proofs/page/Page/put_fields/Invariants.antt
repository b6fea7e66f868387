-- After so many turns as many fields are written behind the first.
use Rattle.std.proofs.Common.{◌≡◌, take}
use mathlib.Core.List.{flat_map}
use Rattle.listing_text.specs.Line.{next_field}
use Rattle.listing_text.specs.Page.{appended}
use Rattle.listing_text.proofs.page.Page.put_fields.Given as goal

abbrev pub invariant-loop-field : goal.invariant-loop-field
invariant-loop-field l = l.self ≡ appended l.initial.self (flat_map next_field (take l.field-index l.rest))
