-- What is kept of the items that are left, over those kept before, stays the same at each turn of the walk, and of the search for the next item within it.
use Rattle.std.proofs.Common.{◌≡◌, ◌-◌, length}
use Rattle.area.specs.Items.{items_from}
use Rattle.area.specs.TrackText.{keep_all, items_kept}
use Rattle.area.proofs.Keeping.{searched}
use Rattle.area.proofs.track_text.items_kept.Given as goal

abbrev pub invariant-loop-q : goal.invariant-loop-q
invariant-loop-q l = keep_all l.table (searched l.table l.q l.left) (record { places = l.places; warning = l.warning }) ≡ items_kept l.table l.place l.count

abbrev pub decreases-loop-q : goal.decreases-loop-q
decreases-loop-q l = length l.table - l.q

abbrev pub invariant-items : goal.invariant-items
invariant-items l = keep_all l.table (items_from l.table l.q l.left) (record { places = l.places; warning = l.warning }) ≡ items_kept l.table l.place l.count
