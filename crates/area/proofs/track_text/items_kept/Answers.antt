-- Where the arms of a turn meet, its item is kept over those before it; the search for the next item leaves the items that are left as they are.
use Rattle.std.proofs.Common.{◌≡◌, ◌+◌, ◌-◌, length, slice_index_or, refl, sym, ◌∙◌, arith}
use Rattle.area.specs.Items.{Item}
use Rattle.area.specs.ItemLaws.{items_short}
use Rattle.area.proofs.TextPlaceLaws.{placed_text_lem}
use Rattle.area.specs.TrackText.{no_text, no_places, keep_at, keep, keep_all, items_kept}
use Rattle.area.specs.declared.track_text.TrackText.{TrackText}
use Rattle.area.proofs.Keeping.{searched, keep_empty, keep_full, search_more, search_found, search_end, search_none, none_left, same_left, all_kept, kept_turn}
use Rattle.area.proofs.track_text.items_kept.Goals as goal
use Rattle.area.proofs.track_text.items_kept.Goals.{Joined-len-ne0, then-len-ne0+in-Some, then-len-ne0+in-None, else-len-ne0}

pub items-init : goal.items-init
unfolding items_kept no_text no_places
items-init c = refl

-- the arms meet: the items that are left give what they gave before
met : (c : Joined-len-ne0)
    → keep_all c.args.table.now (searched c.args.table.now (c.items.q + 2 + length c.string_bytes-len.result.now) (c.items.left - 1))
    (record { places = c.if-len-ne0.places; warning = c.if-len-ne0.warning }) ≡ items_kept c.args.table.now c.args.place c.args.count
unfolding keep_at
met c =
    let table = c.args.table.now in let s = c.string_bytes-len in
    let item : Item = record { kind = slice_index_or table c.items.q 0; place = c.items.q + 2; len = length s.result.now } in
    let before : TrackText = record { places = c.items.places; warning = c.items.warning } in
    let kept : record { places = c.if-len-ne0.places; warning = c.if-len-ne0.warning } ≡ keep table item before =
    elim c.if-len-ne0.branch [
      | then-len-ne0+in-Some w ↦ (λ i. record { places = w.places-is i; warning = w.warning-is i })
          ∙ keep_full table item before w.if-len-ne0.true (sym w.item_index.ensures.index ∙ w.in-Some.is) (w.text_at.ensures ∙ placed_text_lem table _ _ s.ensures.bytes)
      | then-len-ne0+in-None w ↦ (λ i. record { places = w.places-is i; warning = w.warning-is i })
          ∙ keep_full table item before w.if-len-ne0.true (sym w.item_index.ensures.index ∙ w.in-None.is) refl
      | else-len-ne0 w ↦ (λ i. record { places = w.places-is i; warning = w.warning-is i })
          ∙ keep_empty table item before (omega arith)
    ] in
    kept_turn table c.items.q c.items.left before _ s.result.now (omega arith) (omega arith) s.ensures.bytes kept c.items.invariant

pub loop-q-init : goal.loop-q-init
loop-q-init c = met (goal.at.loop-q-init c).Joined-len-ne0

pub items-preserved : goal.items-preserved
items-preserved c =
    let byte = c.in-Some-get.ensures.lookup.3 in
    same_left _ _ (search_found _ _ _ byte.0 (λ zero. c.in-Some-get.field-0-test.1 (byte.1 0 ∙ zero))) c.loop-q.invariant

pub loop-q-preserved : goal.loop-q-preserved
loop-q-preserved c =
    let byte = c.in-Some-eq0.ensures.lookup.3 in
    same_left _ _ (search_more _ _ _ byte.0 (sym (byte.1 0) ∙ c.in-Some-eq0.field-0-test)) c.loop-q.invariant

pub returns-after-items : goal.returns-after-items
returns-after-items c = all_kept _ _ (none_left _ _ _ (omega arith)) c.items.invariant

pub returns-then-table-saturating_add : goal.returns-then-table-saturating_add
returns-then-table-saturating_add c = all_kept _ _ (items_short _ _ _ (omega arith)) c.items.invariant

pub returns-then-left-eq0 : goal.returns-then-left-eq0
returns-then-left-eq0 c = all_kept _ _ (search_none _ _ _ c.if-left-eq0.true) (met (goal.at.returns-then-left-eq0 c).Joined-len-ne0)

pub returns-in-None-get : goal.returns-in-None-get
returns-in-None-get c = all_kept _ _ (search_end _ _ _ c.in-None-get.ensures.lookup.3) c.loop-q.invariant
