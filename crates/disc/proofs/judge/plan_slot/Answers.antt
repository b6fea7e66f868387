-- A slot's plan: without a copy it has no head and no more warnings, else the head of its table and the head's warnings too.
use Rattle.std.specs.Prelude.{◌≡◌, ℕ, true, false, ◌||◌, List, ◌++◌, map}
use Rattle.std.proofs.Common.{ap, ◌∙◌}
use Rattle.std.proofs.lemmas.List.{append-nil}
use Rattle.std.proofs.lemmas.List.Edits.{sets}
use Rattle.area.specs.Lent.{counted}
use Rattle.area.specs.LentLaws.{pushed_then}
use Rattle.area.specs.Limits.{table_bytes}
use Rattle.area.specs.Table.{head_of, no_head, head_warnings}
use Rattle.area.specs.Warning.{word_of}
use Rattle.area.specs.declared.table.TableHead.{TableHead}
use Rattle.area.specs.declared.warning.Warning.{Warning}
use Rattle.disc.specs.Copies.{copy_warnings, chosen_lsn}
use Rattle.disc.specs.Steps.{slot_head, plan_warnings, slot_plan_of}
use Rattle.disc.specs.declared.copies.SlotCopies.{SlotCopies}
use Rattle.disc.specs.Slot.{region_of}
use Rattle.disc.proofs.judge.plan_slot.Goals as goal

module _ (work : List ℕ) (slot : ℕ) (c : SlotCopies) where
  without_head : (c.toc1 || c.toc2) ≡ false → no_head ≡ slot_head work slot c
  unfolding slot_head
  without_head e = simp e

  no_more : (c.toc1 || c.toc2) ≡ false → copy_warnings slot c ≡ plan_warnings work slot c
  unfolding plan_warnings
  no_more e = simp (e, append-nil)

  with_head : (c.toc1 || c.toc2) ≡ true
      → head_of (table_bytes c.pointer.toc_sectors (region_of slot work)) slot (chosen_lsn c.pointer c.toc1).0 c.pointer.toc_sectors ≡ slot_head work slot c
  unfolding slot_head
  with_head e = simp e

  and_more : (c.toc1 || c.toc2) ≡ true → copy_warnings slot c ++ head_warnings slot (slot_head work slot c) ≡ plan_warnings work slot c
  unfolding plan_warnings
  and_more e = simp e

pub returns-then-not-copies : goal.returns-then-not-copies
unfolding slot_plan_of
returns-then-not-copies c =
    let a = c.args in let words = a.words.now in let p = c.push_copies-n.ensures in let none = c.if-not-copies.true in
    let warned = no_more a.work.now a.slot a.copies none in (
      λ i. record {
        count = (p.counted ∙ ap (counted words a.count) warned) i;
        head = (c.no_head.ensures ∙ without_head a.work.now a.slot a.copies none) i;
      },
      p.written ∙ ap (λ (w : List Warning). sets words a.count (map word_of w)) warned,
    )

pub returns : goal.returns
unfolding slot_plan_of
returns c =
    let a = c.args in let words = a.words.now in let p = c.push_copies-n.ensures in let h = c.push_head-m.ensures in
    let there = c.if-not-copies.false in
    let head =
    c.table_head-head.ensures
    ∙ (λ i. head_of (table_bytes a.copies.pointer.toc_sectors (c.region_of.ensures i)) a.slot (c.chosen_lsn-lsn.ensures i).0 a.copies.pointer.toc_sectors)
    ∙ with_head a.work.now a.slot a.copies there in
    let warned =
    ap (λ (x : TableHead). copy_warnings a.slot a.copies ++ head_warnings a.slot x) head ∙ and_more a.work.now a.slot a.copies there in
    let pushed = pushed_then word_of words _ _ _ _ _ _ _ (p.written, p.counted) (h.written, h.counted) in (
      λ i. record { count = (pushed.1 ∙ ap (counted words a.count) warned) i; head = head i },
      pushed.0 ∙ ap (λ (w : List Warning). sets words a.count (map word_of w)) warned,
    )
