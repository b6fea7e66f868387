-- How many warnings a disc gives at most: 3 of the disc and 1,022 of each slot, so that 2,047 words hold them all. Assumes nothing.
use Rattle.std.specs.Prelude.{ℕ, ◌+◌, ◌*◌, ◌≤◌, refl, Bool, cond, not, ◌&&◌, ◌||◌, List, [], ◌∷◌, ◌++◌, ltb}
use native.Mathlib.Omega.{arith}
use Rattle.std.proofs.Math.Path.{◌≡◌}
use Rattle.std.proofs.Common.{ap, ◌∙◌, append-nil, length-append}
use Rattle.std.proofs.Math.Bool.{true, false}
use Rattle.std.proofs.Math.Option.{Option, none, some}
use Rattle.std.proofs.Math.ListN.{length}
use Rattle.sectors.specs.Bytes.{same}
use Rattle.sectors.specs.Number.{be_at}
use Rattle.sectors.specs.Source.{Source}
use Rattle.area.specs.LentLaws.{when_length}
use Rattle.area.specs.Limits.{max_tracks, max_head_warnings, max_track_warnings}
use Rattle.area.specs.Table as Area
use Rattle.area.proofs.TableLaws.{area_of, address_warnings, warnings_most}
use Rattle.area.specs.Lone.{table_words}
use Rattle.disc.specs.Copies.{is_used, is_too_large, has_second, first_copy, second_copy, is_there, unequal, copies_of, served_warnings, copy_warnings, chosen_of, chosen, table_in, warnings_in, slot_table, slot_warnings}
use Rattle.disc.specs.Disc.{master_copies_differ, disc_warnings, warnings_of}
use Rattle.disc.specs.Master.{has_text, has_manufacturer, pointer_of}
use Rattle.disc.specs.Slot.{Slot, two_channel, multichannel, slot_number, max_disc_warnings, max_copy_warnings, max_slot_warnings, warning_words}
use Rattle.disc.specs.Warning.{area_toc_too_large}
use Rattle.disc.specs.declared.copies.SlotCopies.{SlotCopies}
use Rattle.disc.specs.declared.master.AreaPointer.{AreaPointer}

one_most : (t : Bool) → cond t 1 0 ≤ 1
one_most true = omega arith
one_most false = omega arith

never_both : (t : Bool) → ◌≡◌ {A = ℕ} (cond (t && false) 1 0) 0
never_both true = refl
never_both false = refl

-- ---- of the disc
pub disc_warnings_few : (differ : Bool) (table : List ℕ) → length (disc_warnings differ table) ≤ max_disc_warnings
unfolding disc_warnings
disc_warnings_few differ table =
    let text = not (has_text table) && ltb 0 (be_at table 128 1) in let maker = not (has_manufacturer table) in
    let a = one_most differ in let b = one_most text in let c = one_most maker in
    simp (length-append, when_length) (omega arith)

-- ---- of a slot's copies
-- what is known of two copies
abbrev known : AreaPointer → Option (List ℕ) → Option (List ℕ) → SlotCopies
known p a b = record { pointer = p; toc1 = is_there a; toc2 = is_there b; differ = unequal a b }

served_count : (slot : ℕ) (c : SlotCopies) → length (served_warnings slot c)
    ≡ cond (not c.toc1) 1 0 + cond (has_second c.pointer && not c.toc2) 1 0 + cond c.differ 1 0 + cond (not c.toc1 && not c.toc2) 1 0
unfolding served_warnings
served_count slot c = simp (length-append, when_length)

module _ (slot : ℕ) where
  -- one of 4, 5 and 6 where a copy is readable; else 4, 5 and 7
  served_few : (p : AreaPointer) (a b : Option (List ℕ)) → (is_there a || is_there b) ≡ true → length (served_warnings slot (known p a b)) ≤ max_copy_warnings
  unfolding is_there unequal
  served_few p (some a) (some b) e =
      let n = served_count slot (known p (some a) (some b)) in let d = one_most (not (same b a)) in omega (arith, never_both (has_second p))
  served_few p (some a) none e = let n = served_count slot (known p (some a) none) in omega (arith, one_most (has_second p && true))
  served_few p none (some b) e = let n = served_count slot (known p none (some b)) in omega (arith, never_both (has_second p))
  served_few p none none e = let z : ◌≡◌ {A = ℕ} 0 1 = cc in absurd (omega arith)

  unserved_few : (p : AreaPointer) → length (served_warnings slot (known p none none)) ≤ 3
  unfolding is_there unequal
  unserved_few p = let n = served_count slot (known p none none) in omega (arith, one_most (has_second p && true))

  -- so it is of any slot
  copies_most : (c : SlotCopies) (n : ℕ) → 1 ≤ n → length (served_warnings slot c) ≤ n → length (copy_warnings slot c) ≤ n
  unfolding copy_warnings
  copies_most c n some-room few = go (is_used c.pointer) (is_too_large c.pointer)
    where
      go : (u l : Bool) → length (cond u (cond l (Area.of_slot area_toc_too_large slot ∷ []) (served_warnings slot c)) []) ≤ n
      go true true = some-room
      go true false = few
      go false l = omega arith

table_most : (table : List ℕ) (slot lsn sectors : ℕ) → length (Area.warnings_of (Area.area_at table slot lsn sectors)) ≤ max_head_warnings + max_tracks * max_track_warnings
table_most table slot lsn sectors =
    let e = ap Area.warnings_of (area_of table slot lsn sectors) ∙ address_warnings lsn (Area.table_of table slot sectors) in
    omega (arith, ap length e, warnings_most table slot sectors)

-- ---- of a slot
pub slot_warnings_most : (source : Source) (slot : Slot) (p : AreaPointer) → length (slot_warnings source slot p) ≤ max_slot_warnings
unfolding slot_warnings slot_table chosen chosen_of copies_of is_there table_in warnings_in
slot_warnings_most source slot p = go (first_copy source p) (second_copy source p)
  where
    with_table : (c : SlotCopies) (bytes : List ℕ) (lsn : ℕ) → length (served_warnings (slot_number slot) c) ≤ max_copy_warnings
        → length (copy_warnings (slot_number slot) c ++ Area.warnings_of (Area.area_at bytes (slot_number slot) lsn p.toc_sectors)) ≤ max_slot_warnings
    with_table c bytes lsn few =
        let given = Area.warnings_of (Area.area_at bytes (slot_number slot) lsn p.toc_sectors) in
        let n = length-append (copy_warnings (slot_number slot) c) given in
        omega (arith, copies_most (slot_number slot) c max_copy_warnings (omega arith) few, table_most bytes (slot_number slot) lsn p.toc_sectors)

    go : (a b : Option (List ℕ)) → length (copy_warnings (slot_number slot) (known p a b) ++ warnings_in (table_in slot (chosen_of p a b))) ≤ max_slot_warnings
    go (some a) b = with_table (known p (some a) b) a p.toc1_lsn.0 (served_few (slot_number slot) p (some a) b refl)
    go none (some b) = with_table (known p none (some b)) b p.toc2_lsn.0 (served_few (slot_number slot) p none (some b) refl)
    go none none =
        let few = copies_most (slot_number slot) (known p none none) 3 (omega arith) (unserved_few (slot_number slot) p) in
        rw append-nil (omega arith)

pub warnings_fit : (source : Source) (table : List ℕ) → length (warnings_of source table) ≤ warning_words
unfolding warnings_of
warnings_fit source table =
    let own = disc_warnings (master_copies_differ source table) table in
    let first = slot_warnings source two_channel (pointer_of table two_channel) in
    let second = slot_warnings source multichannel (pointer_of table multichannel) in
    let m = length-append (own ++ first) second in let n = length-append own first in
    omega (
      arith,
      disc_warnings_few (master_copies_differ source table) table,
      slot_warnings_most source two_channel (pointer_of table two_channel),
      slot_warnings_most source multichannel (pointer_of table multichannel),
    )

-- "Warning buffers become 2,047 and 1,021 words." (02, item 5): the numbers that they are made of give these
pub words_asked : (warning_words ≡ 2047) × (table_words ≡ 1021)
words_asked = (refl, refl)
