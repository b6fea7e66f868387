-- Laws of the warnings of a disc: what holds of all of them, by where they come from. "Code 16 never comes here.": no warning of a disc has it.
-- Assumes nothing.
use Rattle.std.specs.Prelude.{ℕ, ◌≤◌, ◌<◌, Bool, cond, ◌&&◌, ◌≢◌, ◌⊎◌, ◌≡◌, refl}
use Rattle.std.proofs.Common.{arith, inl, inr, ◌∙◌, sym, subst}
use Rattle.std.proofs.Math.Bool.{true, false, not}
use mathlib.Core.List.Memᴰ
use mathlib.Core.List.{List, [], ◌∷◌, ◌++◌, Memᴰ}
use Rattle.std.proofs.Math.Option.{Option, none, some}
use Rattle.std.proofs.Math.Path.{ap}
use Rattle.std.proofs.Math.Dec.{ltb}
use Rattle.sectors.specs.Number.{be_at}
use Rattle.sectors.specs.Source.{Source}
use Rattle.area.specs.Lent.{when_true}
use Rattle.area.specs.Table as Area
use Rattle.area.proofs.TableLaws.{area_of, address_warnings}
use Rattle.area.proofs.WarningLaws.{of_slot_lem, in_one, in_when, TableCode, table_codes, table_warnings_of}
use Rattle.area.specs.declared.warning.Warning.{Warning}
use Rattle.disc.specs.Slot.{Slot, two_channel, multichannel, slot_number}
use Rattle.disc.specs.Master.{has_text, has_manufacturer, pointer_of}
use Rattle.disc.specs.Warning.{master_text_missing, manufacturer_missing, area_toc_too_large, area_toc1_unreadable, area_toc2_unreadable, area_toc_copies_differ, area_toc_unreadable, audio_sector_malformed, master_toc_copies_differ}
use Rattle.disc.specs.Copies.{is_used, is_too_large, has_second, copies_of, served_warnings, copy_warnings, Copy, chosen, table_in, warnings_in, slot_table, slot_warnings}
use Rattle.disc.specs.Disc.{of_disc, master_copies_differ, disc_warnings, warnings_of}
use Rattle.disc.specs.declared.copies.SlotCopies.{SlotCopies}
use Rattle.disc.specs.declared.master.AreaPointer.{AreaPointer}

-- codes up to 7, and 17: what a disc, or a slot's copies, are warned of
abbrev pub OwnCode : ℕ → Type 0
OwnCode n = (n ≤ area_toc_unreadable) ⊎ (n ≡ master_toc_copies_differ)

pub slot_number_few : (slot : Slot) → slot_number slot ≤ 2
unfolding slot_number
slot_number_few two_channel = omega arith
slot_number_few multichannel = omega arith

module _ (P : Warning → Type 0) where
  -- it holds of every warning of a list
  abbrev pub Every : List Warning → Type 0
  Every warnings = (w : Warning) → Memᴰ w warnings → P w

  every_none : Every []
  every_none w m = absurd (Memᴰ.not-nil m)

  every_both : (xs ys : List Warning) → Every xs → Every ys → Every (xs ++ ys)
  every_both xs ys first second w m = go (Memᴰ.append_cases xs m)
    where
      go : Memᴰ w xs ⊎ Memᴰ w ys → P w
      go (inl h) = first w h
      go (inr h) = second w h

  -- ---- of the disc, and of a slot's copies: it holds of each such code, of that slot and no track
  module _ (slot : ℕ) (own : (code : ℕ) → OwnCode code → P (record { code = code; slot = slot; track = 0 })) where
    every_one : (code : ℕ) → OwnCode code → Every (Area.of_slot code slot ∷ [])
    every_one code is w m = subst P (sym (in_one w (Area.of_slot code slot) m ∙ of_slot_lem code slot)) (own code is)

    every_when : (t : Bool) (code : ℕ) → OwnCode code → Every (when_true t (Area.of_slot code slot))
    every_when t code is w m = subst P (sym (in_when w t (Area.of_slot code slot) m ∙ of_slot_lem code slot)) (own code is)

    every_served : (c : SlotCopies) → Every (served_warnings slot c)
    unfolding served_warnings
    every_served c =
        every_both _ _
        (every_both _ _
        (every_both _ _ (every_when (not c.toc1) area_toc1_unreadable (inl (omega arith)))
        (every_when (has_second c.pointer && not c.toc2) area_toc2_unreadable (inl (omega arith))))
        (every_when c.differ area_toc_copies_differ (inl (omega arith))))
        (every_when (not c.toc1 && not c.toc2) area_toc_unreadable (inl (omega arith)))

    pub every_copies : (c : SlotCopies) → Every (copy_warnings slot c)
    unfolding copy_warnings
    every_copies c = go (is_used c.pointer) (is_too_large c.pointer)
      where
        go : (used large : Bool) → Every (cond used (cond large (Area.of_slot area_toc_too_large slot ∷ []) (served_warnings slot c)) [])
        go true true = every_one area_toc_too_large (inl (omega arith))
        go true false = every_served c
        go false large = every_none

  pub every_disc : ((code : ℕ) → OwnCode code → P (record { code = code; slot = 0; track = 0 })) → (differ : Bool) (table : List ℕ) → Every (disc_warnings differ table)
  unfolding disc_warnings of_disc
  every_disc own differ table =
      every_both _ _
      (every_both _ _ (every_when 0 own differ master_toc_copies_differ (inr refl))
      (every_when 0 own (not (has_text table) && ltb 0 (be_at table 128 1)) master_text_missing (inl (omega arith))))
      (every_when 0 own (not (has_manufacturer table)) manufacturer_missing (inl (omega arith)))

  -- ---- of a slot's table
  pub every_table : (slot : Slot) → ((bytes : List ℕ) (sectors : ℕ) → Every (Area.warnings_of (Area.table_of bytes (slot_number slot) sectors)))
      → (x : Option Copy) → Every (warnings_in (table_in slot x))
  unfolding warnings_in table_in
  every_table slot tables none w m = every_none w m
  every_table slot tables (some c) w m =
      let its = ap Area.warnings_of (area_of c.bytes (slot_number slot) c.lsn c.sectors) ∙ address_warnings c.lsn (Area.table_of c.bytes (slot_number slot) c.sectors) in
      tables c.bytes c.sectors w (subst (Memᴰ w) its m)

  -- ---- so of all
  module _ (own : (slot code : ℕ) → slot ≤ 2 → OwnCode code → P (record { code = code; slot = slot; track = 0 }))
      (tables : (bytes : List ℕ) (slot : Slot) (sectors : ℕ) → Every (Area.warnings_of (Area.table_of bytes (slot_number slot) sectors))) where
    every_slot : (source : Source) (slot : Slot) (p : AreaPointer) → Every (slot_warnings source slot p)
    unfolding slot_warnings slot_table
    every_slot source slot p =
        every_both _ _ (every_copies (slot_number slot) (λ code. own (slot_number slot) code (slot_number_few slot)) (copies_of source p))
        (every_table slot (λ bytes. tables bytes slot) (chosen source p))

    every_warning : (source : Source) (table : List ℕ) → Every (warnings_of source table)
    unfolding warnings_of
    every_warning source table =
        every_both _ _
        (every_both _ _ (every_disc (λ code. own 0 code (omega arith)) (master_copies_differ source table) table)
        (every_slot source two_channel (pointer_of table two_channel)))
        (every_slot source multichannel (pointer_of table multichannel))

-- none of these codes is another one above 7
pub own_not : (other : ℕ) → area_toc_unreadable < other → other ≢ master_toc_copies_differ → (n : ℕ) → OwnCode n → n ≢ other
own_not other above differs n (inl h) q = omega arith
own_not other above differs n (inr e) q = differs (sym q ∙ e)

-- ---- none has code 16
table_not : (n : ℕ) → TableCode n → n ≢ audio_sector_malformed
table_not n (inl h) q = let low = h.0 in let high = h.1 in omega arith
table_not n (inr (inl e)) q = omega arith
table_not n (inr (inr e)) q = omega arith

pub never_malformed : (source : Source) (table : List ℕ) (w : Warning) → Memᴰ w (warnings_of source table) → w.code ≢ audio_sector_malformed
never_malformed =
    every_warning (λ w. w.code ≢ audio_sector_malformed) (λ slot code few is. own_not audio_sector_malformed (omega arith) (omega arith) code is) (λ bytes slot sectors w m.
    table_not w.code (table_codes bytes (slot_number slot) sectors w m))

-- ---- slot and track are bytes
pub warning_bytes : (source : Source) (table : List ℕ) (w : Warning) → Memᴰ w (warnings_of source table) → (w.slot < 256) × (w.track < 256)
warning_bytes =
    every_warning (λ w. (w.slot < 256) × (w.track < 256)) (λ slot code few is. (omega arith, omega arith)) (λ bytes slot sectors w m.
    let of = table_warnings_of bytes (slot_number slot) sectors w m in let few = slot_number_few slot in let its = of.0 in let track = of.1 in
    (omega arith, omega arith))
