-- Where a program finds a part of a stored sector. Assumes nothing.
use Rattle.std.proofs.Common.{◌≡◌, ℕ, zero, suc, ◌+◌, ◌-◌, ◌*◌, ◌/◌, ◌^◌, ◌<◌, ◌≤◌, Bool, true, false, Option, Some, None, IsSome, List, length, take, drop, sym, ap, ◌∙◌, mul-le-mul_left, is_some, is_none, not, arith}
use Rattle.std.proofs.Math.Bool.{not-not}
use Rattle.std.proofs.Math.Nat.{div-zero}
use Rattle.std.proofs.lemmas.Option.{none-some, same_Some}
use Rattle.sectors.specs.Fill.{part}
use Rattle.sectors.specs.FillLaws.{slice_part}
use Rattle.sectors.specs.Format.{foreign, layout_of, stored_size, data_offset}
use Rattle.sectors.specs.Sector.{readable}
use Rattle.sectors.proofs.SectorLaws.{foreign_none, readable_true, count_known, stored_inside}
use Rattle.sectors.specs.declared.sector.Layout.{Layout}

-- the program's test, whether a format has no layout
pub foreign_test : (format : ℕ) {o : Option Layout} {test : Bool} → o ≡ layout_of format → is_some o ≡ not test → test ≡ foreign format
foreign_test format {o} {test} e is = sym (not-not test) ∙ ap not (sym is ∙ ap is_some e) ∙ foreign_none format

-- the format of an image that has a sector has a layout
pub has_layout : (format bytes n : ℕ) {o : Option Layout} → o ≡ layout_of format → readable format bytes n 1 ≡ true → IsSome o
has_layout format bytes n {o} e there =
    let within = readable_true format bytes n 1 there in
    sym (not-not (is_some o)) ∙ ap not (ap is_none e ∙ foreign_none format ∙ count_known format bytes (omega arith))

-- one without a layout is foreign, and stores no sectors
module _ (format : ℕ) (e : layout_of format ≡ None) where
  pub none_foreign : foreign format ≡ true
  none_foreign = sym (foreign_none format) ∙ ap is_none e

  pub none_stored : (bytes : ℕ) → 0 ≡ bytes / stored_size format
  unfolding stored_size
  none_stored bytes = rw (e, stored_size) (sym (div-zero bytes))

-- no format stores a sector in more than 2,064 bytes, or its data from behind the twelfth
Small : Layout → Type 0
Small l = (0 < l.stored) × (l.stored ≤ 2064) × (l.offset ≤ 12)

small : (format : ℕ) (l : Layout) → layout_of format ≡ Some l → Small l
unfolding layout_of Small
small zero l e = rw (← same_Some _ l e) (omega arith, omega arith, omega arith)
small (suc zero) l e = rw (← same_Some _ l e) (omega arith, omega arith, omega arith)
small (suc (suc zero)) l e = rw (← same_Some _ l e) (omega arith, omega arith, omega arith)
small (suc (suc (suc n))) l e = absurd (none-some l e)

module _ (format : ℕ) (l : Layout) (e : layout_of format ≡ Some l) where
  pub is_stored : 0 < l.stored
  unfolding Small
  is_stored = (small format l e).0

  pub some_known : foreign format ≡ false
  some_known = sym (foreign_none format) ∙ ap is_none e

  pub stored_is : l.stored ≡ stored_size format
  unfolding stored_size
  stored_is = rw (e, stored_size)

  pub offset_is : l.offset ≡ data_offset format
  unfolding data_offset
  offset_is = rw (e, data_offset)

  -- a part of a sector that is in the image lies in it
  pub part_inside : (image : List ℕ) (n offset size : ℕ) → readable format (length image) n 1 ≡ true → offset + size ≤ stored_size format
      → n * l.stored + offset + size ≤ length image
  part_inside image n offset size there fits = rw stored_is (omega (arith, stored_inside format image n there))

  -- and is what stands there
  pub part_is : (image : List ℕ) (n offset size : ℕ)
      → take (n * l.stored + offset + size - (n * l.stored + offset)) (drop (n * l.stored + offset) image)
      ≡ part (n * stored_size format + offset) size image
  part_is image n offset size =
      slice_part (n * l.stored + offset) size image ∙ ap (λ (s : ℕ). part (n * s + offset) size image) stored_is

  -- the data of a sector of any address begin at a number of eight bytes
  pub place_fits : (lsn : ℕ) → lsn < 2 ^ 32 → lsn * l.stored + l.offset < 2 ^ 64
  unfolding Small
  place_fits lsn low =
      let s = small format l e in omega (arith, mul-le-mul_left lsn s.1)
