-- Laws of a slot's copies in any source of whole sectors: the chosen copy, its table, its size. Assumes nothing.
use Prim.Native.Nat.{ℕ, ◌*◌, ◌≤◌}
use Rattle.std.proofs.Common.{arith, ap, ◌∙◌, ltb-false}
use Rattle.std.proofs.Math.Path.{◌≡◌, refl}
use Rattle.std.specs.Prelude.{Bool, not, ◌&&◌, ◌||◌, length}
use Rattle.std.proofs.Math.Bool.{true, false, and-eq-true_iff}
use mathlib.Core.List.{List, []}
use Rattle.std.proofs.Math.Option.{Option, none, some}
use Rattle.std.proofs.lemmas.Bool.{not-true}
use Rattle.sectors.specs.Format.{sector_size}
use Rattle.sectors.specs.Options.{only_if}
use Rattle.sectors.specs.Source.{Source, Sized, run_of}
use Rattle.sectors.proofs.SourceLaws.{run_of_length}
use Rattle.area.specs.Limits.{max_area_toc_sectors, max_table_bytes, max_tracks}
use Rattle.area.specs.Table as Area
use Rattle.area.proofs.TableLaws.{tracks_most, address_tracks, area_of}
use Rattle.disc.specs.Copies.{is_used, is_too_large, is_served, has_second, first_copy, second_copy, is_there, chosen_of, chosen, bytes_of, table_in, tracks_in, slot_table, chosen_lsn}
use Rattle.disc.specs.Slot.{Slot, slot_number}
use Rattle.disc.specs.declared.master.AreaPointer.{AreaPointer}

-- a served slot has at most 128 sectors
pub served_few : (p : AreaPointer) → is_served p ≡ true → p.toc_sectors ≤ max_area_toc_sectors
unfolding is_served is_too_large
served_few p e = ltb-false max_area_toc_sectors p.toc_sectors (not-true (is_too_large p) ((and-eq-true_iff (is_used p) (not (is_too_large p))).0 e).1)

-- a copy has the bytes of all its sectors, at most 128
abbrev pub Whole : AreaPointer → List ℕ → Type 0
Whole p bytes = (length bytes ≡ p.toc_sectors * sector_size) × (p.toc_sectors ≤ max_area_toc_sectors)

-- ---- the chosen copy, in any source of whole sectors
module _ (source : Source) (p : AreaPointer) where
  -- whether there is one
  abbrev pub either_there : Bool
  either_there = is_there (first_copy source p) || is_there (second_copy source p)

  pub table_chosen : (slot : Slot) → slot_table source slot p
      ≡ only_if either_there (some (Area.area_at (bytes_of (chosen source p)) (slot_number slot) (chosen_lsn p (is_there (first_copy source p))).0 p.toc_sectors))
  unfolding slot_table table_in chosen chosen_of bytes_of is_there chosen_lsn
  table_chosen slot = go (first_copy source p) (second_copy source p)
    where
      go : (a b : Option (List ℕ)) → table_in slot (chosen_of p a b)
          ≡ only_if (is_there a || is_there b) (some (Area.area_at (bytes_of (chosen_of p a b)) (slot_number slot) (chosen_lsn p (is_there a)).0 p.toc_sectors))
      go (some a) b = refl
      go none (some b) = refl
      go none none = refl

  -- its tracks are at most 255
  pub slot_tracks_few : (slot : Slot) → length (tracks_in (slot_table source slot p)) ≤ max_tracks
  unfolding tracks_in
  slot_tracks_few slot = rw (table_chosen slot) (go either_there)
    where
      bytes : List ℕ
      bytes = bytes_of (chosen source p)

      lsn : ℕ
      lsn = (chosen_lsn p (is_there (first_copy source p))).0

      go : (t : Bool) → length (tracks_in (only_if t (some (Area.area_at bytes (slot_number slot) lsn p.toc_sectors)))) ≤ max_tracks
      go true =
          let most = tracks_most bytes (slot_number slot) p.toc_sectors in
          let same = ap Area.tracks_given (area_of bytes (slot_number slot) lsn p.toc_sectors) ∙ address_tracks lsn (Area.table_of bytes (slot_number slot) p.toc_sectors) in
          omega (arith, ap length same)
      go false = omega arith

  pub chosen_without : either_there ≡ false → bytes_of (chosen source p) ≡ []
  unfolding chosen chosen_of bytes_of is_there
  chosen_without = go (first_copy source p) (second_copy source p)
    where
      go : (a b : Option (List ℕ)) → (is_there a || is_there b) ≡ false → bytes_of (chosen_of p a b) ≡ []
      go (some a) b e = let z : ◌≡◌ {A = ℕ} 0 1 = cc in absurd (omega arith)
      go none (some b) e = let z : ◌≡◌ {A = ℕ} 0 1 = cc in absurd (omega arith)
      go none none e = refl

  module _ (sized : Sized source) where
    -- a copy that is read under a test that a served slot passes
    run_size : (t : Bool) (lsn : ℕ) (bytes : List ℕ) → (t ≡ true → is_served p ≡ true) → only_if t (run_of source lsn p.toc_sectors) ≡ some bytes
        → Whole p bytes
    run_size true lsn bytes served e = (run_of_length source sized lsn p.toc_sectors bytes e, served_few p (served refl))
    run_size false lsn bytes served e = let z : ◌≡◌ {A = ℕ} 0 1 = cc in absurd (omega arith)

    first_whole : (bytes : List ℕ) → first_copy source p ≡ some bytes → Whole p bytes
    unfolding first_copy
    first_whole bytes e = run_size (is_served p) p.toc1_lsn.0 bytes (λ t. t) e

    second_whole : (bytes : List ℕ) → second_copy source p ≡ some bytes → Whole p bytes
    unfolding second_copy
    second_whole bytes e =
        run_size (is_served p && has_second p) p.toc2_lsn.0 bytes (λ t. ((and-eq-true_iff (is_served p) (has_second p)).0 t).0) e

    pub chosen_whole : either_there ≡ true → Whole p (bytes_of (chosen source p))
    unfolding chosen chosen_of bytes_of is_there
    chosen_whole = go (first_copy source p) (second_copy source p) refl refl
      where
        go : (a b : Option (List ℕ)) → first_copy source p ≡ a → second_copy source p ≡ b → (is_there a || is_there b) ≡ true → Whole p (bytes_of (chosen_of p a b))
        go (some a) b q r e = first_whole a q
        go none (some b) q r e = second_whole b r
        go none none q r e = let z : ◌≡◌ {A = ℕ} 0 1 = cc in absurd (omega arith)

    pub chosen_fits : length (bytes_of (chosen source p)) ≤ max_table_bytes
    chosen_fits = go either_there refl
      where
        go : (t : Bool) → either_there ≡ t → length (bytes_of (chosen source p)) ≤ max_table_bytes
        go true e = let w = chosen_whole e in omega arith
        go false e = rw (chosen_without e) (omega arith)
