-- Laws of a slot's copies in any source: which slots are served, which copy is chosen, and what a slot yields of it. Assumes nothing.
use Rattle.std.specs.Prelude.{ℕ, Bool, not, List, map, ◌≢◌, ◌↔◌, ◌≡◌, eqb}
use Rattle.std.proofs.Math.Decide.{ℕ_discrete}
use Rattle.std.proofs.Math.Bool.{true, false, and-eq-true_iff}
use Rattle.std.proofs.Common.{true≢false, ◌∙◌}
use Rattle.std.proofs.Math.Option.{Option, none, some}
use Rattle.std.proofs.Math.Path.{refl, sym, ap}
use borrow.Author.Tests.{ne_eqb, eq-eqb, eqb-false, le-ltb, not-true}
use Rattle.sectors.specs.OptionLaws.{some_eq, no_some}
use Rattle.sectors.specs.Options.{only_if}
use Rattle.sectors.specs.Source.{Source, run_of}
use Rattle.area.specs.Area.{addressed, no_area, kind_of}
use Rattle.area.specs.Limits.{max_area_toc_sectors}
use Rattle.area.proofs.ServeLaws.{SameBehind, bare_area, bare_warning, either_skips, either_area, either_tracks, either_warnings}
use Rattle.area.specs.Skip.{skip_of}
use Rattle.area.specs.Table as Area
use Rattle.area.proofs.TableLaws.{head_skips, present_given, address_tracks, addressed_present, area_of, address_area, address_no_area, area_yields, yields_area, yields_tracks}
use Rattle.disc.specs.Slot.{Slot, slot_number}
use Rattle.disc.specs.Copies.{is_used, is_too_large, is_served, has_second, first_copy, second_copy, Copy, chosen_of, chosen, table_in, has_area, area_in, tracks_in, warnings_in}
use Rattle.disc.specs.CopyLaws.{served_few}
use Rattle.disc.specs.Outcome.{Yielded, is_present}
use Rattle.disc.specs.Demand3.{Place, Served, first_place, second_place, HasSecond, Names, the_first, the_second, yielded_by, area_from}
use Rattle.disc.specs.declared.master.AreaPointer.{AreaPointer}

-- ---- which slots are served

served_true : (p : AreaPointer) → Served p → is_served p ≡ true
unfolding is_served is_used is_too_large
served_true p s =
    rw (
      ne_eqb p.toc1_lsn.0 0 s.toc1_nonzero,
      ne_eqb p.toc_sectors 0 s.sectors_nonzero,
      le-ltb max_area_toc_sectors p.toc_sectors s.sectors_few,
    )

nonzero : (n : ℕ) → not (eqb n 0) ≡ true → n ≢ 0
nonzero n e = eqb-false n 0 (not-true (eqb n 0) e)

served_is : (p : AreaPointer) → is_served p ≡ true → Served p
unfolding is_served is_used is_too_large
served_is p e =
    let all = (and-eq-true_iff (is_used p) (not (is_too_large p))).0 e in
    let used = (and-eq-true_iff (not (eqb p.toc1_lsn.0 0)) (not (eqb p.toc_sectors 0))).0 all.0 in
    record {
      toc1_nonzero = nonzero p.toc1_lsn.0 used.0;
      sectors_nonzero = nonzero p.toc_sectors used.1;
      sectors_few = served_few p e;
    }

served_false : (p : AreaPointer) → ¬ Served p → is_served p ≡ false
served_false p not-served = go (is_served p) refl
  where
    go : (b : Bool) → is_served p ≡ b → b ≡ false
    go true e = absurd (not-served (served_is p e))
    go false e = refl

second_true : (p : AreaPointer) → HasSecond p → has_second p ≡ true
unfolding has_second
second_true p h = rw (ne_eqb p.toc2_lsn.0 0 h)

second_is : (p : AreaPointer) → has_second p ≡ true → HasSecond p
unfolding has_second
second_is p e = nonzero p.toc2_lsn.0 e

-- ---- the copy that is chosen

-- where it is
unfoldable pub place_of : Copy → Place
place_of c = record { lsn = c.lsn; sectors = c.sectors }

module _ (s : Source) (p : AreaPointer) where
  pub chosen_first : Served p → (b : List ℕ) → run_of s p.toc1_lsn.0 p.toc_sectors ≡ some b
      → chosen s p ≡ some (record { lsn = p.toc1_lsn.0; sectors = p.toc_sectors; bytes = b })
  unfolding chosen chosen_of first_copy
  chosen_first h b e = rw (served_true p h, e)

  pub chosen_second : Served p → run_of s p.toc1_lsn.0 p.toc_sectors ≡ none
      → HasSecond p → (b : List ℕ) → run_of s p.toc2_lsn.0 p.toc_sectors ≡ some b
      → chosen s p ≡ some (record { lsn = p.toc2_lsn.0; sectors = p.toc_sectors; bytes = b })
  unfolding chosen chosen_of first_copy second_copy
  chosen_second h f n b e = rw (served_true p h, f, second_true p n, e)

  pub chosen_none : Served p → run_of s p.toc1_lsn.0 p.toc_sectors ≡ none
      → (HasSecond p → run_of s p.toc2_lsn.0 p.toc_sectors ≡ none) → chosen s p ≡ none
  unfolding chosen chosen_of first_copy second_copy
  chosen_none h f none-second = rw (served_true p h, f) (go (has_second p) refl)
    where
      go : (b : Bool) → has_second p ≡ b
          → chosen_of p none (only_if (has_second p) (run_of s p.toc2_lsn.0 p.toc_sectors)) ≡ none
      go true q = rw (q, none-second (second_is p q))
      go false q = rw q

  pub chosen_unserved : ¬ Served p → chosen s p ≡ none
  unfolding chosen chosen_of first_copy second_copy
  chosen_unserved h = rw (served_false p h)

  -- a named copy, with its bytes
  NamedThere : Copy → Type 0
  NamedThere c = Names p (place_of c) × (run_of s c.lsn c.sectors ≡ some c.bytes)

  is_first : Served p → (b : List ℕ) → run_of s p.toc1_lsn.0 p.toc_sectors ≡ some b
      → NamedThere (record { lsn = p.toc1_lsn.0; sectors = p.toc_sectors; bytes = b })
  unfolding NamedThere place_of first_place
  is_first h b e = (the_first h refl, e)

  is_second : Served p → HasSecond p → (b : List ℕ) → run_of s p.toc2_lsn.0 p.toc_sectors ≡ some b
      → NamedThere (record { lsn = p.toc2_lsn.0; sectors = p.toc_sectors; bytes = b })
  unfolding NamedThere place_of second_place
  is_second h n b e = (the_second h n refl, e)

  named_there : (c : Copy) → chosen s p ≡ some c → NamedThere c
  named_there c e = go (is_served p) refl
    where
      moved : (d : Copy) → NamedThere d → chosen s p ≡ some d → NamedThere c
      moved d n q = rw (some_eq (sym q ∙ e)) at n

      second : Served p → run_of s p.toc1_lsn.0 p.toc_sectors ≡ none → Dec (p.toc2_lsn.0 ≡ 0)
          → (x : Option (List ℕ)) → run_of s p.toc2_lsn.0 p.toc_sectors ≡ x → NamedThere c
      second h f (yes z) x q = absurd (no_some (chosen_none h f (λ n. absurd (n z))) e)
      second h f (no n) none q = absurd (no_some (chosen_none h f (λ m. q)) e)
      second h f (no n) (some b) q = moved _ (is_second h n b q) (chosen_second h f n b q)

      first : Served p → (x : Option (List ℕ)) → run_of s p.toc1_lsn.0 p.toc_sectors ≡ x → NamedThere c
      first h none q = second h q (ℕ_discrete p.toc2_lsn.0 0) (run_of s p.toc2_lsn.0 p.toc_sectors) refl
      first h (some b) q = moved _ (is_first h b q) (chosen_first h b q)

      go : (b : Bool) → is_served p ≡ b → NamedThere c
      go true q = first (served_is p q) (run_of s p.toc1_lsn.0 p.toc_sectors) refl
      go false q = absurd (no_some (chosen_unserved (λ h. true≢false (sym (served_true p h) ∙ q))) e)

  -- it is one that the pointers name, and is there
  pub chosen_named : (c : Copy) → chosen s p ≡ some c → Names p (place_of c)
  unfolding NamedThere
  chosen_named c e = (named_there c e).0

  pub chosen_there : (c : Copy) → chosen s p ≡ some c → run_of s c.lsn c.sectors ≡ some c.bytes
  unfolding NamedThere
  chosen_there c e = (named_there c e).1

pub names_served : {p : AreaPointer} {place : Place} → Names p place → Served p
names_served (the_first h e) = h
names_served (the_second h n e) = h

-- a named copy has as many sectors as the pointers say
pub names_sectors : {p : AreaPointer} {place : Place} → Names p place → place.sectors ≡ p.toc_sectors
unfolding first_place second_place
names_sectors (the_first h e) = ap (λ (q : Place). q.sectors) e
names_sectors (the_second h n e) = ap (λ (q : Place). q.sectors) e

-- ---- what a slot yields of a copy

unfoldable pub yielded_in : Slot → Option Copy → Option Yielded
yielded_in slot none = none
yielded_in slot (some c) = area_from slot (place_of c) c.bytes

module _ (slot : Slot) (c : Copy) where
  unfoldable pub whole_table : Area.Table
  whole_table = Area.table_of c.bytes (slot_number slot) c.sectors

  -- what a copy that is not skipped yields
  unfoldable pub kept_yield : Yielded
  kept_yield = record { area = addressed c.lsn (Area.area_given whole_table); tracks = Area.tracks_given whole_table; bytes = c.bytes }

  pub copy_tracks : tracks_in (table_in slot (some c)) ≡ Area.tracks_given whole_table
  unfolding tracks_in table_in whole_table
  copy_tracks = rw (area_of c.bytes (slot_number slot) c.lsn c.sectors) (address_tracks c.lsn _)

  module _ (kept : skip_of c.bytes ≡ 0) where
    kept_has : has_area (table_in slot (some c)) ≡ true
    unfolding has_area table_in
    kept_has = rw (area_yields c.bytes (slot_number slot) c.lsn c.sectors kept)

    pub kept_area : area_in (table_in slot (some c)) ≡ addressed c.lsn (Area.area_given whole_table)
    unfolding area_in table_in whole_table
    kept_area = rw (area_of c.bytes (slot_number slot) c.lsn c.sectors) (address_area c.bytes (slot_number slot) c.lsn c.sectors kept)

    pub kept_present : is_present (addressed c.lsn (Area.area_given whole_table)) ≡ true
    unfolding is_present whole_table
    kept_present =
        eq-eqb _ 1 (addressed_present c.lsn (Area.area_given whole_table) ∙ present_given c.bytes (slot_number slot) c.sectors kept)

    pub kept_is : yielded_in slot (some c) ≡ some kept_yield
    unfolding yielded_in area_from yielded_by place_of kept_yield whole_table
    kept_is = rw (area_yields c.bytes (slot_number slot) c.lsn c.sectors kept)

  module _ (skipped : skip_of c.bytes ≢ 0) where
    skipped_has : has_area (table_in slot (some c)) ≡ false
    unfolding has_area table_in
    skipped_has = rw (head_skips c.bytes (slot_number slot) c.lsn c.sectors skipped)

    pub skipped_area : area_in (table_in slot (some c)) ≡ no_area
    unfolding area_in table_in
    skipped_area = rw (area_of c.bytes (slot_number slot) c.lsn c.sectors) (address_no_area c.bytes (slot_number slot) c.lsn c.sectors skipped)

    pub skipped_is : yielded_in slot (some c) ≡ none
    unfolding yielded_in area_from yielded_by place_of
    skipped_is = rw (head_skips c.bytes (slot_number slot) c.lsn c.sectors skipped)

-- a slot has an area exactly when it yields
pub no_area_none : (slot : Slot) (x : Option Copy) → has_area (table_in slot x) ≡ false → yielded_in slot x ≡ none
unfolding yielded_in
no_area_none slot none e = refl
no_area_none slot (some c) e = go (ℕ_discrete (skip_of c.bytes) 0)
  where
    go : Dec (skip_of c.bytes ≡ 0) → yielded_in slot (some c) ≡ none
    go (yes kept) = absurd (true≢false (sym (kept_has slot c kept) ∙ e))
    go (no skipped) = skipped_is slot c skipped

pub area_some : (slot : Slot) (x : Option Copy) → has_area (table_in slot x) ≡ true → yielded_in slot x ≡ none → ⊥
unfolding has_area table_in
area_some slot none e q = true≢false (sym e)
area_some slot (some c) e q = go (ℕ_discrete (skip_of c.bytes) 0)
  where
    go : Dec (skip_of c.bytes ≡ 0) → ⊥
    go (yes kept) = no_some q (kept_is slot c kept)
    go (no skipped) = true≢false (sym e ∙ skipped_has slot c skipped)

-- what the rules give of a copy is what its table gives
given_area : (bytes : List ℕ) (t : Area.Table) (x : Yielded) → yielded_by bytes t ≡ some x → x.area ≡ Area.area_given t
unfolding yielded_by
given_area bytes (Area.skips warning) x e = absurd (no_some refl e)
given_area bytes (Area.yields area tracks warnings) x e = ap (λ (y : Yielded). y.area) (sym (some_eq e)) ∙ sym (yields_area area tracks warnings)

given_tracks : (bytes : List ℕ) (t : Area.Table) (x : Yielded) → yielded_by bytes t ≡ some x → x.tracks ≡ Area.tracks_given t
unfolding yielded_by
given_tracks bytes (Area.skips warning) x e = absurd (no_some refl e)
given_tracks bytes (Area.yields area tracks warnings) x e = ap (λ (y : Yielded). y.tracks) (sym (some_eq e)) ∙ sym (yields_tracks area tracks warnings)

-- .. so is what a slot yields of a copy
module _ (slot : Slot) (y : Yielded) where
  pub yielded_area : (x : Option Copy) → yielded_in slot x ≡ some y → y.area ≡ area_in (table_in slot x)
  unfolding yielded_in area_from place_of table_in area_in
  yielded_area none e = absurd (no_some refl e)
  yielded_area (some c) e = given_area c.bytes _ y e

  pub yielded_tracks : (x : Option Copy) → yielded_in slot x ≡ some y → y.tracks ≡ tracks_in (table_in slot x)
  unfolding yielded_in area_from place_of table_in tracks_in
  yielded_tracks none e = absurd (no_some refl e)
  yielded_tracks (some c) e = given_tracks c.bytes _ y e

-- ---- "Either signature serves either slot.": of two copies that differ in their signatures alone, each one of the two, the rules give an area
-- for both or for neither, with the same record but for the signature's number and the origin, and the same tracks; and both are warned of the
-- same, but for the slot, in whichever slot each is
module _ (a b : List ℕ) (same : SameBehind a b) (own : kind_of a ≢ 0) (other : kind_of b ≢ 0) (slot slot' : Slot) (place place' : Place) where
  pub either_serves : (area_from slot place a ≡ none) ↔ (area_from slot' place' b ≡ none)
  unfolding area_from yielded_by
  either_serves = go (ℕ_discrete (skip_of b) 0)
    where
      go : Dec (skip_of b ≡ 0) → (area_from slot place a ≡ none) ↔ (area_from slot' place' b ≡ none)
      go (yes kept) =
          rw (
            area_yields a (slot_number slot) place.lsn place.sectors (either_skips a b same own other ∙ kept),
            area_yields b (slot_number slot') place'.lsn place'.sectors kept,
          )
          (λ e. absurd (no_some e refl), λ e. absurd (no_some e refl))
      go (no skipped) =
          rw (
            head_skips a (slot_number slot) place.lsn place.sectors (λ e. skipped (sym (either_skips a b same own other) ∙ e)),
            head_skips b (slot_number slot') place'.lsn place'.sectors skipped,
          )
          (λ e. refl, λ e. refl)

  pub either_yields : (x y : Yielded) → area_from slot place a ≡ some x → area_from slot' place' b ≡ some y
      → (bare_area x.area ≡ bare_area y.area) × (x.tracks ≡ y.tracks)
  unfolding area_from
  either_yields x y e f =
      let own-table = Area.area_at a (slot_number slot) place.lsn place.sectors in
      let other-table = Area.area_at b (slot_number slot') place'.lsn place'.sectors in (
        ap bare_area (given_area a own-table x e)
            ∙ either_area a b same own other (slot_number slot) place.lsn place.sectors (slot_number slot') place'.lsn place'.sectors
            ∙ ap bare_area (sym (given_area b other-table y f)),
        given_tracks a own-table x e
            ∙ either_tracks a b same own other (slot_number slot) place.lsn place.sectors (slot_number slot') place'.lsn place'.sectors
            ∙ sym (given_tracks b other-table y f),
      )

  pub either_warned : map bare_warning (warnings_in (table_in slot (some (record { lsn = place.lsn; sectors = place.sectors; bytes = a }))))
      ≡ map bare_warning (warnings_in (table_in slot' (some (record { lsn = place'.lsn; sectors = place'.sectors; bytes = b }))))
  unfolding table_in warnings_in
  either_warned =
      either_warnings a b same own other (slot_number slot) place.lsn place.sectors (slot_number slot') place'.lsn place'.sectors
