-- Demand 3 on sources: what a reading of a cut source yields, of what the uncut source holds. A cut source has no more sectors, and holds in
-- the kept ones what the uncut source holds there; an image cut and rewritten is one (`Demand3Proof`). Assumes nothing.
use Rattle.std.specs.Prelude.{ℕ, ◌+◌, ◌≤◌, ◌<◌, List, ◌↔◌, ◌≡◌, length}
use Rattle.std.proofs.Math.Decide.{ℕ_discrete}
use Rattle.std.proofs.Common.{arith, ◌∙◌}
use Rattle.std.proofs.Math.Option.{Option, none, some}
use Rattle.std.proofs.Math.Path.{refl, sym, ap}
use Rattle.sectors.specs.OptionLaws.{some_eq, no_some}
use Rattle.sectors.specs.Options.{Known}
use Rattle.sectors.specs.Source.{Source, Sized, run_of}
use Rattle.sectors.proofs.SourceLaws.{run_parts, run_kept, run_known, run_of_length}
use Rattle.area.specs.Area.{addressed}
use Rattle.area.specs.Refusal.{no_audio_areas}
use Rattle.area.specs.Skip.{skip_of}
use Rattle.area.specs.Table as Area
use Rattle.area.proofs.TableLaws.{head_skips, area_yields, addressed_again}
use Rattle.disc.specs.Slot.{Slot, two_channel, multichannel, slot_number}
use Rattle.disc.specs.Master.{master_lsn, master_sectors, master_bytes, pointer_of, master_of}
use Rattle.disc.specs.Copies.{Copy, chosen}
use Rattle.disc.specs.Outcome.{Memory, Outcome, Yielded, slot_yields}
use Rattle.disc.specs.Disc.{read_source}
use Rattle.disc.specs.Demand3.{Place, Served, HasSecond, Names, the_first, the_second, first_place, second_place, EqualButAddress, yielded_by, area_from}
use Rattle.disc.specs.ChosenLaws.{place_of, chosen_first, chosen_second, chosen_none, chosen_unserved, chosen_named, chosen_there, names_sectors, yielded_in}
use Rattle.disc.specs.DiscLaws.{slot_yields_lem, master_back, silent_when, Passed, passed_read}
use Rattle.disc.specs.declared.master.AreaPointer.{AreaPointer}

-- ---- a copy that is moved: its area's record has the other address

module _ (slot : Slot) (bytes : List ℕ) (lsn lsn' sectors : ℕ) (x : Yielded)
    (given-x : area_from slot (record { lsn = lsn; sectors = sectors }) bytes ≡ some x) where
  record Moved : Type 0 where
    y : Yielded
    given_y : area_from slot (record { lsn = lsn'; sectors = sectors }) bytes ≡ some y
    equal : EqualButAddress x y

  moved_kept : skip_of bytes ≡ 0 → Moved
  unfolding area_from yielded_by
  moved_kept kept =
      let table = Area.table_of bytes (slot_number slot) sectors in
      let area = Area.area_given table in
      let at-lsn = area_yields bytes (slot_number slot) lsn sectors kept in
      let at-lsn' = area_yields bytes (slot_number slot) lsn' sectors kept in
      let is : record { area = addressed lsn area; tracks = Area.tracks_given table; bytes = bytes } ≡ x = some_eq (rw at-lsn at given-x) in
      record {
        y = record { area = addressed lsn' area; tracks = Area.tracks_given table; bytes = bytes };
        given_y = ap (yielded_by bytes) at-lsn';
        equal = record {
          same_record = ap (λ (a : Yielded). addressed 0 a.area) (sym is) ∙ addressed_again 0 lsn area ∙ sym (addressed_again 0 lsn' area);
          same_tracks = ap (λ (a : Yielded). a.tracks) (sym is);
          same_bytes = ap (λ (a : Yielded). a.bytes) (sym is);
        };
      }

  moved : Moved
  unfolding area_from yielded_by
  moved = go (ℕ_discrete (skip_of bytes) 0)
    where
      go : Dec (skip_of bytes ≡ 0) → Moved
      go (yes kept) = moved_kept kept
      go (no skipped) = absurd (no_some (ap (yielded_by bytes) (head_skips bytes (slot_number slot) lsn sectors skipped)) given-x)

-- ---- some copy is chosen where a named one is there
chosen_some : (s : Source) (p : AreaPointer) {place : Place} → Names p place → (b : List ℕ) → run_of s place.lsn place.sectors ≡ some b → Known (chosen s p)
unfolding first_place second_place
chosen_some s p (the_first h q) b e = (_, chosen_first s p h b (ap (λ (x : Place). run_of s x.lsn x.sectors) (sym q) ∙ e))
chosen_some s p (the_second h n q) b e = go (run_of s p.toc1_lsn.0 p.toc_sectors) refl
  where
    go : (x : Option (List ℕ)) → run_of s p.toc1_lsn.0 p.toc_sectors ≡ x → Known (chosen s p)
    go none r = (_, chosen_second s p h r n b (ap (λ (x : Place). run_of s x.lsn x.sectors) (sym q) ∙ e))
    go (some d) r = (_, chosen_first s p h d r)

-- ---- a cut source

pub record CutOf (uncut cut : Source) : Type 0 where
  pub no_longer : cut.count ≤ uncut.count
  pub none_new : (n : ℕ) (d : List ℕ) → cut.at n ≡ some d → Known (uncut.at n)
  pub master_kept : (n : ℕ) (d : List ℕ) → master_lsn ≤ n → n < master_lsn + master_sectors → cut.at n ≡ some d → uncut.at n ≡ some d
  pub copies_kept : (table : List ℕ) → run_of uncut master_lsn master_sectors ≡ some table
      → (slot : Slot) (place : Place) → Names (pointer_of table slot) place → Known (run_of uncut place.lsn place.sectors)
      → (n : ℕ) (d : List ℕ) → place.lsn ≤ n → n < place.lsn + place.sectors → cut.at n ≡ some d → uncut.at n ≡ some d

module _ (U W : Source) (k : CutOf U W) where
  fits : (lsn n : ℕ) (b : List ℕ) → run_of W lsn n ≡ some b → lsn + n ≤ U.count
  fits lsn n b e = let within = (run_parts W lsn n b e).0 in let l = k.no_longer in omega arith

  -- the table is the uncut source's
  pub same_table : (table : List ℕ) → run_of W master_lsn master_sectors ≡ some table → run_of U master_lsn master_sectors ≡ some table
  same_table table e =
      run_kept W U master_lsn master_sectors (fits master_lsn master_sectors table e) (λ n d l h q. k.master_kept n d l h q) table e

  -- so is each named copy that is there
  same_copy : (table : List ℕ) → run_of W master_lsn master_sectors ≡ some table
      → (slot : Slot) (place : Place) → Names (pointer_of table slot) place
      → (b : List ℕ) → run_of W place.lsn place.sectors ≡ some b → run_of U place.lsn place.sectors ≡ some b
  same_copy table t slot place named b e =
      let inside = fits place.lsn place.sectors b e in
      let known = run_known W U place.lsn place.sectors inside (λ n d l h q. k.none_new n d q) b e in
      run_kept W U place.lsn place.sectors inside (λ n d l h q. k.copies_kept table (same_table table t) slot place named known n d l h q) b e

-- ---- the clauses on sources

-- what a reading that none of refusals 1 to 5 ends hands back
pub record SourceHolds (uncut cut : Source) (table : List ℕ) (outcome : Outcome) : Type 0 where
  pub s_master : outcome.answer.master ≡ master_of table
  pub s_first : (slot : Slot) → Served (pointer_of table slot)
      → (b : List ℕ) → run_of cut (first_place (pointer_of table slot)).lsn (first_place (pointer_of table slot)).sectors ≡ some b
      → (run_of uncut (first_place (pointer_of table slot)).lsn (first_place (pointer_of table slot)).sectors ≡ some b)
      × (slot_yields outcome slot ≡ area_from slot (first_place (pointer_of table slot)) b)
  pub s_second : (slot : Slot) → Served (pointer_of table slot)
      → run_of cut (first_place (pointer_of table slot)).lsn (first_place (pointer_of table slot)).sectors ≡ none → HasSecond (pointer_of table slot)
      → (b : List ℕ) → run_of cut (second_place (pointer_of table slot)).lsn (second_place (pointer_of table slot)).sectors ≡ some b
      → (run_of uncut (second_place (pointer_of table slot)).lsn (second_place (pointer_of table slot)).sectors ≡ some b)
      × (slot_yields outcome slot ≡ area_from slot (second_place (pointer_of table slot)) b)
  pub s_none : (slot : Slot) → Served (pointer_of table slot)
      → run_of cut (first_place (pointer_of table slot)).lsn (first_place (pointer_of table slot)).sectors ≡ none
      → (HasSecond (pointer_of table slot) → run_of cut (second_place (pointer_of table slot)).lsn (second_place (pointer_of table slot)).sectors ≡ none)
      → slot_yields outcome slot ≡ none
  pub s_other : (slot : Slot) → ¬ Served (pointer_of table slot) → slot_yields outcome slot ≡ none
  pub s_silent : (outcome.answer.refusal ≡ no_audio_areas) ↔ ((slot_yields outcome two_channel ≡ none) × (slot_yields outcome multichannel ≡ none))

-- an area that comes out is what the rules make of a named copy of the uncut source
pub record SourceGave (uncut : Source) (table : List ℕ) (slot : Slot) (a : Yielded) : Type 0 where
  pub place : Place
  pub bytes : List ℕ
  pub named : Names (pointer_of table slot) place
  pub there : run_of uncut place.lsn place.sectors ≡ some bytes
  pub gives : area_from slot place bytes ≡ some a

-- a reading that passes the checks
module _ (W : Source) (z : Sized W) (format : ℕ) (m : Memory) (table : List ℕ) (p : Passed W m table) where
  long : length table ≡ master_bytes
  long = run_of_length W z master_lsn master_sectors table p.there

  pub passed_yields : (slot : Slot) → slot_yields (read_source W format m) slot ≡ yielded_in slot (chosen W (pointer_of table slot))
  passed_yields slot = rw (passed_read W format m table p) (slot_yields_lem W z table long m p.room format slot)

  -- a slot yields of its chosen copy
  by_chosen : (slot : Slot) (x : Option Copy) → chosen W (pointer_of table slot) ≡ x → slot_yields (read_source W format m) slot ≡ yielded_in slot x
  by_chosen slot x e = passed_yields slot ∙ ap (yielded_in slot) e

  module _ (U : Source) (k : CutOf U W) where
    pub source_holds : SourceHolds U W table (read_source W format m)
    unfolding yielded_in place_of first_place second_place
    source_holds = record {
      s_master = rw (passed_read W format m table p) (master_back W table format m);
      s_first = λ slot h b e. (
        same_copy U W k table p.there slot (first_place (pointer_of table slot)) (the_first h refl) b e,
        by_chosen slot _ (chosen_first W (pointer_of table slot) h b e),
      );
      s_second = λ slot h f n b e. (
        same_copy U W k table p.there slot (second_place (pointer_of table slot)) (the_second h n refl) b e,
        by_chosen slot _ (chosen_second W (pointer_of table slot) h f n b e),
      );
      s_none = λ slot h f g. by_chosen slot none (chosen_none W (pointer_of table slot) h f g);
      s_other = λ slot h. by_chosen slot none (chosen_unserved W (pointer_of table slot) h);
      s_silent = rw (passed_read W format m table p) (silent_when W z table long m p.room format);
    }

    pub source_gave : (slot : Slot) (a : Yielded) → slot_yields (read_source W format m) slot ≡ some a → SourceGave U table slot a
    unfolding yielded_in place_of
    source_gave slot a e = go (chosen W (pointer_of table slot)) refl
      where
        go : (x : Option Copy) → chosen W (pointer_of table slot) ≡ x → SourceGave U table slot a
        go none q = absurd (no_some (by_chosen slot none q) e)
        go (some c) q =
            let named = chosen_named W (pointer_of table slot) c q in
            record {
              place = place_of c;
              bytes = c.bytes;
              named = named;
              there = same_copy U W k table p.there slot (place_of c) named c.bytes (chosen_there W (pointer_of table slot) c q);
              gives = sym (by_chosen slot (some c) q) ∙ e;
            }

-- ---- two cuts of one uncut source; the second lacks no sector that the first has

module _ (U W W' : Source) (k : CutOf U W) (k' : CutOf U W') (z : Sized W) (z' : Sized W') (no_fewer : W.count ≤ W'.count)
    (more : (n : ℕ) (d : List ℕ) → W.at n ≡ some d → Known (W'.at n))
    (format : ℕ) (m m' : Memory) (table : List ℕ) (p : Passed W m table) (p' : Passed W' m' table) where
  -- a named copy's bytes, where both copies have the same
  named_bytes : (pointer : AreaPointer) (bytes : List ℕ)
      → run_of U (first_place pointer).lsn (first_place pointer).sectors ≡ some bytes
      → run_of U (second_place pointer).lsn (second_place pointer).sectors ≡ some bytes
      → {place : Place} → Names pointer place → (b : List ℕ) → run_of U place.lsn place.sectors ≡ some b → b ≡ bytes
  named_bytes pointer bytes e₁ e₂ (the_first h q) b e = some_eq (sym e ∙ ap (λ (x : Place). run_of U x.lsn x.sectors) q ∙ e₁)
  named_bytes pointer bytes e₁ e₂ (the_second h n q) b e = some_eq (sym e ∙ ap (λ (x : Place). run_of U x.lsn x.sectors) q ∙ e₂)

  -- an area of the first comes from the second, of a copy that may be the other
  pub source_again : (slot : Slot) (bytes : List ℕ)
      → run_of U (first_place (pointer_of table slot)).lsn (first_place (pointer_of table slot)).sectors ≡ some bytes
      → run_of U (second_place (pointer_of table slot)).lsn (second_place (pointer_of table slot)).sectors ≡ some bytes
      → (x : Yielded) → slot_yields (read_source W format m) slot ≡ some x
      → (y : Yielded) × (slot_yields (read_source W' format m') slot ≡ some y) × EqualButAddress x y
  unfolding yielded_in place_of
  source_again slot bytes e₁ e₂ x e = go (chosen W (pointer_of table slot)) refl
    where
      pointer : AreaPointer
      pointer = pointer_of table slot

      -- the copies' bytes are those of the uncut source's two
      bytes_of : (c : Copy) → chosen W pointer ≡ some c → c.bytes ≡ bytes
      bytes_of c q =
          let named = chosen_named W pointer c q in
          named_bytes pointer bytes e₁ e₂ named c.bytes (same_copy U W k table p.there slot (place_of c) named c.bytes (chosen_there W pointer c q))

      bytes_of' : (c : Copy) → chosen W' pointer ≡ some c → c.bytes ≡ bytes
      bytes_of' c q =
          let named = chosen_named W' pointer c q in
          named_bytes pointer bytes e₁ e₂ named c.bytes (same_copy U W' k' table p'.there slot (place_of c) named c.bytes (chosen_there W' pointer c q))

      again : (c c' : Copy) → chosen W pointer ≡ some c → chosen W' pointer ≡ some c'
          → (y : Yielded) × (slot_yields (read_source W' format m') slot ≡ some y) × EqualButAddress x y
      again c c' q q' =
          let same : c.bytes ≡ c'.bytes = bytes_of c q ∙ sym (bytes_of' c' q') in
          let as_many : c.sectors ≡ c'.sectors = names_sectors (chosen_named W pointer c q) ∙ sym (names_sectors (chosen_named W' pointer c' q')) in
          let from : area_from slot (record { lsn = c.lsn; sectors = c.sectors }) c.bytes ≡ some x = sym (by_chosen W z format m table p slot (some c) q) ∙ e in
          let to = moved slot c.bytes c.lsn c'.lsn c.sectors x from in (
            to.y,
            by_chosen W' z' format m' table p' slot (some c') q'
                ∙ sym (λ i. area_from slot (record { lsn = c'.lsn; sectors = as_many i }) (same i))
                ∙ to.given_y,
            to.equal,
          )

      go : (v : Option Copy) → chosen W pointer ≡ v → (y : Yielded) × (slot_yields (read_source W' format m') slot ≡ some y) × EqualButAddress x y
      go none q = absurd (no_some (by_chosen W z format m table p slot none q) e)
      go (some c) q =
          let there = chosen_there W pointer c q in
          let within = (run_parts W c.lsn c.sectors c.bytes there).0 in
          let known = run_known W W' c.lsn c.sectors (omega arith) (λ n d l h r. more n d r) c.bytes there in
          let found = chosen_some W' pointer (chosen_named W pointer c q) known.0 known.1 in
          again c found.0 q found.1
