-- Laws of what a table gives: how many tracks and warnings, where the sector count and the address stand, and what a head leads to.
-- Assumes nothing.
use Rattle.std.specs.Prelude.{◌≡◌, Bool, cond, not, ◌⊎◌, get_or, Option, None, Some, option_map, option_to_list}
use Rattle.std.proofs.Math.Path.{refl, sym, ap, subst}
use Rattle.std.proofs.Common.{◌∙◌, inl, inr, arith, suc-mul, lt-ltb, eq-eqb, ne_eqb, eqb-true}
use Rattle.std.proofs.Math.Bool.{true, false}
use mathlib.Core.List.{List, [], ◌∷◌, ◌++◌, map, flat_map, Memᴰ}
use Prim.Native.Nat.{ℕ, ◌+◌, ◌*◌, ◌≤◌, ◌<◌, min}
use Rattle.std.proofs.Math.Dec.{eqb}
use Rattle.std.proofs.Math.ListN.{length, length-append, length-map}
use Rattle.std.proofs.lemmas.Bool.{eqb-false}
use Rattle.sectors.specs.Number.{be_at}
use Rattle.sectors.specs.NumberLaws.{be_below}
use Rattle.area.specs.Tabulate.{tabulate}
use Rattle.area.specs.TabulateLaws.{length_tabulate, tabulate_ext, tabulate_at, map_tabulate}
use Rattle.area.specs.Lent.{when_true}
use Rattle.area.specs.Limits.{max_tracks, max_head_warnings, max_track_warnings, table_bytes}
use Rattle.area.specs.Chain.{chain_of}
use Rattle.area.specs.Area.{track_count_offset, record_of, addressed, no_area}
use Rattle.area.specs.Skip.{skip_of}
use Rattle.area.specs.Track.{track_of, no_track}
use Rattle.area.proofs.TrackLaws.{track_number}
use Rattle.area.specs.Warning.{number_of, track_past_playtime, track_lsn_outside_area, sample_frequency_unknown, track_text_unterminated}
use Rattle.area.specs.TextPlaces.{any_unterminated}
use Rattle.area.specs.Table.{Table, skips, yields, of_slot, dsd64, of_track, frequency_warnings, text_warnings, track_warnings, reads_of, tracks_of, tracks_warnings, yield_of, table_of, with_address, area_at, area_given, tracks_given, warnings_of, head_of, no_head, head_warnings, track_count, read_in, reads_in, tracks_in, warnings_in}
use Rattle.area.specs.declared.area.Area.{Area}
use Rattle.area.specs.declared.chain.Chain.{Chain}
use Rattle.area.specs.declared.table.TableHead.{TableHead}
use Rattle.area.specs.declared.track.Track.{Track}
use Rattle.area.specs.declared.track.TrackRead.{TrackRead}
use Rattle.area.specs.declared.warning.Warning.{Warning}
use Rattle.area.specs.declared.warning.WarningCode.{WarningCode}

when_few : {A : Type 0} (t : Bool) (x : A) → length (when_true t x) ≤ 1
unfolding when_true
when_few true x = omega arith
when_few false x = omega arith

pub head_warnings_few : (slot : ℕ) (head : TableHead) → length (head_warnings slot head) ≤ max_head_warnings
unfolding head_warnings frequency_warnings
head_warnings_few slot head = go (eqb head.skip 0)
  where
    go : (t : Bool) → length (cond t (frequency_warnings slot head.area) (of_slot head.skip slot ∷ [])) ≤ max_head_warnings
    go true = when_few (not (eqb head.area.sample_frequency_code dsd64)) (of_slot sample_frequency_unknown slot)
    go false = omega arith

some_few : {A : Type 0} (o : Option A) → length (option_to_list o) ≤ 1
some_few (Some x) = omega arith
some_few None = omega arith

four_few : {A : Type 0} (xs ys zs ws : List A) → length xs ≤ 1 → length ys ≤ 1 → length zs ≤ 1 → length ws ≤ 1
    → length (xs ++ ys ++ zs ++ ws) ≤ max_track_warnings
four_few xs ys zs ws p q r s =
    let l = length-append (xs ++ ys ++ zs) ws in let m = length-append (xs ++ ys) zs in let n = length-append xs ys in omega arith

pub track_warnings_few : (slot : ℕ) (read : TrackRead) → length (track_warnings slot read) ≤ max_track_warnings
unfolding track_warnings text_warnings
track_warnings_few slot read =
    four_few _ _ _ _ (when_few read.past_playtime (of_track track_past_playtime slot read)) (when_few read.outside_area (of_track track_lsn_outside_area slot read))
    (some_few (option_map (λ (code : WarningCode). of_track (number_of code) slot read) read.text_warning))
    (when_few (any_unterminated read.track.text) (of_track track_text_unterminated slot read))

-- lists of so many entries at most, one after another
pub flat_few : {A B : Type 0} (f : A → List B) (n : ℕ) (xs : List A) → ((x : A) → Memᴰ x xs → length (f x) ≤ n) → length (flat_map f xs) ≤ length xs * n
unfolding flat_map
flat_few f n [] few = let e : length (flat_map f []) ≡ 0 = refl in omega (arith, e)
flat_few f n (x ∷ xs) few =
    let e : length (flat_map f (x ∷ xs)) ≡ length (f x) + length (flat_map f xs) = length-append (f x) (flat_map f xs) in
    let rest = flat_few f n xs (λ y m. few y (Memᴰ.tail m)) in let first = few x (Memᴰ.head refl) in
    rw suc-mul (omega (arith, e))

pub tracks_warnings_few : (slot : ℕ) (reads : List TrackRead) → length (tracks_warnings slot reads) ≤ length reads * max_track_warnings
unfolding tracks_warnings
tracks_warnings_few slot reads = flat_few (track_warnings slot) max_track_warnings reads (λ read m. track_warnings_few slot read)

-- ---- a head leads to its table's tracks
module _ (lent table : List ℕ) (head : TableHead) (area : Area) (chain : Chain) (its : head.area ≡ area) (kept : head.chain ≡ chain)
    (whole : table_bytes area.origin.toc_sectors lent ≡ table) where
  pub reads_by_head : reads_in lent head ≡ reads_of table area chain
  unfolding reads_in reads_of read_in track_count
  reads_by_head =
      tabulate_ext (track_count head) (read_in lent head) (track_of (table_bytes head.area.origin.toc_sectors lent) head.area head.chain)
      (λ i below. simp (lt-ltb i (track_count head) below))
      ∙ (λ j. tabulate (min (its j).track_count max_tracks) (track_of (table_bytes (its j).origin.toc_sectors lent) (its j) (kept j)))
      ∙ ap (λ (t : List ℕ). tabulate (min area.track_count max_tracks) (track_of t area chain)) whole

-- an area's address does not matter to its tracks
reads_addressed : (table : List ℕ) (lsn : ℕ) (area : Area) (chain : Chain) → reads_of table (addressed lsn area) chain ≡ reads_of table area chain
unfolding reads_of track_of addressed
reads_addressed table lsn area chain = refl

-- ---- what a table yields, by its head
module _ (lent table : List ℕ) (slot lsn sectors : ℕ) (whole : table_bytes sectors lent ≡ table) (kept : skip_of table ≡ 0) where
  head_area : (head_of table slot lsn sectors).area ≡ addressed lsn (record_of table slot sectors)
  unfolding head_of
  head_area = simp (eq-eqb (skip_of table) 0 kept)

  head_chain : (head_of table slot lsn sectors).chain ≡ chain_of table
  unfolding head_of
  head_chain = refl

  reads_yielded : reads_in lent (head_of table slot lsn sectors) ≡ reads_of table (record_of table slot sectors) (chain_of table)
  unfolding addressed record_of
  reads_yielded =
      reads_by_head lent table (head_of table slot lsn sectors) (addressed lsn (record_of table slot sectors)) (chain_of table) head_area head_chain whole
      ∙ reads_addressed table lsn (record_of table slot sectors) (chain_of table)

  head_slot : (head_of table slot lsn sectors).area.origin.slot ≡ slot
  unfolding addressed record_of
  head_slot = ap (λ (a : Area). a.origin.slot) head_area

  head_warned : head_warnings slot (head_of table slot lsn sectors) ≡ frequency_warnings slot (record_of table slot sectors)
  unfolding head_of head_warnings frequency_warnings addressed
  head_warned = simp (eq-eqb (skip_of table) 0 kept)

  pub head_yields : area_at table slot lsn sectors
      ≡ yields (head_of table slot lsn sectors).area (tracks_in lent (head_of table slot lsn sectors))
      (head_warnings slot (head_of table slot lsn sectors) ++ warnings_in lent (head_of table slot lsn sectors))
  unfolding area_at table_of yield_of with_address tracks_in warnings_in
  head_yields =
      rw (eq-eqb (skip_of table) 0 kept)
      (sym (λ i. yields (head_area i) (tracks_of (reads_yielded i)) (head_warned i ++ tracks_warnings (head_slot i) (reads_yielded i))))

module _ (table : List ℕ) (slot lsn sectors : ℕ) (skipped : skip_of table ≡ 0 → ⊥) where
  pub head_skips : area_at table slot lsn sectors ≡ skips (of_slot (skip_of table) slot)
  unfolding area_at table_of with_address
  head_skips = simp (ne_eqb (skip_of table) 0 skipped)

  pub head_skip_warned : head_warnings slot (head_of table slot lsn sectors) ≡ of_slot (skip_of table) slot ∷ []
  unfolding head_of head_warnings
  head_skip_warned = simp (ne_eqb (skip_of table) 0 skipped)

  pub head_skip_area : (head_of table slot lsn sectors).area ≡ no_area
  unfolding head_of
  head_skip_area = simp (ne_eqb (skip_of table) 0 skipped)

-- a head without an area leads to no track
module _ (lent : List ℕ) (head : TableHead) (none : head.area ≡ no_area) where
  reads_none : reads_in lent head ≡ []
  unfolding reads_in track_count no_area tabulate
  reads_none = ap (λ (a : Area). tabulate (min a.track_count max_tracks) (read_in lent head)) none

  pub tracks_none : tracks_in lent head ≡ []
  unfolding tracks_in tracks_of
  tracks_none = ap tracks_of reads_none

  pub warnings_none : warnings_in lent head ≡ []
  unfolding warnings_in tracks_warnings flat_map
  warnings_none = ap (tracks_warnings head.area.origin.slot) reads_none

-- ---- what a table gives is what its head leads to
module _ (lent table : List ℕ) (slot lsn sectors : ℕ) (whole : table_bytes sectors lent ≡ table) where
  given_by_head : (skip_of table ≡ 0 → ⊥) ⊎ (skip_of table ≡ 0) → (area_given (area_at table slot lsn sectors) ≡ (head_of table slot lsn sectors).area)
      × ((tracks_given (area_at table slot lsn sectors) ≡ tracks_in lent (head_of table slot lsn sectors))
      × (warnings_of (area_at table slot lsn sectors) ≡ head_warnings slot (head_of table slot lsn sectors) ++ warnings_in lent (head_of table slot lsn sectors)))
  unfolding area_given tracks_given warnings_of
  given_by_head (inr kept) =
      let e = head_yields lent table slot lsn sectors whole kept in (ap area_given e, (ap tracks_given e, ap warnings_of e))
  given_by_head (inl skipped) =
      let e = head_skips table slot lsn sectors skipped in let none = head_skip_area table slot lsn sectors skipped in
      let head = head_of table slot lsn sectors in (
        ap area_given e ∙ sym none,
        (
          ap tracks_given e ∙ sym (tracks_none lent head none),
          ap warnings_of e ∙ sym (λ i. head_skip_warned table slot lsn sectors skipped i ++ warnings_none lent head none i),
        ),
      )

  skipped_or_kept : (skip_of table ≡ 0 → ⊥) ⊎ (skip_of table ≡ 0)
  skipped_or_kept = go (eqb (skip_of table) 0) refl
    where
      go : (t : Bool) → eqb (skip_of table) 0 ≡ t → (skip_of table ≡ 0 → ⊥) ⊎ (skip_of table ≡ 0)
      go true e = inr (eqb-true (skip_of table) 0 e)
      go false e = inl (eqb-false (skip_of table) 0 e)

  pub head_gives_area : area_given (area_at table slot lsn sectors) ≡ (head_of table slot lsn sectors).area
  head_gives_area = (given_by_head skipped_or_kept).0

  pub head_gives_tracks : tracks_given (area_at table slot lsn sectors) ≡ tracks_in lent (head_of table slot lsn sectors)
  head_gives_tracks = (given_by_head skipped_or_kept).1.0

  pub head_gives_warnings : warnings_of (area_at table slot lsn sectors)
      ≡ head_warnings slot (head_of table slot lsn sectors) ++ warnings_in lent (head_of table slot lsn sectors)
  head_gives_warnings = (given_by_head skipped_or_kept).1.1

  pub head_present : skip_of table ≡ 0 → (head_of table slot lsn sectors).area.present ≡ 1
  unfolding addressed record_of
  head_present kept = ap (λ (a : Area). a.present) (head_area lent table slot lsn sectors whole kept)

pub no_head_area : no_head.area ≡ no_area
unfolding no_head
no_head_area = refl

-- ---- how many there are
pub track_count_few : (head : TableHead) → track_count head ≤ max_tracks
unfolding track_count
track_count_few head = omega arith

pub tracks_few : (lent : List ℕ) (head : TableHead) → length (tracks_in lent head) ≤ max_tracks
unfolding tracks_in tracks_of reads_in track_count
tracks_few lent head =
    let m = length-map (reads_in lent head) (λ (read : TrackRead). read.track) in let n = length_tabulate (track_count head) (read_in lent head) in omega arith

pub warnings_few : (lent : List ℕ) (head : TableHead) → length (warnings_in lent head) ≤ max_tracks * max_track_warnings
unfolding warnings_in reads_in track_count
warnings_few lent head =
    let m = tracks_warnings_few head.area.origin.slot (reads_in lent head) in let n = length_tabulate (track_count head) (read_in lent head) in omega arith

-- ---- tracks and warnings by a head, spelled out
module _ (lent : List ℕ) (head : TableHead) where
  pub tracks_in_lem : tracks_in lent head ≡ map (λ (read : TrackRead). read.track) (tabulate (track_count head) (read_in lent head))
  unfolding tracks_in tracks_of reads_in
  tracks_in_lem = refl

  pub warnings_in_lem : warnings_in lent head ≡ flat_map (track_warnings head.area.origin.slot) (tabulate (track_count head) (read_in lent head))
  unfolding warnings_in tracks_warnings reads_in
  warnings_in_lem = refl

-- ---- what a table yields, for the layer above
module _ (table : List ℕ) (slot sectors : ℕ) where
  -- a property of what a table gives holds if it holds of both cases
  pub by_skip : (P : Table → Type 0) → ((skip_of table ≡ 0 → ⊥) → P (skips (of_slot (skip_of table) slot)))
      → (skip_of table ≡ 0 → P (yield_of slot (record_of table slot sectors) (reads_of table (record_of table slot sectors) (chain_of table)))) → P (table_of table slot sectors)
  unfolding table_of
  by_skip P skipped kept = go (eqb (skip_of table) 0) refl
    where
      go : (t : Bool) → eqb (skip_of table) 0 ≡ t
          → P (cond t (yield_of slot (record_of table slot sectors) (reads_of table (record_of table slot sectors) (chain_of table))) (skips (of_slot (skip_of table) slot)))
      go true e = kept (eqb-true (skip_of table) 0 e)
      go false e = skipped (eqb-false (skip_of table) 0 e)

  reads_length : length (reads_of table (record_of table slot sectors) (chain_of table)) ≡ min (be_at table 69 1) max_tracks
  unfolding reads_of record_of
  reads_length = length_tabulate (min (be_at table 69 1) max_tracks) (track_of table (record_of table slot sectors) (chain_of table))

  -- the record's track count is the number of tracks, in a table of bytes
  pub count_is : ((i : ℕ) → get_or table i 0 < 256) → (area_given (table_of table slot sectors)).track_count ≡ length (tracks_given (table_of table slot sectors))
  unfolding area_given tracks_given yield_of tracks_of no_area record_of
  count_is bytes =
      let small = be_below 1 table 69 bytes in
      by_skip (λ t. (area_given t).track_count ≡ length (tracks_given t)) (λ skipped. refl)
      (λ kept. let n = reads_length in let m = length-map (reads_of table (record_of table slot sectors) (chain_of table)) (λ (read : TrackRead). read.track) in omega arith)

  -- .. in any table, if a count above 255 counts as 255
  pub tracks_count : length (tracks_given (table_of table slot sectors)) ≡ min (area_given (table_of table slot sectors)).track_count max_tracks
  unfolding area_given tracks_given yield_of tracks_of no_area record_of
  tracks_count =
      by_skip (λ t. length (tracks_given t) ≡ min (area_given t).track_count max_tracks) (λ skipped. refl)
      (λ kept. let n = reads_length in let m = length-map (reads_of table (record_of table slot sectors) (chain_of table)) (λ (read : TrackRead). read.track) in omega arith)

  pub tracks_most : length (tracks_given (table_of table slot sectors)) ≤ max_tracks
  unfolding tracks_given yield_of tracks_of
  tracks_most =
      by_skip (λ t. length (tracks_given t) ≤ max_tracks) (λ skipped. omega arith)
      (λ kept. let n = reads_length in let m = length-map (reads_of table (record_of table slot sectors) (chain_of table)) (λ (read : TrackRead). read.track) in omega arith)

  pub warnings_most : length (warnings_of (table_of table slot sectors)) ≤ max_head_warnings + max_tracks * max_track_warnings
  unfolding warnings_of yield_of frequency_warnings
  warnings_most =
      by_skip (λ t. length (warnings_of t) ≤ max_head_warnings + max_tracks * max_track_warnings) (λ skipped. omega arith)
      (λ kept.
      let reads = reads_of table (record_of table slot sectors) (chain_of table) in
      let frequency = when_true (not (eqb (record_of table slot sectors).sample_frequency_code dsd64)) (of_slot sample_frequency_unknown slot) in
      let n = reads_length in let m = length-append frequency (tracks_warnings slot reads) in
      let p = when_few (not (eqb (record_of table slot sectors).sample_frequency_code dsd64)) (of_slot sample_frequency_unknown slot) in
      let q = tracks_warnings_few slot reads in omega arith)

  -- tracks are numbered from 1
  pub tracks_numbered : (i : ℕ) → i < length (tracks_given (table_of table slot sectors)) → (get_or (tracks_given (table_of table slot sectors)) i no_track).number ≡ i + 1
  unfolding tracks_given yield_of tracks_of reads_of
  tracks_numbered i =
      by_skip (λ t. i < length (tracks_given t) → (get_or (tracks_given t) i no_track).number ≡ i + 1) (λ skipped below. absurd (omega arith))
      (λ kept below.
      let area = record_of table slot sectors in let n = min area.track_count max_tracks in let f = track_of table area (chain_of table) in
      let all = map_tabulate (λ (read : TrackRead). read.track) n f in
      let few = ap length all ∙ length_tabulate n (λ k. (f k).track) in
      ap (λ (l : List Track). (get_or l i no_track).number) all
      ∙ ap (λ (t : Track). t.number) (tabulate_at n (λ k. (f k).track) i no_track (omega arith))
      ∙ track_number table area (chain_of table) i)

  -- the track count is byte 69
  pub count_given : skip_of table ≡ 0 → (area_given (table_of table slot sectors)).track_count ≡ be_at table track_count_offset 1
  unfolding area_given yield_of record_of table_of
  count_given kept = simp (eq-eqb (skip_of table) 0 kept)

  -- the sector count and the slot are those given
  pub sectors_given : skip_of table ≡ 0 → (area_given (table_of table slot sectors)).origin.toc_sectors ≡ sectors
  unfolding area_given yield_of record_of table_of
  sectors_given kept = simp (eq-eqb (skip_of table) 0 kept)

  pub slot_given : skip_of table ≡ 0 → (area_given (table_of table slot sectors)).origin.slot ≡ slot
  unfolding area_given yield_of record_of table_of
  slot_given kept = simp (eq-eqb (skip_of table) 0 kept)

  pub present_given : skip_of table ≡ 0 → (area_given (table_of table slot sectors)).present ≡ 1
  unfolding area_given yield_of record_of table_of
  present_given kept = simp (eq-eqb (skip_of table) 0 kept)

  -- a table is skipped exactly when a warning skips it
  pub table_skips : (skip_of table ≡ 0 → ⊥) → table_of table slot sectors ≡ skips (of_slot (skip_of table) slot)
  unfolding table_of
  table_skips skipped = simp (ne_eqb (skip_of table) 0 skipped)

  pub table_yields : skip_of table ≡ 0
      → table_of table slot sectors ≡ yields (area_given (table_of table slot sectors)) (tracks_given (table_of table slot sectors)) (warnings_of (table_of table slot sectors))
  unfolding area_given tracks_given warnings_of yield_of table_of
  table_yields kept = simp (eq-eqb (skip_of table) 0 kept)

-- what a table that is not skipped gives
module _ (area : Area) (tracks : List Track) (warnings : List Warning) where
  pub yields_area : area_given (yields area tracks warnings) ≡ area
  unfolding area_given
  yields_area = refl

  pub yields_tracks : tracks_given (yields area tracks warnings) ≡ tracks
  unfolding tracks_given
  yields_tracks = refl

-- the record of no area
pub no_area_absent : no_area.present ≡ 0
unfolding no_area
no_area_absent = refl

pub no_area_no_tracks : no_area.track_count ≡ 0
unfolding no_area
no_area_no_tracks = refl

-- the address stands in the record alone
module _ (lsn : ℕ) where
  pub address_tracks : (t : Table) → tracks_given (with_address lsn t) ≡ tracks_given t
  unfolding with_address tracks_given
  address_tracks (skips warning) = refl
  address_tracks (yields area tracks warnings) = refl

  pub address_warnings : (t : Table) → warnings_of (with_address lsn t) ≡ warnings_of t
  unfolding with_address warnings_of
  address_warnings (skips warning) = refl
  address_warnings (yields area tracks warnings) = refl

  pub address_playtime : (t : Table) → (area_given (with_address lsn t)).playtime ≡ (area_given t).playtime
  unfolding with_address area_given addressed
  address_playtime (skips warning) = refl
  address_playtime (yields area tracks warnings) = refl

  pub addressed_at : (a : Area) → (addressed lsn a).origin.toc_lsn.0 ≡ lsn
  unfolding addressed
  addressed_at a = refl

  pub addressed_again : (other : ℕ) (a : Area) → addressed lsn (addressed other a) ≡ addressed lsn a
  unfolding addressed
  addressed_again other a = refl

  -- an address given again takes the place of the one before
  pub address_again : (other : ℕ) (t : Table) → with_address lsn (with_address other t) ≡ with_address lsn t
  unfolding with_address
  address_again other (skips warning) = refl
  address_again other (yields area tracks warnings) = ap (λ (a : Area). yields a tracks warnings) (addressed_again other area)

  pub addressed_present : (a : Area) → (addressed lsn a).present ≡ a.present
  unfolding addressed
  addressed_present a = refl

  pub addressed_track_count : (a : Area) → (addressed lsn a).track_count ≡ a.track_count
  unfolding addressed
  addressed_track_count a = refl

  pub addressed_playtime : (a : Area) → (addressed lsn a).playtime ≡ a.playtime
  unfolding addressed
  addressed_playtime a = refl

  pub addressed_sectors : (a : Area) → (addressed lsn a).origin.toc_sectors ≡ a.origin.toc_sectors
  unfolding addressed
  addressed_sectors a = refl

-- what a table gives at an address, by what it gives without one
module _ (table : List ℕ) (slot lsn sectors : ℕ) where
  pub area_of : area_at table slot lsn sectors ≡ with_address lsn (table_of table slot sectors)
  unfolding area_at
  area_of = refl

  pub address_area : skip_of table ≡ 0 → area_given (with_address lsn (table_of table slot sectors)) ≡ addressed lsn (area_given (table_of table slot sectors))
  unfolding with_address area_given
  address_area kept =
      subst (λ (t : Table). area_given (with_address lsn t) ≡ addressed lsn (area_given t)) (sym (table_yields table slot sectors kept)) refl

  pub address_no_area : (skip_of table ≡ 0 → ⊥) → area_given (with_address lsn (table_of table slot sectors)) ≡ no_area
  unfolding with_address area_given
  address_no_area skipped = ap (λ (t : Table). area_given (with_address lsn t)) (table_skips table slot sectors skipped)

  pub area_yields : skip_of table ≡ 0
      → area_at table slot lsn sectors
      ≡ yields (addressed lsn (area_given (table_of table slot sectors))) (tracks_given (table_of table slot sectors)) (warnings_of (table_of table slot sectors))
  unfolding area_at with_address
  area_yields kept = ap (with_address lsn) (table_yields table slot sectors kept)
