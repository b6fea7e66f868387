-- What the lists of `fill_tracks` hold after the first i tracks of a table: none, one track more, and all of them. Assumes nothing.
--     tracks_to, count_to, words_to      the list of tracks, the count of words and the words after i tracks
use mathlib.Core.Path.{◌≡◌, refl, sym, ◌∙◌, ap}
use Rattle.std.proofs.lemmas.List.{flat_map_more}
use mathlib.Core.List.{List, [], ◌∷◌, ◌++◌, map, flat_map, map-append}
use Prim.Native.Nat.{ℕ, ◌+◌, ◌≤◌, ◌<◌, ◌^◌}
use native.Mathlib.Numerals.{add-one}
use native.Mathlib.Omega.{arith}
use lib.ListN.{length, set, length-map}
use lib.Seq.{sets, length-sets}
use Rattle.area.specs.Lent.{counted}
use Rattle.area.specs.LentLaws.{sets_then, counted_none, counted_then, sets_counted}
use Rattle.area.specs.Tabulate.{tabulate}
use Rattle.area.specs.TabulateLaws.{length_tabulate, tabulate_more}
use Rattle.area.specs.Table.{track_warnings, tracks_of, tracks_warnings, track_count, read_in, reads_in, tracks_in, warnings_in}
use Rattle.area.specs.Warning.{word_of}
use Rattle.area.specs.declared.table.TableHead.{TableHead}
use Rattle.area.specs.declared.track.Track.{Track}
use Rattle.area.specs.declared.track.TrackRead.{TrackRead}
use Rattle.area.specs.declared.warning.Warning.{Warning}

-- there are at most 255 tracks
pub few_tracks : (head : TableHead) → track_count head ≤ 255
unfolding track_count
few_tracks head = omega arith

-- a count of lent words is a usize
counted_fits : {A B : Type 0} (old : List A) (at : ℕ) (new : List B) → at < 2 ^ 64 → length old < 2 ^ 64 → counted old at new < 2 ^ 64
unfolding counted
counted_fits old at new h₁ h₂ = omega arith

module _ (lent : List ℕ) (head : TableHead) where
  abbrev reads_to : ℕ → List TrackRead
  reads_to i = tabulate i (read_in lent head)

  abbrev slot : ℕ
  slot = head.area.origin.slot

  abbrev warned_to : ℕ → List Warning
  warned_to i = tracks_warnings slot (reads_to i)

  reads_more : (i : ℕ) → reads_to (i + 1) ≡ reads_to i ++ (read_in lent head i ∷ [])
  reads_more i = ap reads_to (add-one i) ∙ tabulate_more i (read_in lent head)

  warned_more : (i : ℕ) → warned_to (i + 1) ≡ warned_to i ++ track_warnings slot (read_in lent head i)
  unfolding tracks_warnings flat_map
  warned_more i = ap (flat_map (track_warnings slot)) (reads_more i) ∙ sym (flat_map_more (track_warnings slot) [] (reads_to i) (read_in lent head i))

  module _ (old : List Track) (base : ℕ) where
    unfoldable pub tracks_to : ℕ → List Track
    tracks_to i = sets old base (tracks_of (reads_to i))

    pub length_tracks : (i : ℕ) → length (tracks_to i) ≡ length old
    unfolding tracks_to
    length_tracks i = length-sets old base (tracks_of (reads_to i))

    pub tracks_none : tracks_to 0 ≡ old
    unfolding tracks_to tracks_of tabulate
    tracks_none = refl

    pub tracks_more : (i : ℕ) → set (tracks_to i) (base + i) (read_in lent head i).track ≡ tracks_to (i + 1)
    unfolding tracks_to tracks_of
    tracks_more i =
        let f : TrackRead → Track = λ read. read.track in
        ap (λ (n : ℕ). set (tracks_to i) (base + n) (read_in lent head i).track) (sym (length-map (reads_to i) f ∙ length_tabulate i (read_in lent head)))
        ∙ sets_then (map f (reads_to i)) ((read_in lent head i).track ∷ []) old base
        ∙ ap (sets old base) (sym (ap (map f) (reads_more i) ∙ map-append f (reads_to i) (read_in lent head i ∷ [])))

    pub tracks_all : tracks_to (track_count head) ≡ sets old base (tracks_in lent head)
    unfolding tracks_to tracks_in reads_in
    tracks_all = refl

  module _ (old : List ℕ) (count : ℕ) where
    unfoldable pub count_to : ℕ → ℕ
    count_to i = counted old count (warned_to i)

    unfoldable pub words_to : ℕ → List ℕ
    words_to i = sets old count (map word_of (warned_to i))

    pub count_fits : count < 2 ^ 64 → length old < 2 ^ 64 → (i : ℕ) → count_to i < 2 ^ 64
    unfolding count_to
    count_fits h₁ h₂ i = counted_fits old count (warned_to i) h₁ h₂

    pub length_words : (i : ℕ) → length (words_to i) ≡ length old
    unfolding words_to
    length_words i = length-sets old count (map word_of (warned_to i))

    pub count_none : count_to 0 ≡ count
    unfolding count_to tracks_warnings tabulate flat_map
    count_none = counted_none Warning old count

    pub words_none : words_to 0 ≡ old
    unfolding words_to tracks_warnings tabulate flat_map
    words_none = refl

    pub count_more : (i : ℕ) → counted (words_to i) (count_to i) (track_warnings slot (read_in lent head i)) ≡ count_to (i + 1)
    unfolding count_to
    count_more i = counted_then old (words_to i) count (warned_to i) (track_warnings slot (read_in lent head i)) (length_words i) ∙ ap (counted old count) (sym (warned_more i))

    pub words_more : (i : ℕ) → sets (words_to i) (count_to i) (map word_of (track_warnings slot (read_in lent head i))) ≡ words_to (i + 1)
    unfolding count_to words_to
    words_more i = sets_counted word_of old count (warned_to i) (track_warnings slot (read_in lent head i)) ∙ ap (λ (l : List Warning). sets old count (map word_of l)) (sym (warned_more i))

    pub count_all : count_to (track_count head) ≡ counted old count (warnings_in lent head)
    unfolding count_to warnings_in reads_in
    count_all = refl

    pub words_all : words_to (track_count head) ≡ sets old count (map word_of (warnings_in lent head))
    unfolding words_to warnings_in reads_in
    words_all = refl

-- what a turn of the loop goes by
pub ruleset one_more = (few_tracks, tracks_none, tracks_more, count_none, count_more, words_none, words_more)
