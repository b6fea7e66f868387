-- The tracks of a table and their warnings, one track after another. Assumes nothing.
use mathlib.Core.Path.{◌≡◌, refl, sym, ap, ◌∙◌}
use mathlib.Core.List.{List, [], ◌∷◌, ◌++◌, map, map-append, flat_map}
use Prim.Native.Nat.{ℕ, zero, suc, ◌+◌, ◌≤◌}
use native.Mathlib.Omega.{arith}
use native.Mathlib.Numerals.{add-one}
use lib.ListN.{length, take, drop, length-map}
use lib.Seq.{sets, length-sets, sets-eq, take_at}
use Rattle.area.specs.Tabulate.{tabulate}
use Rattle.area.specs.TabulateLaws.{length_tabulate, tabulate_none, tabulate_more}
use Rattle.area.specs.Lent.{counted}
use Rattle.area.specs.LentLaws.{counted_none, counted_all, counted_within, counted_then, sets_counted}
use Rattle.area.specs.Warning.{word_of}
use Rattle.area.specs.Table.{track_warnings, track_count, read_in, tracks_in, warnings_in}
use Rattle.area.proofs.TableLaws.{tracks_in_lem, warnings_in_lem}
use Rattle.area.specs.declared.table.TableHead.{TableHead}
use Rattle.area.specs.declared.track.Track.{Track}
use Rattle.area.specs.declared.warning.Warning.{Warning}
use Rattle.listing_text.proofs.EntryLines.{flat_map_none_lem, flat_map_snoc_lem}

-- what words hold after warnings are written from a count on, and the count behind those that fit
abbrev pub Warns : List ℕ → ℕ → List Warning → List ℕ → ℕ → Type 0
Warns words at warnings last end = (last ≡ sets words at (map word_of warnings)) × (end ≡ counted words at warnings)

module _ (words : List ℕ) (at : ℕ) where
  pub no_warning : Warns words at [] words at
  no_warning = (refl, sym (counted_none Warning words at))

  pub words_kept : (ws : List Warning) {last : List ℕ} {end : ℕ} → Warns words at ws last end → length last ≡ length words
  words_kept ws w = ap length w.0 ∙ length-sets words at (map word_of ws)

  -- the same warnings, said otherwise
  pub warned : {ws others : List Warning} {last : List ℕ} {end : ℕ} → ws ≡ others → Warns words at ws last end → Warns words at others last end
  warned e w = (w.0 ∙ ap (λ (l : List Warning). sets words at (map word_of l)) e, w.1 ∙ ap (counted words at) e)

  -- warnings behind warnings
  pub warned_behind : (ws more : List Warning) {middle last : List ℕ} {m end : ℕ} → Warns words at ws middle m → Warns middle m more last end
      → Warns words at (ws ++ more) last end
  warned_behind ws more {middle = middle} first second = (
    second.0 ∙ (λ i. sets (first.0 i) (first.1 i) (map word_of more)) ∙ sets_counted word_of words at ws more,
    second.1 ∙ ap (λ (n : ℕ). counted middle n more) first.1 ∙ counted_then words middle at ws more (words_kept ws first),
  )

-- words with room for all warnings hold their words at the start
module _ (words : List ℕ) (ws : List Warning) {last : List ℕ} {end : ℕ} (w : Warns words 0 ws last end) where
  pub warned_within : end ≤ length last
  warned_within = let n = words_kept words 0 ws w in omega (arith, w.1, counted_within words 0 ws (omega arith))

  pub warned_words : length ws ≤ length words → take end last ≡ map word_of ws
  warned_words room =
      let n = length-map ws word_of in
      let all : end ≡ length (map word_of ws) = omega (arith, w.1, counted_all words 0 ws (omega arith)) in
      (λ i. take (all i) ((w.0 ∙ sets-eq (map word_of ws) words 0 (omega arith)) i))
      ∙ take_at (map word_of ws) (drop (0 + length (map word_of ws)) words) (length (map word_of ws)) refl

-- a list by its entries, each mapped
map_tabulate : {A B : Type 0} (f : A → B) (n : ℕ) (g : ℕ → A) → map f (tabulate n g) ≡ tabulate n (λ k. f (g k))
map_tabulate f zero g = ap (map f) (tabulate_none g) ∙ sym (tabulate_none (λ k. f (g k)))
map_tabulate {B = B} f (suc n) g =
    ap (map f) (tabulate_more n g) ∙ map-append f (tabulate n g) (g n ∷ []) ∙ ap (λ (l : List B). l ++ (f (g n) ∷ [])) (map_tabulate f n g)
    ∙ sym (tabulate_more n (λ k. f (g k)))

module _ (table : List ℕ) (head : TableHead) where
  -- the first tracks, and their warnings
  abbrev pub tracks_to : ℕ → List Track
  tracks_to i = tabulate i (λ k. (read_in table head k).track)

  abbrev pub warnings_to : ℕ → List Warning
  warnings_to i = flat_map (track_warnings head.area.origin.slot) (tabulate i (read_in table head))

  pub tracks_to_none : tracks_to 0 ≡ []
  tracks_to_none = tabulate_none (λ k. (read_in table head k).track)

  pub warnings_to_none : warnings_to 0 ≡ []
  warnings_to_none =
      ap (flat_map (track_warnings head.area.origin.slot)) (tabulate_none (read_in table head)) ∙ flat_map_none_lem (track_warnings head.area.origin.slot)

  pub tracks_to_next : (i : ℕ) → tracks_to (i + 1) ≡ tracks_to i ++ ((read_in table head i).track ∷ [])
  tracks_to_next i = ap tracks_to (add-one i) ∙ tabulate_more i (λ k. (read_in table head k).track)

  pub warnings_to_next : (i : ℕ) → warnings_to (i + 1) ≡ warnings_to i ++ track_warnings head.area.origin.slot (read_in table head i)
  warnings_to_next i =
      ap warnings_to (add-one i) ∙ ap (flat_map (track_warnings head.area.origin.slot)) (tabulate_more i (read_in table head))
      ∙ flat_map_snoc_lem (track_warnings head.area.origin.slot) (tabulate i (read_in table head)) (read_in table head i)

  -- all of them
  pub tracks_to_all : (i : ℕ) → i ≡ track_count head → tracks_to i ≡ tracks_in table head
  tracks_to_all i e = ap tracks_to e ∙ sym (tracks_in_lem table head ∙ map_tabulate _ (track_count head) (read_in table head))

  pub warnings_to_all : (i : ℕ) → i ≡ track_count head → warnings_to i ≡ warnings_in table head
  warnings_to_all i e = ap warnings_to e ∙ sym (warnings_in_lem table head)

  pub length_tracks : length (tracks_in table head) ≡ track_count head
  length_tracks = ap length (sym (tracks_to_all (track_count head) refl)) ∙ length_tabulate (track_count head) (λ k. (read_in table head k).track)
