-- Lines of entries, written one behind another. Assumes nothing.
use mathlib.Core.Path.{◌≡◌, refl, sym, ap, ◌∙◌}
use mathlib.Core.List.{List, [], ◌∷◌, ◌++◌, map, flat_map, append_assoc, append-nil}
use Prim.Native.Nat.{ℕ, ◌+◌, ◌-◌, ◌≤◌, ◌<◌}
use native.Mathlib.Omega.{arith}
use lib.ListN.{length, get_or, take, drop, length-map}
use lib.Seq.{take_all}
use Rattle.std.proofs.lemmas.List.{take_more}
use Rattle.listing_text.specs.Decimal.{decimal}
use Rattle.listing_text.specs.Line.{next_field, fields_of, word_line}
use Rattle.listing_text.specs.Listing.{section}
use Rattle.listing_text.specs.Page.{appended}
use Rattle.listing_text.specs.declared.page.Page.{Page}
use Rattle.listing_text.proofs.Writing.{none_written, joined}

module _ {A B : Type 0} (f : A → List B) where
  -- one entry more
  pub flat_map_snoc_lem : (xs : List A) (x : A) → flat_map f (xs ++ (x ∷ [])) ≡ flat_map f xs ++ f x
  unfolding flat_map
  flat_map_snoc_lem [] x = append-nil (f x)
  flat_map_snoc_lem (y ∷ ys) x = ap (λ (l : List B). f y ++ l) (flat_map_snoc_lem ys x) ∙ sym (append_assoc (f y) (flat_map f ys) (f x))

  pub flat_map_none_lem : flat_map f [] ≡ []
  unfolding flat_map
  flat_map_none_lem = refl

module _ {A : Type 0} (line : A → List ℕ) (page : Page) where
  pub no_line : page ≡ appended page (flat_map line [])
  no_line = none_written page ∙ ap (appended page) (sym (flat_map_none_lem line))

  -- the line of the next entry behind those before it
  pub line_behind : (xs : List A) (x : A) → appended (appended page (flat_map line xs)) (line x) ≡ appended page (flat_map line (xs ++ (x ∷ [])))
  line_behind xs x = joined page (flat_map line xs) (line x) ∙ ap (appended page) (sym (flat_map_snoc_lem line xs x))

  pub next_line : (xs : List A) (i : ℕ) (past : A) → i < length xs
      → appended (appended page (flat_map line (take i xs))) (line (get_or xs i past)) ≡ appended page (flat_map line (take (i + 1) xs))
  next_line xs i past inside = line_behind (take i xs) (get_or xs i past) ∙ ap (λ (l : List A). appended page (flat_map line l)) (sym (take_more xs i past inside))

  -- the lines of all entries behind a section's first line
  pub all_lines : (word : List ℕ) (xs : List A) (i : ℕ) → length xs ≤ i
      → appended (appended page (word_line word (length xs))) (flat_map line (take i xs)) ≡ appended page (section word line xs)
  unfolding section
  all_lines word xs i all = joined page (word_line word (length xs)) (flat_map line (take i xs))
      ∙ ap (λ (l : List A). appended page (word_line word (length xs) ++ flat_map line l)) (take_all i xs all)

-- a turn of a loop over entries, and none
pub ruleset lines = (no_line, next_line)

module _ (page : Page) where
  -- bytes, each written by itself
  pub next_byte : (xs : List ℕ) (i past : ℕ) → i < length xs
      → appended (appended page (take i xs)) (get_or xs i past ∷ []) ≡ appended page (take (i + 1) xs)
  next_byte xs i past inside = joined page (take i xs) (get_or xs i past ∷ []) ∙ ap (appended page) (sym (take_more xs i past inside))

  -- all fields behind the first
  pub all_fields : (ns : List ℕ) (i : ℕ) → 1 ≤ length ns → length ns ≤ i + 1
      → appended (appended page (decimal (get_or ns 0 0))) (flat_map next_field (take i (take (length ns - 1) (drop 1 ns)))) ≡ appended page (fields_of ns)
  unfolding fields_of
  all_fields [] i some all = absurd (omega arith)
  all_fields (n ∷ ns) i some all =
      let rest : take i (take (length (n ∷ ns) - 1) ns) ≡ ns = ap (take i) (take_all (length (n ∷ ns) - 1) ns (omega arith)) ∙ take_all i ns (omega arith) in
      ap (λ (l : List ℕ). appended (appended page (decimal n)) (flat_map next_field l)) rest ∙ joined page (decimal n) (flat_map next_field ns)

-- a section of entries that are told by other things
pub section_mapped : {A B : Type 0} (word : List ℕ) (line : A → List ℕ) (told : B → A) (xs : List B)
    → section word (λ x. line (told x)) xs ≡ section word line (map told xs)
unfolding section flat_map
section_mapped {A = A} {B = B} word line told xs = λ i. word_line word (sym (length-map xs told) i) ++ sym (mapped xs) i
  where
    mapped : (xs : List B) → flat_map line (map told xs) ≡ flat_map (λ x. line (told x)) xs
    mapped [] = refl
    mapped (x ∷ xs) = ap (λ (l : List ℕ). line (told x) ++ l) (mapped xs)
