-- What a binary search of entries whose keys rise finds: the entry with a key, or that there is none. Assumes nothing.
use Rattle.std.specs.Prelude.{◌≡◌, ℕ, zero, suc, ◌≤◌, ◌<◌, Some, None, Ok, Err, Result, MatchResult, List, [], length, get_or}
use Rattle.std.specs.List.Sorted.{IsSearchInRange, IsBinarySearchResult, IsNonDecreasingBy}
use Rattle.std.specs.Ordering.{nat_cmp, ordering_index}
use Rattle.std.proofs.Common.{sym, ap, arith, inl, inr}
use Rattle.std.proofs.lemmas.Bool.{cases_lt}
use Rattle.std.proofs.lemmas.Bool.Decides.{nat_tests}
use Rattle.std.proofs.lemmas.Cmp.{ranked}
use Rattle.std.proofs.lemmas.List.Sorted.{IsNonDecreasingBy-from_default}
use Rattle.text.specs.Mapping.{key_of, value_of, key_at, lookup_in, Rising}
use Rattle.text.specs.MappingLaws.{lookup_at, lookup_none}

module _ (entries : List (List ℕ)) (rising : Rising entries) (key : ℕ) where
  -- a key below the first is below all
  pub below_all : key < key_at entries 0 → None ≡ lookup_in key entries
  below_all below = sym (lookup_none key entries apart)
    where
      apart : (j : ℕ) → j < length entries → key_at entries j ≡ key → ⊥
      apart zero h same = omega arith
      apart (suc j) h same = omega (arith, rising 0 (suc j) (omega arith) h)

  -- comparisons with the key rise along the entries, as a binary search asks
  comparisons_rise : IsNonDecreasingBy (λ entry. ordering_index (nat_cmp (key_of entry) key)) entries
  comparisons_rise = IsNonDecreasingBy-from_default (λ entry. ordering_index (nat_cmp (key_of entry) key)) entries [] (λ i j le inside.
      let keys_rise : key_at entries i ≤ key_at entries j = grind (arith, rising i j, λ (same : i ≡ j). ap (key_at entries) same) in
      grind (arith, nat_tests))

  pub searched : (r : Result ℕ ℕ) → IsSearchInRange r (length entries) → IsBinarySearchResult (λ entry. nat_cmp (key_of entry) key) entries r
      → MatchResult r (λ at. Some (value_of (get_or entries at [])) ≡ lookup_in key entries) (λ at. None ≡ lookup_in key entries)
  searched (Ok at) inside equal =
      let here = ranked _ key _ (sym (equal [])) in
      sym (lookup_at key entries at inside (λ j before same. omega (arith, rising j at before inside)) here)
  searched (Err at) inside parted = sym (lookup_none key entries apart)
    where
      apart : (j : ℕ) → j < length entries → key_at entries j ≡ key → ⊥
      apart j h same = elim (cases_lt j at) [
        | inl before ↦ let below : key_at entries j < key = ranked _ key _ (sym ((parted comparisons_rise).0 j [] (omega arith) before)) in omega arith
        | inr behind ↦ let above : key < key_at entries j = ranked _ key _ (sym ((parted comparisons_rise).1 j [] behind h)) in omega arith
      ]
