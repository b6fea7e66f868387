-- What is written into a page, text behind text, is one text. Assumes nothing.
use Prim.Native.Nat.{ℕ, ◌+◌, ◌≤◌, ◌<◌}
use native.Mathlib.Omega.{arith}
use mathlib.Core.Path.{◌≡◌, sym, ap, ◌∙◌}
use mathlib.Core.List.{List, [], ◌∷◌, ◌++◌, map-id}
use lib.ListN.{length, set}
use lib.Seq.{sets, length-sets}
use Rattle.area.specs.Lent.{counted}
use Rattle.area.specs.LentLaws.{counted_none, counted_all, counted_full, counted_then, sets_counted, sets_past}
use Rattle.listing_text.specs.Page.{appended}
use Rattle.listing_text.specs.declared.page.Page.{Page}

module _ (page : Page) where
  -- what stands on it, and behind which place
  abbrev old : List ℕ
  old = page.bytes.now

  abbrev at : ℕ
  at = page.at

  pub none_written : page ≡ appended page []
  unfolding appended
  none_written = λ i. record { bytes = page.bytes; at = sym (counted_none ℕ old at) i }

  -- a byte that fits
  pub byte_written : (byte : ℕ) → at < length old
      → record { bytes = record page.bytes { now = set old at byte }; at = at + 1 } ≡ appended page (byte ∷ [])
  unfolding appended
  byte_written byte fits =
      λ i. record { bytes = record page.bytes { now = set old at byte }; at = sym (counted_all old at (byte ∷ []) (omega arith)) i }

  -- a full page
  pub full_kept : (text : List ℕ) → length old ≤ at → page ≡ appended page text
  unfolding appended
  full_kept text full =
      λ i. record { bytes = record page.bytes { now = sym (sets_past text old at full) i }; at = sym (counted_full old at text full) i }

  -- a text behind a text
  pub joined : (xs ys : List ℕ) → appended (appended page xs) ys ≡ appended page (xs ++ ys)
  unfolding appended
  joined xs ys =
      let both : sets (sets old at xs) (counted old at xs) ys ≡ sets old at (xs ++ ys) =
      (λ i. sets (sets old at (sym (map-id xs) i)) (counted old at xs) (sym (map-id ys) i))
      ∙ sets_counted (λ (x : ℕ). x) old at xs ys
      ∙ ap (sets old at) (map-id (xs ++ ys)) in
      λ i. record { bytes = record page.bytes { now = both i }; at = counted_then old (sets old at xs) at xs ys (length-sets old at xs) i }
