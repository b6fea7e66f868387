-- Laws of lent mappings: when words have all their parts, what the test of entries says of them, and which value a key has. Assumes nothing.
use Rattle.std.specs.Prelude.{◌≡◌, Bool, cond, ◌&&◌, Some, None, IfSome, leb, eqb, drop}
use Rattle.std.proofs.Math.Path.{refl, sym, ap}
use Rattle.std.proofs.Common.{◌∙◌, add-one, mod-eq_of_lt, drop_of_length-le, drop-cons}
use Rattle.std.proofs.Math.Bool.{true, false, and-eq-true_iff, and_assoc, and-true, and-false}
use mathlib.Core.List.{List, [], ◌∷◌}
use Prim.Native.Nat.{ℕ, zero, suc, ◌+◌, ◌%◌, ◌^◌, ◌≤◌, ◌<◌}
use native.Mathlib.Omega.{arith}
use borrow.Author.Tests.{ltb-true, leb-true, eqb-true, eq-eqb, ne_eqb, lt-ltb, le-ltb, ltb-false, le-leb, lt-leb}
use Rattle.std.proofs.Math.Dec.{ltb}
use Rattle.std.proofs.Math.ListN.{length, get_or}
use Rattle.std.proofs.lemmas.Bool.{false_from_ne_true}
use Rattle.std.proofs.lemmas.List.Recursion.{found_at, found_nowhere}
use Rattle.std.specs.Simd.{first_chunks}
use Rattle.text.specs.Mapping.{count_at, behind, singles_at, pairs_at, doubles_at, words_end, doubles_of, is_whole, is_point, is_value, entries_sound, all_points, is_sound, lists_of, is_mapping, mapping_in, key_of, value_of, key_at, lookup_in, Rising}

-- so many chunks
length_chunks : (k : ℕ) (l : List ℕ) → length (first_chunks 2 k l) ≡ k
length_chunks zero l = refl
length_chunks (suc k) l = ap suc (length_chunks k (drop 2 l))

module _ (width count : ℕ) where
  -- what the test of an entry and those behind it says
  pub sound_first : (least : ℕ) (entry : List ℕ) (rest : List (List ℕ)) → entries_sound width count least (entry ∷ rest) ≡ true
      → (least ≤ key_of entry) × (key_of entry < width) × (is_value count (value_of entry) ≡ true) × (entries_sound width count (key_of entry + 1) rest ≡ true)
  unfolding entries_sound
  sound_first least entry rest e =
      let key = key_of entry in let value = value_of entry in
      let all = (and-eq-true_iff (leb least key && ltb key width && is_value count value) (entries_sound width count (key + 1) rest)).0 e in
      let three = (and-eq-true_iff (leb least key && ltb key width) (is_value count value)).0 all.0 in
      let two = (and-eq-true_iff (leb least key) (ltb key width)).0 three.0 in
      (leb-true least key two.0, ltb-true key width two.1, three.1, all.1)

  -- no key is below the least
  sound_least : (least : ℕ) (entries : List (List ℕ)) → entries_sound width count least entries ≡ true → (j : ℕ) → j < length entries → least ≤ key_at entries j
  sound_least least [] e j h = absurd (omega arith)
  sound_least least (entry ∷ rest) e zero h = (sound_first least entry rest e).0
  sound_least least (entry ∷ rest) e (suc j) h =
      let s = sound_first least entry rest e in
      omega (arith, sound_least (key_of entry + 1) rest s.3 j (omega arith))

  -- sound entries have keys that rise
  pub sound_rising : (least : ℕ) (entries : List (List ℕ)) → entries_sound width count least entries ≡ true → Rising entries
  sound_rising least [] e i j l h = absurd (omega arith)
  sound_rising least (entry ∷ rest) e i zero l h = absurd (omega arith)
  sound_rising least (entry ∷ rest) e zero (suc j) l h =
      let s = sound_first least entry rest e in
      omega (arith, sound_least (key_of entry + 1) rest s.3 j (omega arith))
  sound_rising least (entry ∷ rest) e (suc i) (suc j) l h =
      let s = sound_first least entry rest e in
      sound_rising (key_of entry + 1) rest s.3 i j (omega arith) (omega arith)

  -- the value of a key in sound entries is a value
  pub sound_value : (least : ℕ) (entries : List (List ℕ)) → entries_sound width count least entries ≡ true
      → (key : ℕ) → IfSome (lookup_in key entries) (λ value. is_value count value ≡ true)
  unfolding lookup_in
  sound_value least [] e key = tt
  sound_value least (entry ∷ rest) e key = go (eqb (key_of entry) key) (sound_value (key_of entry + 1) rest s.3 key)
    where
      s : (least ≤ key_of entry) × (key_of entry < width) × (is_value count (value_of entry) ≡ true) × (entries_sound width count (key_of entry + 1) rest ≡ true)
      s = sound_first least entry rest e

      go : (b : Bool) → IfSome (lookup_in key rest) (λ value. is_value count value ≡ true)
          → IfSome (cond b (Some (value_of entry)) (lookup_in key rest)) (λ value. is_value count value ≡ true)
      go true later = s.2
      go false later = later

module _ (key : ℕ) (entries : List (List ℕ)) where
  -- the first entry with the key gives its value
  pub lookup_at : (i : ℕ) → i < length entries → ((j : ℕ) → j < i → key_at entries j ≡ key → ⊥) → key_at entries i ≡ key
      → lookup_in key entries ≡ Some (value_of (get_or entries i []))
  unfolding lookup_in
  lookup_at i h n e =
      found_at (lookup_in key) (λ entry. eqb (key_of entry) key) (λ entry. Some (value_of entry)) None refl (λ x xs. refl) entries i [] h
      (λ j l. ne_eqb (key_at entries j) key (n j l)) (eq-eqb (key_at entries i) key e)

  -- without one there is none
  pub lookup_none : ((j : ℕ) → j < length entries → key_at entries j ≡ key → ⊥) → lookup_in key entries ≡ None
  unfolding lookup_in
  lookup_none n =
      found_nowhere (lookup_in key) (λ entry. eqb (key_of entry) key) (λ entry. Some (value_of entry)) None refl (λ x xs. refl) entries []
      (λ j l. ne_eqb (key_at entries j) key (n j l))

-- the front of a list from a place on, two at a time
pub drop_two : (l : List ℕ) (i : ℕ) → i + 1 < length l → drop i l ≡ get_or l i 0 ∷ get_or l (i + 1) 0 ∷ drop (i + 2) l
drop_two l i h =
    let two : i + 2 ≡ suc (suc i) = omega arith in
    rw (add-one i, two) (drop-cons l i 0 (omega arith) ∙ ap (λ (r : List ℕ). get_or l i 0 ∷ r) (drop-cons l (suc i) 0 (omega arith)))

-- ---- tests that pass over a list from the left
module _ (width count : ℕ) (l : List (List ℕ)) (i : ℕ) where
  -- an entry more
  pub sound_next : i < length l → (least : ℕ) (so_far : Bool)
      → (so_far && entries_sound width count least (drop i l))
      ≡ (so_far && (leb least (key_at l i) && ltb (key_at l i) width && is_value count (value_of (get_or l i [])))
      && entries_sound width count (key_at l i + 1) (drop (i + 1) l))
  unfolding entries_sound
  sound_next h least so_far =
      ap (λ (r : List (List ℕ)). so_far && entries_sound width count least r) (drop-cons l i [] h ∙ ap (λ (n : ℕ). get_or l i [] ∷ drop n l) (sym (add-one i)))
      ∙ sym (and_assoc so_far (leb least (key_at l i) && ltb (key_at l i) width && is_value count (value_of (get_or l i []))) (entries_sound width count (key_at l i + 1) (drop (i + 1) l)))

  -- the same where the least key is counted in words: behind the largest word it is 0 again, but that word is beyond every width
  pub sound_wrapped : i < length l → width < 2 ^ 32 → (least : ℕ) (so_far : Bool)
      → (so_far && entries_sound width count least (drop i l))
      ≡ (so_far && (leb least (key_at l i) && ltb (key_at l i) width && is_value count (value_of (get_or l i [])))
      && entries_sound width count ((key_at l i + 1) % 2 ^ 32) (drop (i + 1) l))
  sound_wrapped h small least so_far = sound_next h least so_far ∙ go (ltb (key_at l i) width) refl
    where
      key : ℕ
      key = key_at l i

      value : Bool
      value = is_value count (value_of (get_or l i []))

      rest : ℕ → Bool
      rest least = entries_sound width count least (drop (i + 1) l)

      go : (t : Bool) → ltb key width ≡ t → (so_far && (leb least key && t && value) && rest (key + 1)) ≡ (so_far && (leb least key && t && value) && rest ((key + 1) % 2 ^ 32))
      go true e =
          let below = ltb-true key width e in let fits : key + 1 < 2 ^ 32 = omega arith in let same : (key + 1) % 2 ^ 32 ≡ key + 1 = mod-eq_of_lt fits in
          ap (λ (n : ℕ). so_far && (leb least key && true && value) && rest n) (sym same)
      go false e = simp and-false

  -- no entry more
  pub sound_end : length l ≤ i → (least : ℕ) (so_far : Bool) → (so_far && entries_sound width count least (drop i l)) ≡ so_far
  unfolding entries_sound
  sound_end h least so_far = rw (drop_of_length-le l h) (and-true so_far)

-- the first entry: no key is below 0
pub sound_start : (width count : ℕ) (l : List (List ℕ)) → 0 < length l
    → (ltb (key_at l 0) width && is_value count (value_of (get_or l 0 [])) && entries_sound width count (key_at l 0 + 1) (drop 1 l)) ≡ entries_sound width count 0 l
unfolding entries_sound
sound_start width count [] h = absurd (omega arith)
sound_start width count (entry ∷ rest) h = sym (simp (le-leb 0 (key_of entry) (omega arith)))

-- at least one more than a number is above it
pub above_is : (a b : ℕ) → ltb a b ≡ leb (a + 1) b
above_is a b = go (ltb a b) refl
  where
    go : (t : Bool) → ltb a b ≡ t → t ≡ leb (a + 1) b
    go true e = sym (le-leb (a + 1) b (omega (arith, ltb-true a b e)))
    go false e = sym (lt-leb (a + 1) b (omega (arith, ltb-false a b e)))

-- a word more, and none
pub points_next : (l : List ℕ) (i : ℕ) → i < length l → (so_far : Bool)
    → (so_far && all_points (drop i l)) ≡ (so_far && is_point (get_or l i 0) && all_points (drop (i + 1) l))
unfolding all_points
points_next l i h so_far =
    ap (λ (r : List ℕ). so_far && all_points r) (drop-cons l i 0 h ∙ ap (λ (n : ℕ). get_or l i 0 ∷ drop n l) (sym (add-one i)))
    ∙ sym (and_assoc so_far (is_point (get_or l i 0)) (all_points (drop (i + 1) l)))

pub points_end : (l : List ℕ) (i : ℕ) → length l ≤ i → all_points (drop i l) ≡ true
unfolding all_points
points_end l i h = ap all_points (drop_of_length-le l h)

-- ---- the parts of a mapping
module _ (words : List ℕ) where
  -- a count is missing, or words are left over
  pub whole_none : length words ≤ 0 → is_whole words ≡ false
  unfolding is_whole
  whole_none h = simp (le-ltb singles_at (length words) h)

  pub whole_singles : length words ≤ pairs_at words → is_whole words ≡ false
  unfolding is_whole
  whole_singles h = simp (le-ltb (pairs_at words) (length words) h, and-false)

  pub whole_pairs : length words ≤ doubles_at words → is_whole words ≡ false
  unfolding is_whole
  whole_pairs h = simp (le-ltb (doubles_at words) (length words) h, and-false)

  pub whole_left : (words_end words ≡ length words → ⊥) → is_whole words ≡ false
  unfolding is_whole
  whole_left n = simp (ne_eqb (words_end words) (length words) n, and-false)

  -- all counts are there, and no words are left over
  pub whole_all : 0 < length words → pairs_at words < length words → doubles_at words < length words → words_end words ≡ length words → is_whole words ≡ true
  unfolding is_whole
  whole_all a b c d =
      simp (lt-ltb singles_at (length words) a, lt-ltb (pairs_at words) (length words) b, lt-ltb (doubles_at words) (length words) c, eq-eqb (words_end words) (length words) d)

  -- and back
  pub whole_parts : is_whole words ≡ true → (0 < length words) × (pairs_at words < length words) × (doubles_at words < length words) × (words_end words ≡ length words)
  unfolding is_whole
  whole_parts e =
      let n = length words in
      let all = (and-eq-true_iff (ltb singles_at n && ltb (pairs_at words) n && ltb (doubles_at words) n) (eqb (words_end words) n)).0 e in
      let three = (and-eq-true_iff (ltb singles_at n && ltb (pairs_at words) n) (ltb (doubles_at words) n)).0 all.0 in
      let two = (and-eq-true_iff (ltb singles_at n) (ltb (pairs_at words) n)).0 three.0 in
      (ltb-true singles_at n two.0, ltb-true (pairs_at words) n two.1, ltb-true (doubles_at words) n three.1, eqb-true (words_end words) n all.1)

  -- an end is behind its count
  pub behind_more : (at : ℕ) → at < behind words at
  unfolding behind
  behind_more at = omega arith

  -- as many doubles as their count says
  pub doubles_length : length (doubles_of words) ≡ count_at words (doubles_at words)
  unfolding doubles_of
  doubles_length = length_chunks (count_at words (doubles_at words)) (drop (doubles_at words + 1) words)

  -- ---- without its parts no words are a mapping; with them it is whether they are sound
  pub mapping_cut : is_whole words ≡ false → is_mapping words ≡ false
  unfolding is_mapping
  mapping_cut e = simp e

  pub mapping_whole : is_whole words ≡ true → is_mapping words ≡ is_sound (lists_of words)
  unfolding is_mapping
  mapping_whole e = simp e

  -- a mapping has its parts, and what stands in them is sound
  pub mapping_is : is_mapping words ≡ true → (is_whole words ≡ true) × (is_sound (lists_of words) ≡ true)
  unfolding is_mapping
  mapping_is e = (and-eq-true_iff (is_whole words) (is_sound (lists_of words))).0 e

  pub mapping_found : is_whole words ≡ true → is_sound (lists_of words) ≡ true → mapping_in words ≡ Some (lists_of words)
  unfolding mapping_in is_mapping
  mapping_found w s = simp (w, s)

  pub mapping_none : (is_mapping words ≡ true → ⊥) → mapping_in words ≡ None
  unfolding mapping_in
  mapping_none n = simp (false_from_ne_true (is_mapping words) n)
