-- Entries counted one list after another: what is cut from the front of words is what stands at a place of them. Assumes nothing.
use Rattle.std.specs.Prelude.{◌≡◌, true, false, Some, None, eqb, ℕ, zero, suc, ◌+◌, ◌*◌, ◌/◌, ◌≤◌, ◌<◌, List, length, get_or, take, drop}
use Rattle.std.specs.Simd.{first_chunks}
use Rattle.std.proofs.Common.{refl, sym, ap, ◌∙◌, add-zero, true≢false, eqb-true, arith, length-take, length-drop, get_or-drop, drop-drop}
use Rattle.std.proofs.lemmas.Bool.{eqb-false}
use Rattle.std.proofs.lemmas.List.{take-take, drop-take}
use Rattle.text.specs.Mapping.{count_at, behind, twos, entries_at, Counts, pairs_at, doubles_at, words_end, singles_of, pairs_of, doubles_of, Lists, lists_of, is_sound, is_mapping, mapping_in}
use Rattle.text.specs.MappingLaws.{whole_all, whole_parts, behind_more, mapping_is, mapping_found, mapping_none}

-- the chunks of a front are the first of the whole
first_chunks-take : (k : ℕ) (l : List ℕ) → first_chunks 2 k (take (2 * k) l) ≡ first_chunks 2 k l
first_chunks-take zero l = refl
first_chunks-take (suc k) l =
    let more : 2 * suc k ≡ 2 + 2 * k = omega arith in
    rw (more, take-take 2 (2 + 2 * k) l (omega arith), drop-take 2 (2 * k) l, first_chunks-take k (drop 2 l))

pub chunks_front : (k : ℕ) (l xs : List ℕ) → xs ≡ take (2 * k) l → 2 * k ≤ length l → first_chunks 2 (length xs / 2) xs ≡ first_chunks 2 k l
chunks_front k l xs e h =
    let n : length xs / 2 ≡ k = omega (arith, ap length e, length-take (2 * k) l) in
    rw (n, e) (first_chunks-take k l)

-- words that reach to the end of entries have as many as the count says
pub entries_counted : (words : List ℕ) (at : ℕ) → behind words at ≤ length words → entries_at words at ≡ first_chunks 2 (count_at words at) (drop (at + 1) words)
unfolding behind entries_at twos
entries_counted words at h =
    let behind_count = drop (at + 1) words in
    chunks_front (count_at words at) behind_count (take (2 * count_at words at) behind_count) refl (omega (arith, h, length-drop (at + 1) words))

-- words are read up to a place, and the rest stands behind it
pub record ReadTo (words : List ℕ) (at : ℕ) (rest : List ℕ) : Type 0 where
  pub inside : at ≤ length words
  pub left : rest ≡ drop at words

-- at first the rest is all
pub all_left : (words : List ℕ) → ReadTo words 0 words
all_left words = record { inside = omega arith; left = refl }

module _ {words : List ℕ} {at : ℕ} {rest : List ℕ} (read : ReadTo words at rest) where
  count_rest : count_at rest 0 ≡ count_at words at
  unfolding count_at
  count_rest = ap (λ (l : List ℕ). get_or l 0 0) read.left ∙ get_or-drop at words 0 0 ∙ ap (λ (n : ℕ). get_or words n 0) (add-zero at)

  behind_rest : behind words at ≡ at + behind rest 0
  unfolding behind
  behind_rest = omega (arith, count_rest)

  -- the entries behind the place, and what is read then
  pub next_list : {entries : List (List ℕ)} {left : List ℕ} → Counts rest entries left → (entries ≡ entries_at words at) × ReadTo words (behind words at) left
  unfolding entries_at
  next_list {entries} {left} c = (
    c.are ∙ (λ j. twos (take (2 * count_rest j) (behind_one j))),
    record {
      inside = omega (arith, behind_rest, c.inside, read.inside, ap length read.left, length-drop at words);
      left = c.left ∙ ap (drop (behind rest 0)) read.left ∙ drop-drop (behind rest 0) at words ∙ ap (λ (n : ℕ). drop n words) (sym behind_rest);
    },
  )
    where
      behind_one : drop (0 + 1) rest ≡ drop (at + 1) words
      behind_one = ap (drop (0 + 1)) read.left ∙ drop-drop (0 + 1) at words ∙ ap (λ (n : ℕ). drop n words) (omega arith)

  -- a count that is missing, or beyond its words
  pub no_list : length rest < behind rest 0 → length words < behind words at
  no_list h = omega (arith, behind_rest, read.inside, ap length read.left, length-drop at words)

-- the three lists are inside a mapping, and end where it does
ends_inside : (words : List ℕ) → is_mapping words ≡ true → (pairs_at words ≤ length words) × (doubles_at words ≤ length words) × (words_end words ≡ length words)
ends_inside words m = let parts = whole_parts words (mapping_is words m).0 in (omega arith, omega arith, parts.3)

-- the three lists of words read one behind another: without one there is no mapping
pub no_singles : (words : List ℕ) → length words < behind words 0 → mapping_in words ≡ None
unfolding pairs_at
no_singles words h = mapping_none words (λ m. omega (arith, (ends_inside words m).0))

module _ {words : List ℕ} {singles : List (List ℕ)} {rest₁ : List ℕ} (first : Counts words singles rest₁) where
  singles_read : (singles ≡ singles_of words) × ReadTo words (pairs_at words) rest₁
  unfolding singles_of pairs_at
  singles_read = next_list (all_left words) first

  pub no_pairs : length rest₁ < behind rest₁ 0 → mapping_in words ≡ None
  unfolding doubles_at
  no_pairs h = mapping_none words (λ m. omega (arith, (ends_inside words m).1, no_list singles_read.1 h))

  module _ {pairs : List (List ℕ)} {rest₂ : List ℕ} (second : Counts rest₁ pairs rest₂) where
    pairs_read : (pairs ≡ pairs_of words) × ReadTo words (doubles_at words) rest₂
    unfolding pairs_of doubles_at
    pairs_read = next_list singles_read.1 second

    pub no_doubles : length rest₂ < behind rest₂ 0 → mapping_in words ≡ None
    unfolding words_end
    no_doubles h = mapping_none words (λ m. omega (arith, (ends_inside words m).2, no_list pairs_read.1 h))

    module _ {doubles : List (List ℕ)} {rest₃ : List ℕ} (third : Counts rest₂ doubles rest₃) where
      doubles_read : (doubles ≡ doubles_of words) × ReadTo words (words_end words) rest₃
      unfolding doubles_of words_end
      doubles_read = let read = next_list pairs_read.1 third in (read.0 ∙ entries_counted words (doubles_at words) read.1.inside, read.1)

      abbrev lists : Lists
      lists = record { singles = singles; pairs = pairs; doubles = doubles }

      lists_read : lists ≡ lists_of words
      unfolding lists_of
      lists_read = λ j. record { singles = singles_read.0 j; pairs = pairs_read.0 j; doubles = doubles_read.0 j }

      -- with words left over there is none either, and without it goes by what stands in the lists
      pub words_left : false ≡ eqb (length rest₃) 0 → mapping_in words ≡ None
      words_left left =
          let end = doubles_read.1 in
          mapping_none words (λ m. eqb-false (length rest₃) 0 (sym left) (omega (arith, (ends_inside words m).2, ap length end.left, length-drop (words_end words) words)))

      pub unsound : false ≡ is_sound lists → mapping_in words ≡ None
      unsound e = mapping_none words (λ m. true≢false (sym (mapping_is words m).1 ∙ ap is_sound (sym lists_read) ∙ sym e))

      pub all_read : true ≡ eqb (length rest₃) 0 → true ≡ is_sound lists → mapping_in words ≡ Some lists
      unfolding pairs_at doubles_at words_end
      all_read none e =
          let read = doubles_read.1 in let more = behind_more words in
          let end : words_end words ≡ length words = omega (arith, eqb-true (length rest₃) 0 (sym none), ap length read.left, length-drop (words_end words) words, read.inside) in
          let two = more (doubles_at words) in let one = more (pairs_at words) in
          let whole = whole_all words (omega arith) (omega arith) (omega arith) end in
          mapping_found words whole (ap is_sound (sym lists_read) ∙ sym e) ∙ ap Some (sym lists_read)
