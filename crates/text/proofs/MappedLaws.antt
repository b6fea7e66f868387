-- Laws of strings decoded by a mapping: that every value is one, that the text is Unicode, and how long it is. Assumes nothing.
use Rattle.std.specs.Prelude.{◌≡◌, Bool, true, false, cond, ◌&&◌, ◌||◌, not, Option, Some, None, IfSome, unwrap_or, leb, ltb, eqb, length, get_or, replicate}
use Rattle.std.specs.List as std
use Rattle.std.specs.List.{list_all}
use Rattle.std.proofs.Math.Path.{refl, ap}
use Rattle.std.proofs.Common.{sym, ◌∙◌, arith, ltb-true, leb-true, le-leb, length-append}
use Rattle.std.proofs.Math.Bool.{and-eq-true_iff, true≢false}
use mathlib.Core.List.{List, [], ◌∷◌, ◌++◌, flat_map}
use Prim.Native.Nat.{ℕ, zero, suc, ◌+◌, ◌*◌, ◌-◌, ◌≤◌, ◌<◌}
use Rattle.std.proofs.lemmas.Bool.{lt-leb}
use Rattle.std.proofs.lemmas.List.Folds.{list_all-append}
use Rattle.text.specs.Utf8.{encoded}
use Rattle.text.specs.Utf8Laws.{encoded_length}
use Rattle.text.specs.Mapping.{singles_of, pairs_of, doubles_of, Lists, lists_of, first_surrogate, last_point, is_surrogate, is_point, double_base, is_value, entries_sound, all_points, single_width, pair_width, is_sound, is_mapping, mapping_in, lookup_in, Rising}
use Rattle.text.specs.MappingLaws.{sound_rising, sound_value, mapping_is}
use Rattle.text.specs.Mapped.{replacement, value_in, pair_key, shift_jis, is_reserved, is_pair, values_of, double_points, value_points, points_by, mapped_points}

-- U+FFFD is a value of every mapping
pub replaced : (count : ℕ) → is_value count replacement ≡ true
unfolding is_value is_point is_surrogate
replaced count = refl

-- what a list of sound entries has for a key is a value
pub value_is : (width count : ℕ) (entries : List (List ℕ)) → entries_sound width count 0 entries ≡ true → (key : ℕ) → is_value count (value_in entries key) ≡ true
unfolding value_in
value_is width count entries sound key = go (lookup_in key entries) (sound_value width count 0 entries sound key)
  where
    go : (found : Option ℕ) → IfSome found (λ value. is_value count value ≡ true) → is_value count (unwrap_or found replacement) ≡ true
    go None e = replaced count
    go (Some value) e = e

-- code points behind code points
points_append : (a b : List ℕ) → all_points (a ++ b) ≡ (all_points a && all_points b)
unfolding all_points
points_append a b = list_all-append is_point a b

-- every word of points is one
points_at : (l : List ℕ) → all_points l ≡ true → (i : ℕ) → is_point (get_or l i 0) ≡ true
unfolding all_points is_point is_surrogate
points_at [] e i = refl
points_at (x ∷ xs) e zero = ((and-eq-true_iff (is_point x) (list_all is_point xs)).0 e).0
points_at (x ∷ xs) e (suc i) = points_at xs ((and-eq-true_iff (is_point x) (list_all is_point xs)).0 e).1 i

-- a value below 2^31 is a code point
pub value_point : (count value : ℕ) → is_value count value ≡ true → value < double_base → is_point value ≡ true
unfolding is_value
value_point count value e h = go (is_point value) e
  where
    go : (t : Bool) → (t || leb double_base value && ltb value (double_base + count)) ≡ true → t ≡ true
    go true e = refl
    go false e = sym (ap (λ (b : Bool). b && ltb value (double_base + count)) (lt-leb double_base value h)) ∙ e

-- another has its double
pub value_double : (count value : ℕ) → is_value count value ≡ true → double_base ≤ value → value - double_base < count
unfolding is_value is_point
value_double count value e h = go (is_point value) refl (leb double_base value) (ltb value (double_base + count)) refl e
  where
    go : (a : Bool) → is_point value ≡ a → (b c : Bool) → ltb value (double_base + count) ≡ c → (a || b && c) ≡ true → value - double_base < count
    go true f b c k e = absurd (omega (arith, leb-true value last_point ((and-eq-true_iff (leb value last_point) (not (is_surrogate value))).0 f).0))
    go false f true true k e = omega (arith, ltb-true value (double_base + count) k)
    go false f true false k e = absurd (true≢false (sym e))
    go false f false c k e = absurd (true≢false (sym e))

and_parts : (double : List ℕ) (doubles : List (List ℕ)) → all_points (std.flat_map (λ double. double) (double ∷ doubles)) ≡ true
    → (all_points double ≡ true) × (all_points (std.flat_map (λ double. double) doubles) ≡ true)
and_parts double doubles e =
    let words = std.flat_map (λ (double : List ℕ). double) doubles in
    (and-eq-true_iff (all_points double) (all_points words)).0 (sym (points_append double words) ∙ e)

-- the words of each double are code points
double_words : (doubles : List (List ℕ)) → all_points (std.flat_map (λ double. double) doubles) ≡ true → (i : ℕ) → all_points (get_or doubles i []) ≡ true
unfolding all_points
double_words [] e i = refl
double_words (double ∷ doubles) e zero = (and_parts double doubles e).0
double_words (double ∷ doubles) e (suc i) = double_words doubles (and_parts double doubles e).1 i

-- ---- a mapping's lists
module _ (lists : Lists) (sound : is_sound lists ≡ true) where
  abbrev count : ℕ
  count = length lists.doubles

  abbrev doubles_words : List ℕ
  doubles_words = std.flat_map (λ double. double) lists.doubles

  parts : (entries_sound single_width count 0 lists.singles ≡ true) × (entries_sound pair_width count 0 lists.pairs ≡ true) × (all_points doubles_words ≡ true)
  unfolding is_sound
  parts =
      let singles = entries_sound single_width count 0 lists.singles in let pairs = entries_sound pair_width count 0 lists.pairs in
      let all = (and-eq-true_iff (singles && pairs) (all_points doubles_words)).0 sound in
      let two = (and-eq-true_iff singles pairs).0 all.0 in
      (two.0, two.1, all.1)

  pub rising_singles : Rising lists.singles
  rising_singles = sound_rising single_width count 0 lists.singles parts.0

  pub rising_pairs : Rising lists.pairs
  rising_pairs = sound_rising pair_width count 0 lists.pairs parts.1

  single_is : (byte : ℕ) → is_value count (value_in lists.singles byte) ≡ true
  single_is byte = value_is single_width count lists.singles parts.0 byte

  pair_is : (key : ℕ) → is_value count (value_in lists.pairs key) ≡ true
  pair_is key = value_is pair_width count lists.pairs parts.1 key

  -- a string's values are values of the mapping
  pub values_are : (set : ℕ) (bytes : List ℕ) → list_all (is_value count) (values_of lists set bytes) ≡ true
  unfolding values_of
  values_are set [] = refl
  values_are set (byte ∷ []) = simp (single_is byte)
  values_are set (byte ∷ next ∷ rest) = go (is_pair lists.pairs set key) (values_are set rest) (values_are set (next ∷ rest))
    where
      key : ℕ
      key = pair_key byte next

      values : List ℕ → List ℕ
      values l = values_of lists set l

      go : (t : Bool) → list_all (is_value count) (values rest) ≡ true → list_all (is_value count) (values (next ∷ rest)) ≡ true
          → list_all (is_value count) (cond t (value_in lists.pairs key ∷ values rest) (value_in lists.singles byte ∷ values (next ∷ rest))) ≡ true
      go true e f = simp (pair_is key, e)
      go false e f = simp (single_is byte, f)

  -- every code point of a value is one
  value_sound : (value : ℕ) → is_value count value ≡ true → all_points (value_points lists.doubles value) ≡ true
  unfolding value_points double_points all_points
  value_sound value e = go (ltb value double_base) refl
    where
      double : List ℕ
      double = get_or lists.doubles (value - double_base) []

      go : (t : Bool) → ltb value double_base ≡ t → all_points (cond t (value ∷ []) (get_or double 0 0 ∷ get_or double 1 0 ∷ [])) ≡ true
      go true f = simp (value_point count value e (ltb-true value double_base f))
      go false f = let words = points_at double (double_words lists.doubles parts.2 (value - double_base)) in simp (words 0, words 1)

  points_of_values : (values : List ℕ) → list_all (is_value count) values ≡ true → all_points (flat_map (value_points lists.doubles) values) ≡ true
  unfolding flat_map all_points
  points_of_values [] e = refl
  points_of_values (value ∷ values) e =
      let both = (and-eq-true_iff (is_value count value) (list_all (is_value count) values)).0 e in
      points_append (value_points lists.doubles value) (flat_map (value_points lists.doubles) values)
      ∙ (and-eq-true_iff (all_points (value_points lists.doubles value)) (all_points (flat_map (value_points lists.doubles) values))).1
      (value_sound value both.0, points_of_values values both.1)

  -- every code point of a text is one: no surrogate, none above hexadecimal 10FFFF
  pub points_sound : (set : ℕ) (bytes : List ℕ) → all_points (points_by lists set bytes) ≡ true
  unfolding points_by
  points_sound set bytes = points_of_values (values_of lists set bytes) (values_are set bytes)

pub mapped_sound : (words : List ℕ) → is_mapping words ≡ true → (set : ℕ) (bytes : List ℕ) → all_points (mapped_points words set bytes) ≡ true
unfolding mapped_points
mapped_sound words mapping set bytes = points_sound (lists_of words) (mapping_is words mapping).1 set bytes

-- ---- whether words are a mapping, by what they are taken for
module _ (words : List ℕ) where
  pub none_taken : None ≡ mapping_in words → is_mapping words ≡ false
  unfolding mapping_in
  none_taken e = go (is_mapping words) e
    where
      go : (t : Bool) → None ≡ cond t (Some (lists_of words)) None → t ≡ false
      go true e = cc
      go false e = refl

  pub one_taken : {lists : Lists} → Some lists ≡ mapping_in words → (is_mapping words ≡ true) × (lists ≡ lists_of words)
  unfolding mapping_in
  one_taken {lists} e = go (is_mapping words) e
    where
      go : (t : Bool) → Some lists ≡ cond t (Some (lists_of words)) None → (t ≡ true) × (lists ≡ lists_of words)
      go true e = (refl, cc)
      go false e = absurd cc

-- ---- how long a text is
-- a value gives one code point or two
value_points_lem : (doubles : List (List ℕ)) (value : ℕ) → (1 ≤ length (value_points doubles value)) × (length (value_points doubles value) ≤ 2)
unfolding value_points double_points
value_points_lem doubles value = go (ltb value double_base)
  where
    points : Bool → List ℕ
    points t = cond t (value ∷ []) (double_points (get_or doubles (value - double_base) []))

    go : (t : Bool) → (1 ≤ length (points t)) × (length (points t) ≤ 2)
    go true = (omega arith, omega arith)
    go false = (omega arith, omega arith)

values_points : (doubles : List (List ℕ)) (values : List ℕ)
    → (length values ≤ length (flat_map (value_points doubles) values)) × (length (flat_map (value_points doubles) values) ≤ 2 * length values)
unfolding flat_map
values_points doubles [] = (omega arith, omega arith)
values_points doubles (value ∷ values) =
    let one = value_points_lem doubles value in let rest = values_points doubles values in
    let sum = length-append (value_points doubles value) (flat_map (value_points doubles) values) in
    (omega (arith, one.0, rest.0, sum), omega (arith, one.1, rest.1, sum))

-- bytes give no more values than they are, and some if they are some
values_bytes : (lists : Lists) (set : ℕ) (bytes : List ℕ)
    → (length (values_of lists set bytes) ≤ length bytes) × (0 < length bytes → 0 < length (values_of lists set bytes))
unfolding values_of
values_bytes lists set [] = (omega arith, λ h. h)
values_bytes lists set (byte ∷ []) = (omega arith, λ h. omega arith)
values_bytes lists set (byte ∷ next ∷ rest) =
    go (is_pair lists.pairs set (pair_key byte next)) (values_bytes lists set rest).0 (values_bytes lists set (next ∷ rest)).0
  where
    values : Bool → List ℕ
    values t = cond t (value_in lists.pairs (pair_key byte next) ∷ values_of lists set rest) (value_in lists.singles byte ∷ values_of lists set (next ∷ rest))

    go : (t : Bool) → length (values_of lists set rest) ≤ length rest → length (values_of lists set (next ∷ rest)) ≤ suc (length rest)
        → (length (values t) ≤ suc (suc (length rest))) × (0 < suc (suc (length rest)) → 0 < length (values t))
    go true a b = (omega arith, λ h. omega arith)
    go false a b = (omega arith, λ h. omega arith)

module _ (lists : Lists) (set : ℕ) (bytes : List ℕ) where
  abbrev values : List ℕ
  values = values_of lists set bytes

  -- at most eight bytes for each byte of the string
  pub points_most : length (encoded (points_by lists set bytes)) ≤ 8 * length bytes
  unfolding points_by
  points_most =
      omega (arith, (encoded_length (flat_map (value_points lists.doubles) values)).1, (values_points lists.doubles values).1, (values_bytes lists set bytes).0)

  -- at least one for a string of some
  pub points_some : 0 < length bytes → 0 < length (encoded (points_by lists set bytes))
  unfolding points_by
  points_some h =
      omega (arith, (encoded_length (flat_map (value_points lists.doubles) values)).0, (values_points lists.doubles values).0, (values_bytes lists set bytes).1 h)

module _ (words : List ℕ) (set : ℕ) (bytes : List ℕ) where
  pub text_most : length (encoded (mapped_points words set bytes)) ≤ 8 * length bytes
  unfolding mapped_points
  text_most = points_most (lists_of words) set bytes

  pub text_some : 0 < length bytes → 0 < length (encoded (mapped_points words set bytes))
  unfolding mapped_points
  text_some h = points_some (lists_of words) set bytes h

-- bytes are code points
pub bytes_sound : (bytes : List ℕ) → ((i : ℕ) → get_or bytes i 0 < 256) → all_points bytes ≡ true
unfolding all_points is_point is_surrogate
bytes_sound [] small = refl
bytes_sound (byte ∷ bytes) small =
    let first = small 0 in
    simp (le-leb byte last_point (omega arith), lt-leb first_surrogate byte (omega arith), bytes_sound bytes (λ i. small (suc i)))

-- ---- a mapping without entries gives U+FFFD for each byte, where no two of them are taken together as a reserved pair
no_entries : (doubles : List (List ℕ)) (set : ℕ) (bytes : List ℕ)
    → ((i : ℕ) → (eqb set shift_jis && is_reserved (pair_key (get_or bytes i 0) (get_or bytes (suc i) 0))) ≡ false)
    → points_by (record { singles = []; pairs = []; doubles = doubles }) set bytes ≡ replicate (length bytes) replacement
unfolding points_by values_of is_pair value_in value_points flat_map lookup_in
no_entries doubles set [] unreserved = refl
no_entries doubles set (byte ∷ []) unreserved = refl
no_entries doubles set (byte ∷ next ∷ rest) unreserved =
    simp (unreserved 0) (ap (λ (l : List ℕ). replacement ∷ l) (no_entries doubles set (next ∷ rest) (λ i. unreserved (suc i))))

pub all_replaced : (words : List ℕ) → singles_of words ≡ [] → pairs_of words ≡ [] → (set : ℕ) (bytes : List ℕ)
    → ((i : ℕ) → (eqb set shift_jis && is_reserved (pair_key (get_or bytes i 0) (get_or bytes (suc i) 0))) ≡ false)
    → mapped_points words set bytes ≡ replicate (length bytes) replacement
unfolding mapped_points lists_of
all_replaced words s p set bytes unreserved =
    (λ j. points_by (record { singles = s j; pairs = p j; doubles = doubles_of words }) set bytes) ∙ no_entries (doubles_of words) set bytes unreserved
