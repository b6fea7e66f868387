-- Laws of what the code finds at the start of a string's bytes, and of the code points that are left. Assumes nothing.
use Rattle.std.specs.Prelude.{◌≡◌, ℕ, ◌+◌, ◌*◌, ◌-◌, ◌<◌, ◌≤◌, Bool, true, false, cond, Option, Some, None, unwrap_or, length, get_or, refl}
use mathlib.Core.List.{List, [], ◌∷◌, ◌++◌, flat_map}
use Rattle.std.specs.List.{list_all}
use Rattle.std.proofs.Common.{sym, ap, ◌∙◌, arith, lt-ltb, le-ltb, length-append}
use Rattle.std.proofs.Math.Bool.{and-eq-true_iff}
use Rattle.text.specs.Utf8.{utf8, blanked, encoded}
use Rattle.text.specs.Utf8Laws.{encoded_append}
use Rattle.text.specs.Mapping.{key_of, value_of, key_at, Rising, Lists, is_sound, is_value, double_base}
use Rattle.text.specs.MappingLaws.{lookup_at}
use Rattle.text.specs.Mapped.{replacement, pair_key, value_in, is_pair, pair_in, values_of, double_points, value_points, points_by}
use Rattle.text.proofs.MappedLaws.{value_double, values_are}

-- an entry that has the key, at any place, gives its value: keys rise
pub value_there : (entries : List (List ℕ)) → Rising entries → (i : ℕ) {entry : List ℕ} → (i < length entries) × ((d : List ℕ) → entry ≡ get_or entries i d)
    → (key : ℕ) → key_of entry ≡ key → value_of entry ≡ value_in entries key
unfolding value_in
value_there entries rising i {entry} at key has =
    let is = at.1 [] in let here = ap key_of is in
    let before = λ (j : ℕ) (l : j < i) (same : key_at entries j ≡ key). rising j i l at.0 in
    ap value_of is
    ∙ sym (ap (λ (found : Option ℕ). unwrap_or found replacement) (lookup_at key entries i at.0 (λ j l same. absurd (omega (arith, before j l same))) (sym here ∙ has)))

-- ---- the first of the values of some bytes, and the bytes behind those that have it
module _ (lists : Lists) (set : ℕ) where
  abbrev values : List ℕ → List ℕ
  values bytes = values_of lists set bytes

  one_byte : (byte : ℕ) (rest : List ℕ) → length rest ≡ 0 → values (byte ∷ rest) ≡ value_in lists.singles byte ∷ values rest
  unfolding values_of
  one_byte byte [] none = refl
  one_byte byte (x ∷ xs) none = absurd (omega arith)

  module _ {bytes rest : List ℕ} {byte : ℕ} (first : bytes ≡ byte ∷ rest) where
    module _ {next : ℕ} {behind : List ℕ} (second : rest ≡ next ∷ behind) {key : ℕ} (joined : key ≡ byte * 256 + next) where
      two_bytes : values bytes ≡ cond (is_pair lists.pairs set key) (value_in lists.pairs key ∷ values behind) (value_in lists.singles byte ∷ values rest)
      unfolding values_of pair_key
      two_bytes =
          ap values (first ∙ ap (λ (l : List ℕ). byte ∷ l) second)
          ∙ (λ j. cond (is_pair lists.pairs set (sym joined j)) (value_in lists.pairs (sym joined j) ∷ values behind) (value_in lists.singles byte ∷ values (sym second j)))

      -- two that have a value together
      pub values_pair : {value : ℕ} → Some value ≡ pair_in lists.pairs set key → values bytes ≡ value ∷ values behind
      unfolding pair_in
      values_pair {value} found = two_bytes ∙ go (is_pair lists.pairs set key) found
        where
          go : (t : Bool) → Some value ≡ cond t (Some (value_in lists.pairs key)) None
              → cond t (value_in lists.pairs key ∷ values behind) (value_in lists.singles byte ∷ values rest) ≡ value ∷ values behind
          go true e = cc
          go false e = cc

      -- two that have none: the first by itself
      pub values_apart : None ≡ pair_in lists.pairs set key → {value : ℕ} → value ≡ value_in lists.singles byte → values bytes ≡ value ∷ values rest
      unfolding pair_in
      values_apart none {value} is = two_bytes ∙ go (is_pair lists.pairs set key) none
        where
          go : (t : Bool) → None ≡ cond t (Some (value_in lists.pairs key)) None
              → cond t (value_in lists.pairs key ∷ values behind) (value_in lists.singles byte ∷ values rest) ≡ value ∷ values rest
          go true e = cc
          go false e = ap (λ (v : ℕ). v ∷ values rest) (sym is)

    -- the last byte by itself
    pub values_last : length rest ≡ 0 → {value : ℕ} → value ≡ value_in lists.singles byte → values bytes ≡ value ∷ values rest
    values_last none is = ap values first ∙ one_byte byte rest none ∙ ap (λ (v : ℕ). v ∷ values rest) (sym is)

-- ---- the code points of bytes whose first value is known
module _ (lists : Lists) (set : ℕ) where
  -- without bytes there are none
  pub points_none : points_by lists set [] ≡ []
  unfolding points_by values_of flat_map
  points_none = refl

  module _ (bytes rest : List ℕ) {value : ℕ}
      (first : values_of lists set bytes ≡ value ∷ values_of lists set rest) where
    -- they are those of that value, and those of the bytes behind it
    pub points_more : points_by lists set bytes ≡ value_points lists.doubles value ++ points_by lists set rest
    unfolding points_by flat_map
    points_more = ap (flat_map (value_points lists.doubles)) first

    -- and so is their text
    pub text_step : encoded (points_by lists set bytes) ≡ encoded (value_points lists.doubles value) ++ encoded (points_by lists set rest)
    text_step = ap encoded points_more ∙ encoded_append (value_points lists.doubles value) (points_by lists set rest)

    pub points_one : value < double_base → points_by lists set bytes ≡ value ∷ points_by lists set rest
    unfolding value_points
    points_one h = points_more ∙ simp (lt-ltb value double_base h)

    -- a value from 2^31 on: its double is there, and gives two
    module _ (big : double_base ≤ value) {seen : Lists} (view : seen ≡ lists) where
      pub double_there : is_sound seen ≡ true → value - double_base < length seen.doubles
      double_there sound = rw view (value_double (length lists.doubles) value is big)
        where
          values : List ℕ
          values = values_of lists set rest

          are : list_all (is_value (length lists.doubles)) (value ∷ values) ≡ true
          are = ap (list_all (is_value (length lists.doubles))) (sym first) ∙ values_are lists (ap is_sound (sym view) ∙ sound) set bytes

          is : is_value (length lists.doubles) value ≡ true
          is = ((and-eq-true_iff (is_value (length lists.doubles) value) (list_all (is_value (length lists.doubles)) values)).0 are).0

      pub points_two : points_by lists set bytes
          ≡ get_or (get_or seen.doubles (value - double_base) []) 0 0 ∷ get_or (get_or seen.doubles (value - double_base) []) 1 0 ∷ points_by lists set rest
      unfolding value_points double_points
      points_two = points_more ∙ simp (le-ltb value double_base big, view)

-- ---- the text of a code point and those behind it
pub encoded_first : (points : List ℕ) {point : ℕ} {behind : List ℕ} → points ≡ point ∷ behind → encoded points ≡ utf8 (blanked point) ++ encoded behind
unfolding encoded flat_map
encoded_first points e = ap encoded e

pub length_first : (points : List ℕ) {point : ℕ} {behind : List ℕ} → points ≡ point ∷ behind
    → length (encoded points) ≡ length (utf8 (blanked point)) + length (encoded behind)
length_first points {point} {behind} e = ap length (encoded_first points e) ∙ length-append (utf8 (blanked point)) (encoded behind)
