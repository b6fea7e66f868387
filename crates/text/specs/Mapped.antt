-- A string's bytes become code points by a mapping (02, item 1: "Decoding follows `decode_string`, the reserved Shift JIS pairs included; it is
-- shown over any mapping, not per set."), as in its `decode`; that it then makes controls blanks is `blanked` of Utf8. Assumes nothing.
use Rattle.std.specs.Prelude.{ℕ, ◌+◌, ◌*◌, ◌-◌, Bool, cond, ◌&&◌, ◌||◌, Option, Some, None, is_some, unwrap_or, ltb, eqb, get_or}
use mathlib.Core.List.{List, [], ◌∷◌, flat_map}
use Rattle.std.specs.List.{list_any}
use Rattle.text.specs.Mapping.{double_base, Lists, lists_of, lookup_in}

-- `'\u{FFFD}'` stands in place of what has no value
abbrev pub replacement : ℕ
replacement = 0xfffd

-- the value of a key in a list of entries
unfoldable pub value_in : List (List ℕ) → ℕ → ℕ
value_in entries key = unwrap_or (lookup_in key entries) replacement

-- "two-byte key, its first byte the higher"
unfoldable pub pair_key : ℕ → ℕ → ℕ
pair_key first second = first * 256 + second

-- `SJIS_RESERVED`
abbrev pub reserved_pairs : List ℕ
reserved_pairs = 0x879f ∷ 0x889e ∷ 0x9873 ∷ 0x989e ∷ 0xeaa5 ∷ 0xeff8 ∷ 0xeff9 ∷ 0xeffa ∷ 0xeffb ∷ 0xeffc ∷ []

unfoldable pub is_reserved : ℕ → Bool
is_reserved key = list_any (λ pair. eqb pair key) reserved_pairs

-- `Charset::ShiftJisX0213`, the set whose reserved pairs count
abbrev pub shift_jis : ℕ
shift_jis = 3

-- whether two bytes are taken together: as a pair of the mapping or, in set 3, as a reserved one
unfoldable pub is_pair : List (List ℕ) → ℕ → ℕ → Bool
is_pair pairs set key = is_some (lookup_in key pairs) || eqb set shift_jis && is_reserved key

-- and then their value
unfoldable pub pair_in : List (List ℕ) → ℕ → ℕ → Option ℕ
pair_in pairs set key = cond (is_pair pairs set key) (Some (value_in pairs key)) None

-- by the lists of a mapping, in a set
module _ (lists : Lists) (set : ℕ) where
  -- the values of a string's bytes, from the first on: a pair where two bytes are one, else the byte by itself; the last byte always by itself. Behind
  -- an unmapped pair it goes on from the second byte
  unfoldable pub values_of : List ℕ → List ℕ
  values_of [] = []
  values_of (byte ∷ []) = value_in lists.singles byte ∷ []
  values_of (byte ∷ next ∷ rest) =
      cond (is_pair lists.pairs set (pair_key byte next)) (value_in lists.pairs (pair_key byte next) ∷ values_of rest)
      (value_in lists.singles byte ∷ values_of (next ∷ rest))

-- a double's two code points
unfoldable pub double_points : List ℕ → List ℕ
double_points double = get_or double 0 0 ∷ get_or double 1 0 ∷ []

-- "A value is a code point, or 2^31 plus an index into the doubles.": its code points, one or two
unfoldable pub value_points : List (List ℕ) → ℕ → List ℕ
value_points doubles value = cond (ltb value double_base) (value ∷ []) (double_points (get_or doubles (value - double_base) []))

-- the code points of a string's bytes by the lists of a mapping
unfoldable pub points_by : Lists → ℕ → List ℕ → List ℕ
points_by lists set bytes = flat_map (value_points lists.doubles) (values_of lists set bytes)

-- by a mapping
unfoldable pub mapped_points : List ℕ → ℕ → List ℕ → List ℕ
mapped_points words set bytes = points_by (lists_of words) set bytes
