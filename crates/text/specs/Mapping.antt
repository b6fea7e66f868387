-- A lent mapping of a character set to Unicode, as 32-bit words (02, item 1): where its parts stand, whether words are one, and the
-- value of a key. Assumes nothing.
use Rattle.std.specs.Prelude.{◌≡◌, ℕ, ◌+◌, ◌*◌, ◌/◌, ◌^◌, ◌<◌, ◌≤◌, Bool, true, cond, not, ◌&&◌, ◌||◌, Option, Some, None, List, [], ◌∷◌, leb, ltb, eqb, length, get_or, take, drop, flat_map}
use Rattle.std.specs.List.{list_all}
use Rattle.std.specs.Simd.{first_chunks}

-- ---- where its parts stand
-- "a count of singles and then (byte, value), a count of pairs and then (two-byte key, its first byte the higher, value), a count of doubles and
-- then two code points each": behind a count two words for each that it counts. A count that is missing counts none
unfoldable pub count_at : List ℕ → ℕ → ℕ
count_at words at = get_or words at 0

-- the place behind the entries whose count stands at a place
unfoldable pub behind : List ℕ → ℕ → ℕ
behind words at = at + 1 + 2 * count_at words at

-- words two at a time; one that is left over is in none
unfoldable pub twos : List ℕ → List (List ℕ)
twos words = first_chunks 2 (length words / 2) words

-- those entries, two words each, that the words have; of words that end before them, those that are whole
unfoldable pub entries_at : List ℕ → ℕ → List (List ℕ)
entries_at words at = twos (take (2 * count_at words at) (drop (at + 1) words))

-- what the code cuts from the start of words: the entries that a count there counts, fewer than 2^32, and the words behind them
pub record Counts (words : List ℕ) (entries : List (List ℕ)) (rest : List ℕ) : Type 0 where
  pub inside : behind words 0 ≤ length words
  pub few : length entries < 2 ^ 32
  pub are : entries ≡ entries_at words 0
  pub left : rest ≡ drop (behind words 0) words

-- the places of the three counts, and the end
abbrev pub singles_at : ℕ
singles_at = 0

unfoldable pub pairs_at : List ℕ → ℕ
pairs_at words = behind words singles_at

unfoldable pub doubles_at : List ℕ → ℕ
doubles_at words = behind words (pairs_at words)

unfoldable pub words_end : List ℕ → ℕ
words_end words = behind words (doubles_at words)

-- the three lists
unfoldable pub singles_of : List ℕ → List (List ℕ)
singles_of words = entries_at words singles_at

unfoldable pub pairs_of : List ℕ → List (List ℕ)
pairs_of words = entries_at words (pairs_at words)

-- as many as their count says, whether the words have them or not
unfoldable pub doubles_of : List ℕ → List (List ℕ)
doubles_of words = first_chunks 2 (count_at words (doubles_at words)) (drop (doubles_at words + 1) words)

pub record Lists : Type 0 where
  pub singles : List (List ℕ)
  pub pairs : List (List ℕ)
  pub doubles : List (List ℕ)

unfoldable pub lists_of : List ℕ → Lists
lists_of words = record { singles = singles_of words; pairs = pairs_of words; doubles = doubles_of words }

-- of an entry the first word is its key, the second its value
abbrev pub key_of : List ℕ → ℕ
key_of entry = get_or entry 0 0

abbrev pub value_of : List ℕ → ℕ
value_of entry = get_or entry 1 0

-- ---- whether words are a mapping
-- "a count missing or beyond its words", "or words left over", "no words follow": none of these. (Where a count is beyond its words the next is
-- missing, or the end is past the words.)
unfoldable pub is_whole : List ℕ → Bool
is_whole words =
    ltb singles_at (length words) && ltb (pairs_at words) (length words) && ltb (doubles_at words) (length words) && eqb (words_end words) (length words)

-- Unicode's surrogates
abbrev pub first_surrogate : ℕ
first_surrogate = 0xd800

abbrev pub last_surrogate : ℕ
last_surrogate = 0xdfff

unfoldable pub is_surrogate : ℕ → Bool
is_surrogate n = leb first_surrogate n && leb n last_surrogate

-- "hexadecimal 10FFFF"
abbrev pub last_point : ℕ
last_point = 0x10ffff

-- "a code point that is a surrogate or above hexadecimal 10FFFF": any other number is fine
unfoldable pub is_point : ℕ → Bool
is_point n = leb n last_point && not (is_surrogate n)

-- "2^31 plus an index into the doubles"
abbrev pub double_base : ℕ
double_base = 0x80000000

-- "A value is a code point, or 2^31 plus an index into the doubles.", of which there are so many
unfoldable pub is_value : ℕ → ℕ → Bool
is_value count value = is_point value || leb double_base value && ltb value (double_base + count)

-- "Keys rise strictly", "a repeated or falling key": each is above the one before it, and so at least `least`, one more. "a key beyond its width": each
-- is below it. "an index beyond the doubles": each value is one, of so many doubles
unfoldable pub entries_sound : ℕ → ℕ → ℕ → List (List ℕ) → Bool
entries_sound width count least [] = true
entries_sound width count least (entry ∷ rest) =
    leb least (key_of entry) && ltb (key_of entry) width && is_value count (value_of entry) && entries_sound width count (key_of entry + 1) rest

-- every number is a code point
unfoldable pub all_points : List ℕ → Bool
all_points points = list_all is_point points

-- "byte"
abbrev pub single_width : ℕ
single_width = 256

-- "two-byte key"
abbrev pub pair_width : ℕ
pair_width = 65536

-- what stands in the three lists; keys rise in each by itself. "two code points each": every word of the doubles is one
unfoldable pub is_sound : Lists → Bool
is_sound lists =
    entries_sound single_width (length lists.doubles) 0 lists.singles
    && entries_sound pair_width (length lists.doubles) 0 lists.pairs
    && all_points (flat_map (λ double. double) lists.doubles)

-- none of what "12" names
unfoldable pub is_mapping : List ℕ → Bool
is_mapping words = is_whole words && is_sound (lists_of words)

-- the lists of words that are a mapping
unfoldable pub mapping_in : List ℕ → Option Lists
mapping_in words = cond (is_mapping words) (Some (lists_of words)) None

-- ---- the value of a key
-- that of the first entry with the key; in a mapping there is at most one
unfoldable pub lookup_in : ℕ → List (List ℕ) → Option ℕ
lookup_in key [] = None
lookup_in key (entry ∷ rest) = cond (eqb (key_of entry) key) (Some (value_of entry)) (lookup_in key rest)

-- the key of the entry at a place
abbrev pub key_at : List (List ℕ) → ℕ → ℕ
key_at entries i = key_of (get_or entries i [])

-- keys that rise, by their places: any entry's is below any later one's
abbrev pub Rising : List (List ℕ) → Type 0
Rising entries = (i j : ℕ) → i < j → j < length entries → key_at entries i < key_at entries j
