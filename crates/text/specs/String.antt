-- Stored strings (01, "Text"), how they end (02, item 5), and those that a record places in its table (01, "Area"). Assumes nothing.
use Rattle.std.specs.Prelude.{ℕ, ◌+◌, min, Bool, cond, not, List, [], eqb, ltb, length, take_while}
use Rattle.sectors.specs.Fill.{part}
use Rattle.text.specs.declared.string.StringEnd.{StringEnd}
use Rattle.text.specs.declared.string.StringEnd.TheVariants as end

-- a byte that is no "zero byte"
unfoldable pub nonzero : ℕ → Bool
nonzero b = not (eqb b 0)

-- "before the first zero byte"
unfoldable pub until_zero : List ℕ → List ℕ
until_zero bytes = take_while nonzero bytes

-- "after 4,096 bytes"
abbrev pub max_string_bytes : ℕ
max_string_bytes = 4096

-- "A stored string starts at a place and ends before the first zero byte, after 4,096 bytes, or at the end of its table".
unfoldable pub string_at : List ℕ → ℕ → List ℕ
string_at table place = until_zero (part place max_string_bytes table)

-- "Its bytes are handed back as a part of the caller's table.": they begin at the string's place, or at the table's end if the place is
-- past it
unfoldable pub string_start : List ℕ → ℕ → ℕ
string_start table place = min place (length table)

-- "A stored string shall also say how it ended: zero byte, 4,096 bytes, or end of table." (02, item 5)
abbrev pub ended_byZero_byte : ℕ
ended_byZero_byte = 1

abbrev pub ended_byMax_bytes : ℕ
ended_byMax_bytes = 2

abbrev pub ended_byTable_end : ℕ
ended_byTable_end = 3

unfoldable pub end_number : StringEnd → ℕ
end_number end.ZeroByte = ended_byZero_byte
end_number end.MaxBytes = ended_byMax_bytes
end_number end.TableEnd = ended_byTable_end

-- "Where 4,096 bytes reach just to the end of the table or to a zero byte, it says 4,096 bytes.": that is asked first. In a table of so many bytes, of
-- the string at a place that has so many
unfoldable pub end_by : ℕ → ℕ → ℕ → ℕ
end_by size place len = cond (eqb len max_string_bytes) ended_byMax_bytes (cond (ltb (place + len) size) ended_byZero_byte ended_byTable_end)

-- of the string at a place
unfoldable pub end_of : List ℕ → ℕ → ℕ
end_of table place = end_by (length table) place (length (string_at table place))

-- "Present means at least one byte."
unfoldable pub present : List ℕ → Bool
present bytes = ltb 0 (length bytes)

-- "Absent fields .. are zero": the string that a record places in a table, none for place 0
unfoldable pub placed_string : List ℕ → ℕ → List ℕ
placed_string table place = cond (eqb place 0) [] (string_at table place)
