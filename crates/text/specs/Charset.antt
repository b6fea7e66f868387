-- The character set that a code names (01, "Text"). Assumes nothing.
use Rattle.std.specs.Prelude.{ℕ, Bool, cond, ◌&&◌, leb}
use Rattle.std.specs.Int.Bits.{bit_and}
use Rattle.text.specs.declared.charset.CharacterSet.{CharacterSet}
use Rattle.text.specs.declared.charset.CharacterSet.TheVariants as set

-- "Set is code AND 7"
unfoldable pub set_of : ℕ → ℕ
set_of code = bit_and code 7

-- "3 to 6 are the four tables whose data files the team doesn't have"
unfoldable pub is_mapped : ℕ → Bool
is_mapped n = leb 3 n && leb n 6

-- the number that stands for Latin-1 in an answer
abbrev pub latin1 : ℕ
latin1 = 0

-- "3 to 6 are the four tables .., all others Latin-1"
unfoldable pub charset_of : ℕ → ℕ
charset_of code = cond (is_mapped (set_of code)) (set_of code) latin1

-- the number of each set: its code, and `latin1`
unfoldable pub set_number : CharacterSet → ℕ
set_number set.Latin1 = latin1
set_number set.ShiftJisX0213 = 3
set_number set.EucKr = 4
set_number set.EucCn = 5
set_number set.Big5 = 6
