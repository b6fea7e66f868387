-- The numbers of refusals (01, "What the desk gets back"; 02, item 7) that this layer gives; 0 where nothing is refused.
use Rattle.std.specs.Prelude.{ℕ, Result, Ok, Err}
use Rattle.sectors.specs.declared.refusal.Refusal.{Refusal}
use Rattle.sectors.specs.declared.refusal.Refusal.TheVariants as refusal

-- "1 | foreign format | format is not 0 (`Plain`), 1 (`Raw2054`), 2 (`Raw2064`)"
abbrev pub foreign_format : ℕ
foreign_format = 1

-- "2 | short bench | a lent buffer is below its size"
abbrev pub short_buffer : ℕ
short_buffer = 2

-- "8 | no such entry | .. sector not in the image"
abbrev pub no_such_entry : ℕ
no_such_entry = 8

-- "11 | no header | audit of format 0 or 1"
abbrev pub no_header : ℕ
no_header = 11

-- 02, item 7: "14, beyond mending, exactly when no such header exists"
abbrev pub beyond_mending : ℕ
beyond_mending = 14

-- "a definition states this paper's number and values for each of the enum's cases" (01)
unfoldable pub number_of : Refusal → ℕ
number_of refusal.ForeignFormat = foreign_format
number_of refusal.ShortBuffer = short_buffer
number_of refusal.NoSuchEntry = no_such_entry
number_of refusal.NoHeader = no_header
number_of refusal.BeyondMending = beyond_mending

-- the number of an answer: 0 where nothing is refused
unfoldable pub refusal_of : {A : Type 0} → Result A Refusal → ℕ
refusal_of (Ok _) = 0
refusal_of (Err r) = number_of r
