-- The numbers of refusals (01, "What the desk gets back"; 02) that decoding gives; 0 where nothing is refused.
use Rattle.std.specs.Prelude.{ℕ}
use Rattle.sectors.specs.Refusal.{short_buffer, no_such_entry}
use Rattle.text.specs.declared.decode.DecodeRefusal.{DecodeRefusal}
use Rattle.text.specs.declared.decode.DecodeRefusal.TheVariants as refusal

-- "9 | set not held | decoding a present text of set 3 to 6". "Refusal 9 now comes only for a mapping of no words." (02, item 1)
abbrev pub set_not_held : ℕ
set_not_held = 9

-- "10 | short page | decoded text longer than the page lent"
abbrev pub short_page : ℕ
short_page = 10

-- "12, only for a present text of set 3 to 6, a mapping with a count missing .." (02, item 1)
abbrev pub bad_mapping : ℕ
bad_mapping = 12

-- 01's number for each refusal of decoding: 2 and 8 are given where a text is sought by an area's or a disc's record
unfoldable pub number_of : DecodeRefusal → ℕ
number_of refusal.ShortBuffer = short_buffer
number_of refusal.NoSuchEntry = no_such_entry
number_of refusal.SetNotHeld = set_not_held
number_of refusal.ShortPage = short_page
number_of refusal.BadMapping = bad_mapping
