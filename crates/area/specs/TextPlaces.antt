-- Where the texts of a record stand in its table (01, "Area"), and how each ended (02, item 5). Assumes nothing.
use Rattle.std.specs.Prelude.{ℕ, Bool, cond, not, ◌&&◌, ◌||◌, List, eqb}
use Rattle.std.specs.List.{list_any}
use Rattle.sectors.specs.Number.{be_at}
use Rattle.text.specs.String.{string_at, ended_byZero_byte, end_of, present}
use Rattle.area.specs.declared.text_places.TextPlace.{TextPlace}

-- "Absent fields .. are zero": an absent text has no place and no end
abbrev pub no_end : ℕ
no_end = 0

abbrev pub no_text_place : TextPlace
no_text_place = record { place = 0; end = no_end }

-- "Every present text of a record that is a stored string passes that on.": how the string at its place ended
unfoldable pub placed_text : List ℕ → ℕ → TextPlace
placed_text table place = record { place = place; end = end_of table place }

-- whether no text stands at an offset: none does at 0
unfoldable pub is_absent : List ℕ → ℕ → Bool
is_absent table offset = eqb offset 0 || not (present (string_at table offset))

-- the text whose offset stands in two bytes from a place on
unfoldable pub text_place_at : List ℕ → ℕ → TextPlace
text_place_at table at = cond (is_absent table (be_at table at 2)) no_text_place (placed_text table (be_at table at 2))

-- "such a text not ended by a zero byte": one that is present, and ended by another
unfoldable pub is_unterminated : TextPlace → Bool
is_unterminated text = not (eqb text.end no_end) && not (eqb text.end ended_byZero_byte)

-- whether one of a record's texts is such
unfoldable pub any_unterminated : List TextPlace → Bool
any_unterminated texts = list_any is_unterminated texts
