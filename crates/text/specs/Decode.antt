-- Decoding a string into a lent page (01, "Text" and "What the desk gets back"), those of sets 3 to 6 by a lent mapping (02, item 1). Assumes nothing.
use Rattle.std.specs.Prelude.{ℕ, cond, List, [], leb, eqb, length, Result, Ok, Err}
use Rattle.sectors.specs.Fill.{fill}
use Rattle.text.specs.Refusal.{set_not_held, short_page, bad_mapping, number_of}
use Rattle.text.specs.String.{present}
use Rattle.text.specs.Charset.{set_of, is_mapped}
use Rattle.text.specs.Mapping.{is_mapping}
use Rattle.text.specs.Mapped.{mapped_points}
use Rattle.text.specs.Utf8.{encoded}
use Rattle.text.specs.declared.decode.DecodeAnswer.{DecodeAnswer}
use Rattle.text.specs.declared.decode.DecodeRefusal.{DecodeRefusal}

-- What a string gives, however long the page: a refusal, or its code points.
pub data Decoded : Type 0 where
  refused : ℕ → Decoded
  gives : List ℕ → Decoded

-- "Latin-1": each byte is its own code point
unfoldable pub latin1_points : List ℕ → List ℕ
latin1_points bytes = bytes

-- "Refusal 9 now comes only for a mapping of no words. Checks: 12, only for a present text of set 3 to 6, a mapping with a count missing ..; after 9,
-- before 10." (02, item 1)
unfoldable pub mapped_of : List ℕ → ℕ → List ℕ → Decoded
mapped_of words set bytes =
    cond (eqb (length words) 0) (refused set_not_held) (cond (is_mapping words) (gives (mapped_points words set bytes)) (refused bad_mapping))

-- "An absent text answers length 0 in every set and never meets 9.": nor 12
unfoldable pub unless_absent : List ℕ → Decoded → Decoded
unless_absent bytes given = cond (present bytes) given (gives [])

-- "3 to 6 are the four tables ..", by the lent words; "all others Latin-1", without a look at them
unfoldable pub points_of : List ℕ → ℕ → List ℕ → Decoded
points_of bytes code words = unless_absent bytes (cond (is_mapped (set_of code)) (mapped_of words (set_of code) bytes) (gives (latin1_points bytes)))

-- the answer of a refusal, and of a text of so many bytes
unfoldable pub refusing : ℕ → DecodeAnswer
refusing number = record { refusal = number; len = 0 }

unfoldable pub giving : ℕ → DecodeAnswer
giving n = record { refusal = 0; len = n }

-- "A refusal returns its number": this paper's number and values for each case of what decoding answers
unfoldable pub answer_by : Result ℕ DecodeRefusal → DecodeAnswer
answer_by (Ok n) = giving n
answer_by (Err refusal) = refusing (number_of refusal)

-- "10 | short page | decoded text longer than the page lent": the answer in a page of so many bytes; 10 only if nothing else is refused
unfoldable pub answer_in : ℕ → Decoded → DecodeAnswer
answer_in size (refused number) = refusing number
answer_in size (gives points) = cond (leb (length (encoded points)) size) (giving (length (encoded points))) (refusing short_page)

-- "Decoding fills the start of the page, the rest unchanged." "Every refusal .. changes no lent memory."
unfoldable pub page_with : Decoded → List ℕ → List ℕ
page_with (refused number) page = page
page_with (gives points) page = cond (leb (length (encoded points)) (length page)) (fill 0 (encoded points) page) page

-- the answer of decoding into a page of so many bytes
unfoldable pub decode_of : List ℕ → ℕ → List ℕ → ℕ → DecodeAnswer
decode_of bytes code words size = answer_in size (points_of bytes code words)

-- the page after it
unfoldable pub decode_into : List ℕ → ℕ → List ℕ → List ℕ → List ℕ
decode_into bytes code words page = page_with (points_of bytes code words) page
