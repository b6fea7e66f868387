-- Laws that proofs of functions use together. Assumes nothing.
use Rattle.text.specs.Utf8Laws.{utf8_one, utf8_two, utf8_three, utf8_four}
use Rattle.text.proofs.DecodeLaws.{absent_is, present_is, answer_none, page_none, mapped_none, mapped_bad, mapped_good, answer_short, answer_fits, page_short, page_fits}
use Rattle.std.proofs.lemmas.List.Sums.{prefix_len-le-length, suffix_len-le-length}
use Rattle.text.specs.WhileLaws.{while_front, while_length}
use Rattle.text.proofs.Ascii.{stored_ascii, stored_until}

-- the bytes of a code point, by its size
pub ruleset utf8_sizes = (utf8_one, utf8_two, utf8_three, utf8_four)

-- the answer and the page of code points, by whether they fit
pub ruleset in_page = (answer_short, answer_fits, page_short, page_fits)

-- what a string of set 3 to 6 gives, by case, and its answer and page
pub ruleset mapped = (absent_is, present_is, mapped_none, mapped_bad, mapped_good, answer_none, page_none, in_page)

-- the ASCII bytes at the start of a list
pub ruleset ascii_front = (while_front, while_length, stored_ascii, stored_until)

-- what passes a test at the start of a list, or at its end, is no longer than the list
pub ruleset run_lengths = (prefix_len-le-length, suffix_len-le-length)
