-- Laws of language codes: at most two characters, zeros past them, and what is taken away. Assumes nothing.
use Rattle.std.specs.Prelude.{ℕ, ◌≤◌, ◌≡◌, List, length, take}
use Rattle.std.proofs.Common.{arith}
use Rattle.text.specs.WhileLaws.{CutTo, drop_while_end_cut, drop_while_end_length}
use Rattle.text.specs.PaddedLaws.{TextIn, padded_held, padded_text}
use Rattle.text.specs.Language.{language_size, is_zero_orBlank, language_text, language_of}

module _ (code : List ℕ) where
  -- what is taken away is a tail of zeros and blanks, and what is left is empty or ends with neither
  pub language_cut : CutTo is_zero_orBlank 0 code (language_text code)
  unfolding language_text
  language_cut = drop_while_end_cut is_zero_orBlank 0 code

  -- of two characters, `len` is at most 2, and `bytes` has 2 elements, zero from `len` on
  pub language_held : length code ≤ language_size → TextIn language_size (language_of code).bytes (language_of code).len
  unfolding language_of language_text
  language_held h =
      padded_held language_size (language_text code) (omega (arith, drop_while_end_length is_zero_orBlank code))

  -- the first `len` bytes are the code's text
  pub language_text_lem : take (language_of code).len (language_of code).bytes ≡ language_text code
  unfolding language_of
  language_text_lem = padded_text language_size (language_text code)
