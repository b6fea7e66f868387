-- Laws of fixed text fields: a text of at most 16 bytes, zeros past it. Assumes nothing.
use Rattle.std.specs.Prelude.{ℕ, ◌≤◌, ◌≡◌, List, length, take, replicate}
use Rattle.std.proofs.Common.{arith, sym, length-take, take_all}
use Rattle.std.proofs.Math.Path.{refl, ap}
use Rattle.text.specs.Padded.{padded}
use Rattle.text.specs.PaddedLaws.{TextIn, padded_held, padded_text}
use Rattle.text.specs.String.{until_zero}
use Rattle.text.proofs.StringLaws.{until_length}
use Rattle.text.specs.White.{trimmed}
use Rattle.text.specs.WhiteLaws.{trimmed_length}
use Rattle.text.specs.Fixed.{field_size, field_text, fixed_of, fixed_bytes_of, fixed_text_of}

-- a field of at most 16 bytes is whole: its text ends before its first zero
pub field_text_whole : (field : List ℕ) → length field ≤ field_size → field_text field ≡ until_zero field
unfolding field_text
field_text_whole field h = ap until_zero (take_all field_size field h)

-- a field's text has at most 16 bytes
pub field_text_short : (field : List ℕ) → length (field_text field) ≤ field_size
unfolding field_text
field_text_short field = omega (arith, until_length (take field_size field), length-take field_size field)

-- and no more bytes than the field
pub field_text_length : (field : List ℕ) → length (field_text field) ≤ length field
unfolding field_text
field_text_length field = omega (arith, until_length (take field_size field), length-take field_size field)

-- a trimmed text has at most 16 bytes
pub trimmed_short : (field : List ℕ) → length (trimmed (field_text field)) ≤ field_size
trimmed_short field = omega (arith, trimmed_length (field_text field), field_text_short field)

module _ (field : List ℕ) where
  -- `len` is at most 16, `bytes` has 16 elements, zero from `len` on
  pub fixed_bytes_held : TextIn field_size (fixed_bytes_of field).bytes (fixed_bytes_of field).len
  unfolding fixed_bytes_of fixed_of
  fixed_bytes_held = padded_held field_size (field_text field) (field_text_short field)

  -- the first `len` bytes are the text as stored
  pub fixed_bytes_text : take (fixed_bytes_of field).len (fixed_bytes_of field).bytes ≡ field_text field
  unfolding fixed_bytes_of fixed_of
  fixed_bytes_text = padded_text field_size (field_text field)

  -- the same of the trimmed text
  pub fixed_text_held : TextIn field_size (fixed_text_of field).bytes (fixed_text_of field).len
  unfolding fixed_text_of fixed_of
  fixed_text_held = padded_held field_size (trimmed (field_text field)) (trimmed_short field)

  -- the first `len` bytes are the trimmed text
  pub fixed_text_text : take (fixed_text_of field).len (fixed_text_of field).bytes ≡ trimmed (field_text field)
  unfolding fixed_text_of fixed_of
  fixed_text_text = padded_text field_size (trimmed (field_text field))

  -- `len` is the length of the trimmed text
  pub fixed_text_length : (fixed_text_of field).len ≡ length (trimmed (field_text field))
  unfolding fixed_text_of fixed_of
  fixed_text_length = refl

  -- the text as stored has no more bytes than the field
  pub fixed_bytes_field : (fixed_bytes_of field).len ≤ length field
  unfolding fixed_bytes_of fixed_of
  fixed_bytes_field = field_text_length field

  -- nor has the trimmed text
  pub fixed_text_field : (fixed_text_of field).len ≤ length field
  fixed_text_field = omega (arith, fixed_text_length, trimmed_length (field_text field), field_text_length field)

  -- a trimmed text without bytes is 16 zeros, of which none counts
  pub fixed_text_empty : (fixed_text_of field).len ≡ 0 → fixed_text_of field ≡ record { bytes = replicate field_size 0; len = 0 }
  unfolding fixed_text_of fixed_of padded
  fixed_text_empty e = ap fixed_of (sym (take_all 0 (trimmed (field_text field)) (omega arith)))
