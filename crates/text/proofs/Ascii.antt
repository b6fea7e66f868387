-- ASCII strings: found by a scan, and their own text. Assumes nothing.
use Rattle.std.specs.Prelude.{◌≡◌, ℕ, ◌<◌, List, [], ◌∷◌, ltb, length, get_or, take, take_while, true, false, Bool, ◌+◌, cond, not}
use mathlib.Core.List.{flat_map}
use Rattle.std.specs.Str.{IsAscii}
use Rattle.std.specs.List.{prefix_len}
use Rattle.std.proofs.Common.{refl, sym, ap, suc, arith, length-append, ltb-true, ltb-false}
use Rattle.std.proofs.Math.Bool.{and-eq-true_iff}
use Rattle.std.proofs.lemmas.List.{get_or-take, get_or_past}
use Rattle.std.proofs.lemmas.List.Folds.{length-prefix_len}
use Rattle.std.proofs.lemmas.List.Sums.{prefix_len_is, prefix_len-le-length, prefix_len_passes}
use Rattle.text.specs.Utf8.{utf8, blanked, encoded}
use Rattle.text.specs.Utf8Laws.{utf8_one, blanked_below, latin1_size}
use Rattle.text.specs.String.{nonzero, until_zero}
use Rattle.text.proofs.StringLaws.{eq_nonzero}
use Rattle.text.specs.Ascii.{is_stored_ascii}

-- the text of an ASCII string is as long as the string
pub ascii_length : (points : List ℕ) → IsAscii points → length (encoded points) ≡ length points
unfolding encoded flat_map
ascii_length [] small = refl
ascii_length (x ∷ xs) small =
    let size = ap length (utf8_one (blanked x) (blanked_below x 0x80 (small 0) (omega arith))) in
    let sum = length-append (utf8 (blanked x)) (encoded xs) in
    omega (arith, ascii_length xs (λ i. small (suc i)))

-- a Latin-1 byte has a byte of text, and one more if it is not ASCII
pub latin1_more : (byte : ℕ) → byte < 256 → length (utf8 (blanked byte)) ≡ 1 + cond (not (ltb byte 0x80)) 1 0
latin1_more byte small = go (ltb byte 0x80) refl
  where
    go : (t : Bool) → ltb byte 0x80 ≡ t → length (utf8 (blanked byte)) ≡ 1 + cond (not t) 1 0
    go true e = let low = ltb-true byte 0x80 e in omega (arith, latin1_size byte small)
    go false e = let high = ltb-false byte 0x80 e in omega (arith, latin1_size byte small)

module _ (l : List ℕ) where
  -- a byte that stands before the first that is zero or not ASCII
  stored_byte : (i : ℕ) → i < prefix_len is_stored_ascii l → (nonzero (get_or l i 0) ≡ true) × (ltb (get_or l i 0) 0x80 ≡ true)
  unfolding is_stored_ascii
  stored_byte i h = (and-eq-true_iff (nonzero (get_or l i 0)) (ltb (get_or l i 0) 0x80)).0 (prefix_len_passes is_stored_ascii l i 0 h)

  -- what stands before it is ASCII
  pub stored_ascii : IsAscii (take_while is_stored_ascii l)
  stored_ascii i = go (ltb i (prefix_len is_stored_ascii l)) refl
    where
      n : ℕ
      n = prefix_len is_stored_ascii l

      go : (t : Bool) → ltb i n ≡ t → get_or (take n l) i 0 < 128
      go true e =
          let inside : i < n = ltb-true i n e in
          rw (get_or-take n l i 0 inside) (ltb-true (get_or l i 0) 0x80 (stored_byte i inside).1)
      go false e = rw (get_or_past (take n l) i 0 (omega (arith, length-prefix_len is_stored_ascii l, ltb-false i n e))) (omega arith)

  -- where a zero byte or the end follows, it is all that stands before the first zero byte
  pub stored_until : get_or l (length (take_while is_stored_ascii l)) 0 ≡ 0 → take_while is_stored_ascii l ≡ until_zero l
  unfolding until_zero
  stored_until z =
      let n = prefix_len is_stored_ascii l in
      let zero = rw (length-prefix_len is_stored_ascii l) at z in
      ap (λ (k : ℕ). take k l)
      (sym (prefix_len_is nonzero l n 0 (prefix_len-le-length is_stored_ascii l) (λ i h. (stored_byte i h).0) (λ h. eq_nonzero (get_or l n 0) zero)))
