-- UTF-8 (the Unicode Standard, 3.9, table 3-6, "UTF-8 Bit Distribution"; 01, "Text"). Assumes nothing.
use Rattle.std.specs.Prelude.{ℕ, zero, suc, ◌+◌, ◌/◌, ◌%◌, ◌^◌, cond, ltb}
use mathlib.Core.List.{List, [], ◌∷◌, flat_map}

-- the bytes behind the first, 10xxxxxx each: the lowest `n` groups of six bits, the highest first
unfoldable pub groups : ℕ → ℕ → List ℕ
groups zero point = []
groups (suc n) point = (0x80 + point / 64 ^ n % 64) ∷ groups n point

-- a first byte, that marks how many follow, with the bits above those of the `n` bytes behind it
unfoldable pub marked : ℕ → ℕ → ℕ → List ℕ
marked mark n point = (mark + point / 64 ^ n) ∷ groups n point

-- "0xxxxxxx", "110yyyyy 10xxxxxx", "1110zzzz 10yyyyyy 10xxxxxx", "11110uuu 10uuzzzz 10yyyyyy 10xxxxxx": as many as the code point needs.
-- (Unicode gives surrogates, and numbers above hexadecimal 10FFFF, no UTF-8; here they follow the same rule.)
unfoldable pub utf8 : ℕ → List ℕ
utf8 point =
    cond (ltb point 0x80) (point ∷ [])
    (cond (ltb point 0x800) (marked 0xc0 1 point)
    (cond (ltb point 0x10000) (marked 0xe0 2 point) (marked 0xf0 3 point)))

-- "becoming a blank"
abbrev pub blank : ℕ
blank = 0x20

-- "bytes below 32 becoming a blank": code points below 32 do, which in Latin-1 is the same and by a mapping is what `decode_string` does
unfoldable pub blanked : ℕ → ℕ
blanked point = cond (ltb point 32) blank point

-- "becomes UTF-8 (Unicode), bytes below 32 becoming a blank": the UTF-8 of code points
unfoldable pub encoded : List ℕ → List ℕ
encoded points = flat_map (λ point. utf8 (blanked point)) points
