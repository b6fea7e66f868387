-- Laws of UTF-8: what a code point of each size gives, and how long a text can be. Assumes nothing.
use Rattle.std.specs.Prelude.{◌≡◌, refl, Bool, true, false, ℕ, ◌+◌, ◌*◌, ◌/◌, ◌%◌, ◌≤◌, ◌<◌, ltb, length, get_or, take, drop}
use Rattle.std.proofs.Common.{sym, ap, ◌∙◌, subst, div-one, add-one, arith, lt-ltb, le-ltb, ltb-true, ltb-false, length-append, take-append-drop}
use mathlib.Core.List.{List, [], ◌∷◌, ◌++◌, map, flat_map, append_assoc, append-nil}
use Rattle.text.specs.Utf8.{groups, marked, utf8, blank, blanked, encoded}

-- one byte below hexadecimal 80
pub utf8_one : (point : ℕ) → point < 0x80 → utf8 point ≡ point ∷ []
unfolding utf8 marked groups
utf8_one point h = simp (lt-ltb point 0x80 h)

-- two below 800
pub utf8_two : (point : ℕ) → 0x80 ≤ point → point < 0x800 → utf8 point ≡ (0xc0 + point / 64) ∷ (0x80 + point % 64) ∷ []
unfolding utf8 marked groups
utf8_two point l h = simp (le-ltb point 0x80 l, lt-ltb point 0x800 h, div-one)

-- three below 10000
pub utf8_three : (point : ℕ) → 0x800 ≤ point → point < 0x10000
    → utf8 point ≡ (0xe0 + point / 4096) ∷ (0x80 + point / 64 % 64) ∷ (0x80 + point % 64) ∷ []
unfolding utf8 marked groups
utf8_three point l h = simp (le-ltb point 0x80 (omega arith), le-ltb point 0x800 l, lt-ltb point 0x10000 h, div-one)

-- four from there on
pub utf8_four : (point : ℕ) → 0x10000 ≤ point
    → utf8 point ≡ (0xf0 + point / 262144) ∷ (0x80 + point / 4096 % 64) ∷ (0x80 + point / 64 % 64) ∷ (0x80 + point % 64) ∷ []
unfolding utf8 marked groups
utf8_four point l = simp (le-ltb point 0x80 (omega arith), le-ltb point 0x800 (omega arith), le-ltb point 0x10000 l, div-one)

-- the examples of the Unicode Standard, 3.9, table 3-4
pub utf8_examples : map utf8 (0x4d ∷ 0x430 ∷ 0x4e8c ∷ 0x10302 ∷ [])
    ≡ (0x4d ∷ []) ∷ (0xd0 ∷ 0xb0 ∷ []) ∷ (0xe4 ∷ 0xba ∷ 0x8c ∷ []) ∷ (0xf0 ∷ 0x90 ∷ 0x8c ∷ 0x82 ∷ []) ∷ []
unfolding utf8 marked groups
utf8_examples = refl

-- what holds of one, two, three and four bytes holds of every code point's
by_size : (P : List ℕ → Type 0) (point : ℕ) → P (point ∷ []) → ((a b : ℕ) → P (a ∷ b ∷ [])) → ((a b c : ℕ) → P (a ∷ b ∷ c ∷ []))
    → ((a b c d : ℕ) → P (a ∷ b ∷ c ∷ d ∷ [])) → P (utf8 point)
by_size P point one two three four = from_one (ltb point 0x80) refl
  where
    from_three : (t : Bool) → 0x800 ≤ point → ltb point 0x10000 ≡ t → P (utf8 point)
    from_three true l e = subst P (sym (utf8_three point l (ltb-true point 0x10000 e))) (three _ _ _)
    from_three false l e = subst P (sym (utf8_four point (ltb-false point 0x10000 e))) (four _ _ _ _)

    from_two : (t : Bool) → 0x80 ≤ point → ltb point 0x800 ≡ t → P (utf8 point)
    from_two true l e = subst P (sym (utf8_two point l (ltb-true point 0x800 e))) (two _ _)
    from_two false l e = from_three (ltb point 0x10000) (ltb-false point 0x800 e) refl

    from_one : (t : Bool) → ltb point 0x80 ≡ t → P (utf8 point)
    from_one true e = subst P (sym (utf8_one point (ltb-true point 0x80 e))) one
    from_one false e = from_two (ltb point 0x800) (ltb-false point 0x80 e) refl

-- a code point gives one to four bytes
pub utf8_length : (point : ℕ) → (1 ≤ length (utf8 point)) × (length (utf8 point) ≤ 4)
utf8_length point =
    by_size (λ (l : List ℕ). (1 ≤ length l) × (length l ≤ 4)) point (omega arith, omega arith) (λ a b. (omega arith, omega arith)) (λ a b c. (omega arith, omega arith))
    (λ a b c d. (omega arith, omega arith))

-- one that gives one byte gives itself
pub utf8_alone : (point : ℕ) → length (utf8 point) ≡ 1 → utf8 point ≡ point ∷ []
utf8_alone point =
    by_size (λ (l : List ℕ). length l ≡ 1 → l ≡ point ∷ []) point (λ e. refl) (λ a b e. absurd (omega arith)) (λ a b c e. absurd (omega arith))
    (λ a b c d e. absurd (omega arith))

-- below 32 there is a blank
pub blanked_low : (point : ℕ) → point < 32 → blanked point ≡ blank
unfolding blanked
blanked_low point h = simp (lt-ltb point 32 h)

-- from there on a code point stays
pub blanked_high : (point : ℕ) → 32 ≤ point → blanked point ≡ point
unfolding blanked
blanked_high point h = simp (le-ltb point 32 h)

-- a bound above 32 is kept
pub blanked_below : (point bound : ℕ) → point < bound → 32 < bound → blanked point < bound
unfolding blanked
blanked_below point bound h k = go (ltb point 32) refl
  where
    go : (t : Bool) → ltb point 32 ≡ t → blanked point < bound
    go true e = omega (arith, blanked_low point (ltb-true point 32 e))
    go false e = omega (arith, blanked_high point (ltb-false point 32 e))

-- of a Latin-1 byte: one byte below hexadecimal 80, two from there on
pub latin1_size : (byte : ℕ) → byte < 256 → length (utf8 (blanked byte)) ≡ 1 + byte / 0x80
latin1_size byte h = go (ltb byte 0x80) refl
  where
    go : (t : Bool) → ltb byte 0x80 ≡ t → length (utf8 (blanked byte)) ≡ 1 + byte / 0x80
    go true e =
        let low = ltb-true byte 0x80 e in
        ap length (utf8_one (blanked byte) (blanked_below byte 0x80 low (omega arith))) ∙ omega arith
    go false e =
        let high = ltb-false byte 0x80 e in
        ap (λ (p : ℕ). length (utf8 p)) (blanked_high byte (omega arith)) ∙ ap length (utf8_two byte high (omega arith)) ∙ omega arith

-- the texts of two lists, one after the other
pub encoded_append : (a b : List ℕ) → encoded (a ++ b) ≡ encoded a ++ encoded b
unfolding encoded flat_map
encoded_append [] b = refl
encoded_append (x ∷ xs) b = rw (encoded_append xs b) (sym (append_assoc (utf8 (blanked x)) (encoded xs) (encoded b)))

-- of no code points there is no text
pub encoded_none : encoded [] ≡ []
unfolding encoded flat_map
encoded_none = refl

-- one code point more
pub encoded_snoc : (points : List ℕ) (point : ℕ) → encoded (points ++ (point ∷ [])) ≡ encoded points ++ utf8 (blanked point)
unfolding encoded flat_map
encoded_snoc points point = encoded_append points (point ∷ []) ∙ ap (λ (t : List ℕ). encoded points ++ t) (append-nil (utf8 (blanked point)))

-- the front of a text is no longer than the whole
pub encoded_front : (l : List ℕ) (i : ℕ) → length (encoded (take i l)) ≤ length (encoded l)
encoded_front l i =
    let whole = ap (λ (m : List ℕ). length (encoded m)) (take-append-drop i l) in
    let parts = ap length (encoded_append (take i l) (drop i l)) ∙ length-append (encoded (take i l)) (encoded (drop i l)) in
    omega arith

-- any code points give at most four bytes each, and at least one
pub encoded_length : (points : List ℕ) → (length points ≤ length (encoded points)) × (length (encoded points) ≤ 4 * length points)
unfolding encoded flat_map
encoded_length [] = (omega arith, omega arith)
encoded_length (x ∷ xs) =
    let size = utf8_length (blanked x) in
    let rest = encoded_length xs in
    let sum = length-append (utf8 (blanked x)) (encoded xs) in
    (omega arith, omega arith)

-- Latin-1 at most two bytes each
pub latin1_length : (bytes : List ℕ) → ((i : ℕ) → get_or bytes i 0 < 256) → length (encoded bytes) ≤ 2 * length bytes
unfolding encoded flat_map
latin1_length [] small = omega arith
latin1_length (x ∷ xs) small =
    let size = latin1_size x (small 0) in
    let rest = latin1_length xs (λ i. rw add-one at (small (i + 1))) in
    let sum = length-append (utf8 (blanked x)) (encoded xs) in
    let b = small 0 in
    omega arith

-- a text of as many bytes as code points has each as a byte
pub encoded_same : (points : List ℕ) → length (encoded points) ≡ length points → encoded points ≡ map blanked points
unfolding encoded flat_map
encoded_same [] e = refl
encoded_same (x ∷ xs) e =
    let size = utf8_length (blanked x) in
    let rest = encoded_length xs in
    let sum = length-append (utf8 (blanked x)) (encoded xs) in
    rw (utf8_alone (blanked x) (omega arith)) (ap (λ (l : List ℕ). blanked x ∷ l) (encoded_same xs (omega arith)))
