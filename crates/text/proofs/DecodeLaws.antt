-- Laws of decoding: what each string gives, and when each refusal comes. Assumes nothing.
use Rattle.std.specs.Prelude.{◌≡◌, Bool, true, false, cond, ℕ, zero, suc, ◌*◌, ◌≤◌, ◌<◌, leb, eqb, get_or}
use Rattle.std.proofs.Math.Path.{refl, ap}
use Rattle.std.proofs.Common.{sym, ◌∙◌, le-ltb, lt-ltb, le-leb, leb-true, leb-false, eq-eqb, ne_eqb, eqb-true}
use mathlib.Core.List.{List, [], ◌∷◌}
use native.Mathlib.Omega.{arith}
use Rattle.std.proofs.lemmas.Bool.{lt-leb, eqb-false}
use Rattle.std.proofs.Math.ListN.{length}
use Rattle.sectors.specs.Fill.{fill}
use Rattle.sectors.specs.FillLaws.{fill_none, length_fill}
use Rattle.text.specs.Refusal.{set_not_held, short_page, bad_mapping}
use Rattle.text.specs.String.{present}
use Rattle.text.specs.Charset.{set_of, is_mapped, charset_of, set_number}
use Rattle.text.specs.CharsetLaws.{charset_mapped, latin1_unmapped, not_latin1_mapped, latin1_number, latin1_alone}
use Rattle.text.specs.declared.charset.CharacterSet.{CharacterSet}
use Rattle.text.specs.declared.charset.CharacterSet.TheVariants as set
use Rattle.text.specs.Mapping.{all_points, is_mapping}
use Rattle.text.specs.Mapped.{mapped_points}
use Rattle.text.proofs.MappedLaws.{bytes_sound, text_most, text_some, mapped_sound}
use Rattle.text.specs.Utf8.{encoded}
use Rattle.text.specs.Utf8Laws.{encoded_none, encoded_length, latin1_length}
use Rattle.text.specs.Decode.{Decoded, refused, gives, latin1_points, mapped_of, unless_absent, points_of, refusing, giving, answer_in, page_with, decode_of, decode_into}
use Rattle.text.specs.declared.decode.DecodeAnswer.{DecodeAnswer}

-- the answers' fields
pub refusing_is : (number : ℕ) → refusing number ≡ record { refusal = number; len = 0 }
unfolding refusing
refusing_is number = refl

pub giving_is : (n : ℕ) → giving n ≡ record { refusal = 0; len = n }
unfolding giving
giving_is n = refl

-- equal answers refuse alike
refusals : {a b : DecodeAnswer} → a ≡ b → a.refusal ≡ b.refusal
refusals e = ap (λ (a : DecodeAnswer). a.refusal) e

-- equal bytes are decoded alike
pub decode_same : {s t : List ℕ} → s ≡ t → (code : ℕ) (words page : List ℕ) {answer : DecodeAnswer} {last : List ℕ}
    → (answer ≡ decode_of s code words (length page)) × (last ≡ decode_into s code words page) → (answer ≡ decode_of t code words (length page)) × (last ≡ decode_into t code words page)
decode_same e code words page d = (d.0 ∙ ap (λ (b : List ℕ). decode_of b code words (length page)) e, d.1 ∙ ap (λ (b : List ℕ). decode_into b code words page) e)

-- code points whose text is too long for a page, and such as fit
module _ (points : List ℕ) where
  pub answer_short : (size : ℕ) → size < length (encoded points) → answer_in size (gives points) ≡ refusing short_page
  unfolding answer_in
  answer_short size h = simp (lt-leb (length (encoded points)) size h)

  pub answer_fits : (size : ℕ) → length (encoded points) ≤ size → answer_in size (gives points) ≡ giving (length (encoded points))
  unfolding answer_in
  answer_fits size h = simp (le-leb (length (encoded points)) size h)

  pub page_short : (page : List ℕ) → length page < length (encoded points) → page_with (gives points) page ≡ page
  unfolding page_with
  page_short page h = simp (lt-leb (length (encoded points)) (length page) h)

  pub page_fits : (page : List ℕ) → length (encoded points) ≤ length page → page_with (gives points) page ≡ fill 0 (encoded points) page
  unfolding page_with
  page_fits page h = simp (le-leb (length (encoded points)) (length page) h)

-- a refusal before the page is looked at, as one more than its number; 0 if there is none
unfoldable refusal_number : Decoded → ℕ
refusal_number (refused number) = suc number
refusal_number (gives points) = zero

-- the code points; of a refusal none
unfoldable points_in : Decoded → List ℕ
points_in (refused number) = []
points_in (gives points) = points

-- the bytes of their text
unfoldable size_in : Decoded → ℕ
size_in d = length (encoded (points_in d))

-- what an absent text gives, and a present one
module _ (bytes : List ℕ) (given : Decoded) where
  pub absent_is : length bytes ≡ 0 → unless_absent bytes given ≡ gives []
  unfolding unless_absent present
  absent_is none = simp (le-ltb 0 (length bytes) (omega arith))

  pub present_is : 0 < length bytes → unless_absent bytes given ≡ given
  unfolding unless_absent present
  present_is some = simp (lt-ltb 0 (length bytes) some)

-- a present text of set 3 to 6: by whether words are lent, and are a mapping
module _ (words : List ℕ) (set : ℕ) (bytes : List ℕ) where
  pub mapped_none : length words ≡ 0 → mapped_of words set bytes ≡ refused set_not_held
  unfolding mapped_of
  mapped_none none = simp (eq-eqb (length words) 0 none)

  module _ (some : length words ≡ 0 → ⊥) where
    pub mapped_bad : is_mapping words ≡ false → mapped_of words set bytes ≡ refused bad_mapping
    unfolding mapped_of
    mapped_bad e = simp (ne_eqb (length words) 0 some, e)

    pub mapped_good : is_mapping words ≡ true → mapped_of words set bytes ≡ gives (mapped_points words set bytes)
    unfolding mapped_of
    mapped_good e = simp (ne_eqb (length words) 0 some, e)

-- no code points: nothing is written
pub answer_none : (size : ℕ) → answer_in size (gives []) ≡ giving 0
answer_none size = let n = ap length encoded_none in answer_fits [] size (omega arith) ∙ ap giving n

pub page_none : (page : List ℕ) → page_with (gives []) page ≡ page
page_none page =
    let n = ap length encoded_none in
    page_fits [] page (omega arith) ∙ ap (λ (t : List ℕ). fill 0 t page) encoded_none ∙ fill_none 0 page

module _ (bytes : List ℕ) (code : ℕ) (words : List ℕ) where
  -- an absent text has no code points
  points_absent : length bytes ≡ 0 → points_of bytes code words ≡ gives []
  unfolding points_of
  points_absent none = absent_is bytes _ none

  -- a present one of set 3 to 6 goes by the mapping
  points_by_set : is_mapped (set_of code) ≡ true → points_of bytes code words ≡ unless_absent bytes (mapped_of words (set_of code) bytes)
  unfolding points_of
  points_by_set mapped = simp mapped

  points_mapped : 0 < length bytes → is_mapped (set_of code) ≡ true → points_of bytes code words ≡ mapped_of words (set_of code) bytes
  points_mapped is-present mapped = points_by_set mapped ∙ present_is bytes _ is-present

  -- in Latin-1 each byte is its own code point
  points_latin1 : is_mapped (set_of code) ≡ false → points_of bytes code words ≡ gives bytes
  unfolding points_of unless_absent present latin1_points
  points_latin1 e = go bytes
    where
      go : (bytes : List ℕ) → points_of bytes code words ≡ gives bytes
      go [] = refl
      go (x ∷ xs) = simp (lt-ltb 0 (length (x ∷ xs)) (omega arith), e)

  -- the answer and the page are those of what the string gives
  module _ {d : Decoded} (e : points_of bytes code words ≡ d) where
    pub decode_by : (size : ℕ) → decode_of bytes code words size ≡ answer_in size d
    unfolding decode_of
    decode_by size = ap (answer_in size) e

    pub into_by : (page : List ℕ) → decode_into bytes code words page ≡ page_with d page
    unfolding decode_into
    into_by page = ap (λ (x : Decoded). page_with x page) e

  -- both by the set that the code names
  module _ {s : CharacterSet} (named : set_number s ≡ charset_of code) where
    pub points_other : (s ≡ set.Latin1 → ⊥) → points_of bytes code words ≡ unless_absent bytes (mapped_of words (set_number s) bytes)
    points_other other =
        let mapped = not_latin1_mapped code (λ z. other (latin1_alone s (named ∙ z))) in
        points_by_set mapped ∙ ap (λ (n : ℕ). unless_absent bytes (mapped_of words n bytes)) (sym (charset_mapped code mapped) ∙ sym named)

    -- so what is decoded by the mapping is what decoding gives
    pub by_mapping_named : (s ≡ set.Latin1 → ⊥) → (page : List ℕ) {answer : DecodeAnswer} {last : List ℕ}
        → answer ≡ answer_in (length page) (unless_absent bytes (mapped_of words (set_number s) bytes))
        → last ≡ page_with (unless_absent bytes (mapped_of words (set_number s) bytes)) page
        → (answer ≡ decode_of bytes code words (length page)) × (last ≡ decode_into bytes code words page)
    by_mapping_named other page a l = let e = points_other other in (a ∙ sym (decode_by e (length page)), l ∙ sym (into_by e page))

    pub points_held : s ≡ set.Latin1 → points_of bytes code words ≡ gives bytes
    points_held is = points_latin1 (latin1_unmapped code (sym named ∙ ap set_number is ∙ latin1_number))

  -- what is refused answers its number, and leaves the page
  module _ (number : ℕ) (e : points_of bytes code words ≡ refused number) where
    decode_refused : (size : ℕ) → decode_of bytes code words size ≡ refusing number
    unfolding answer_in
    decode_refused size = decode_by e size

    into_refused : (page : List ℕ) → decode_into bytes code words page ≡ page
    unfolding page_with
    into_refused page = into_by e page

  -- "An absent text answers length 0 in every set and never meets 9.": nor 12, nor 10
  pub decode_absent : length bytes ≡ 0 → (size : ℕ) → decode_of bytes code words size ≡ giving 0
  decode_absent none size = decode_by (points_absent none) size ∙ answer_none size

  pub into_absent : length bytes ≡ 0 → (page : List ℕ) → decode_into bytes code words page ≡ page
  into_absent none page = into_by (points_absent none) page ∙ page_none page

  -- The cases of decoding into a page of so many bytes.
  pub data Case (size : ℕ) : Type 0 where
    is_refused : (number : ℕ) → points_of bytes code words ≡ refused number → Case size
    too_long : (points : List ℕ) → points_of bytes code words ≡ gives points → size < length (encoded points) → Case size
    fitting : (points : List ℕ) → points_of bytes code words ≡ gives points → length (encoded points) ≤ size → Case size

  -- one of them holds
  pub decode_case : (size : ℕ) → Case size
  decode_case size = by_points (points_of bytes code words) refl
    where
      by_page : (points : List ℕ) → points_of bytes code words ≡ gives points → (t : Bool) → leb (length (encoded points)) size ≡ t → Case size
      by_page points e true f = fitting points e (leb-true (length (encoded points)) size f)
      by_page points e false f = too_long points e (leb-false (length (encoded points)) size f)

      by_points : (d : Decoded) → points_of bytes code words ≡ d → Case size
      by_points (refused number) e = is_refused number e
      by_points (gives points) e = by_page points e (leb (length (encoded points)) size) refl

  -- a text is no longer than its page
  pub decode_bound : (size : ℕ) → (decode_of bytes code words size).len ≤ size
  unfolding refusing giving
  decode_bound size = go (decode_case size)
    where
      go : Case size → (decode_of bytes code words size).len ≤ size
      go (is_refused number e) = omega (arith, ap (λ (a : DecodeAnswer). a.len) (decode_refused number e size))
      go (too_long points e h) = omega (arith, ap (λ (a : DecodeAnswer). a.len) (decode_by e size ∙ answer_short points size h))
      go (fitting points e h) = omega (arith, ap (λ (a : DecodeAnswer). a.len) (decode_by e size ∙ answer_fits points size h))

  -- a page keeps its length
  pub into_length : (page : List ℕ) → length (decode_into bytes code words page) ≡ length page
  into_length page = go (decode_case (length page))
    where
      go : Case (length page) → length (decode_into bytes code words page) ≡ length page
      go (is_refused number e) = ap length (into_refused number e page)
      go (too_long points e h) = ap length (into_by e page ∙ page_short points page h)
      go (fitting points e h) = ap length (into_by e page ∙ page_fits points page h) ∙ length_fill 0 (encoded points) page (omega arith)

  -- "Every refusal .. changes no lent memory."
  pub into_leaves : (page : List ℕ) → ((decode_of bytes code words (length page)).refusal ≡ 0 → ⊥) → decode_into bytes code words page ≡ page
  unfolding refusing giving
  into_leaves page refuses = go (decode_case (length page))
    where
      go : Case (length page) → decode_into bytes code words page ≡ page
      go (is_refused number e) = into_refused number e page
      go (too_long points e h) = into_by e page ∙ page_short points page h
      go (fitting points e h) =
          absurd (refuses (refusals (decode_by e (length page) ∙ answer_fits points (length page) h)))

  -- The cases of what a string gives.
  pub data Source : Type 0 where
    absent : length bytes ≡ 0 → points_of bytes code words ≡ gives [] → Source
    of_latin1 : is_mapped (set_of code) ≡ false → points_of bytes code words ≡ gives bytes → Source
    no_words : 0 < length bytes → is_mapped (set_of code) ≡ true → length words ≡ 0 → points_of bytes code words ≡ refused set_not_held → Source
    no_mapping : 0 < length bytes → is_mapped (set_of code) ≡ true → (length words ≡ 0 → ⊥) → is_mapping words ≡ false → points_of bytes code words ≡ refused bad_mapping
        → Source
    by_mapping : is_mapping words ≡ true → points_of bytes code words ≡ gives (mapped_points words (set_of code) bytes) → Source

  -- one of them holds
  pub source : Source
  source = of_bytes (length bytes) refl
    where
      of_mapping : 0 < length bytes → is_mapped (set_of code) ≡ true → (length words ≡ 0 → ⊥) → (t : Bool) → is_mapping words ≡ t → Source
      of_mapping is-present m some true f = by_mapping f (points_mapped is-present m ∙ mapped_good words (set_of code) bytes some f)
      of_mapping is-present m some false f = no_mapping is-present m some f (points_mapped is-present m ∙ mapped_bad words (set_of code) bytes some f)

      of_words : 0 < length bytes → is_mapped (set_of code) ≡ true → (t : Bool) → eqb (length words) 0 ≡ t → Source
      of_words is-present m true f =
          let none = eqb-true (length words) 0 f in
          no_words is-present m none (points_mapped is-present m ∙ mapped_none words (set_of code) bytes none)
      of_words is-present m false f = of_mapping is-present m (eqb-false (length words) 0 f) (is_mapping words) refl

      of_set : 0 < length bytes → (t : Bool) → is_mapped (set_of code) ≡ t → Source
      of_set is-present true m = of_words is-present m (eqb (length words) 0) refl
      of_set is-present false m = of_latin1 m (points_latin1 m)

      of_bytes : (n : ℕ) → length bytes ≡ n → Source
      of_bytes zero z = absent z (points_absent z)
      of_bytes (suc n) z = of_set (omega arith) (is_mapped (set_of code)) refl

  -- what is refused before the page is looked at: no words with 9, such as are no mapping with 12
  data Unmapped (number : ℕ) : Type 0 where
    nine : number ≡ set_not_held → length words ≡ 0 → Unmapped number
    twelve : number ≡ bad_mapping → (length words ≡ 0 → ⊥) → is_mapping words ≡ false → Unmapped number

  -- and only of a present text of set 3 to 6
  points_refused : (number : ℕ) → points_of bytes code words ≡ refused number → (0 < length bytes) × (is_mapped (set_of code) ≡ true) × Unmapped number
  unfolding refusal_number
  points_refused number e = go source
    where
      go : Source → (0 < length bytes) × (is_mapped (set_of code) ≡ true) × Unmapped number
      go (absent none is) = absurd (omega (arith, ap refusal_number (sym e ∙ is)))
      go (of_latin1 m is) = absurd (omega (arith, ap refusal_number (sym e ∙ is)))
      go (no_words is-present m none is) = (is-present, m, nine (omega (arith, ap refusal_number (sym e ∙ is))) none)
      go (no_mapping is-present m some bad is) = (is-present, m, twelve (omega (arith, ap refusal_number (sym e ∙ is))) some bad)
      go (by_mapping good is) = absurd (omega (arith, ap refusal_number (sym e ∙ is)))

  -- what is refused with 9 or 12 is refused before the page is looked at
  refused_points : (number : ℕ) → (number ≡ short_page → ⊥) → (number ≡ 0 → ⊥) → (size : ℕ) → (decode_of bytes code words size).refusal ≡ number
      → points_of bytes code words ≡ refused number
  unfolding refusing giving
  refused_points number not_ten not_None size is = go (decode_case size)
    where
      go : Case size → points_of bytes code words ≡ refused number
      go (is_refused n e) = e ∙ ap refused (sym (refusals (decode_refused n e size)) ∙ is)
      go (too_long points e h) = absurd (not_ten (sym is ∙ refusals (decode_by e size ∙ answer_short points size h)))
      go (fitting points e h) = absurd (not_None (sym is ∙ refusals (decode_by e size ∙ answer_fits points size h)))

  -- "Refusal 9 now comes only for a mapping of no words.", for a present text of set 3 to 6, and then always
  pub nine_comes : 0 < length bytes → is_mapped (set_of code) ≡ true → length words ≡ 0 → (size : ℕ) → decode_of bytes code words size ≡ refusing set_not_held
  nine_comes is-present mapped none size =
      decode_refused set_not_held (points_mapped is-present mapped ∙ mapped_none words (set_of code) bytes none) size

  pub nine_only : (size : ℕ) → (decode_of bytes code words size).refusal ≡ set_not_held
      → (0 < length bytes) × (is_mapped (set_of code) ≡ true) × (length words ≡ 0)
  nine_only size is-nine =
      let r = points_refused set_not_held (refused_points set_not_held (λ z. omega arith) (λ z. omega arith) size is-nine) in (r.0, r.1, go r.2)
    where
      go : Unmapped set_not_held → length words ≡ 0
      go (nine e none) = none
      go (twelve e some bad) = absurd (omega arith)

  -- "12, only for a present text of set 3 to 6, a mapping with a count missing ..; after 9", and then always
  pub twelve_comes : 0 < length bytes → is_mapped (set_of code) ≡ true → (length words ≡ 0 → ⊥) → is_mapping words ≡ false → (size : ℕ)
      → decode_of bytes code words size ≡ refusing bad_mapping
  twelve_comes is-present mapped some bad size =
      decode_refused bad_mapping (points_mapped is-present mapped ∙ mapped_bad words (set_of code) bytes some bad) size

  pub twelve_only : (size : ℕ) → (decode_of bytes code words size).refusal ≡ bad_mapping
      → (0 < length bytes) × (is_mapped (set_of code) ≡ true) × (length words ≡ 0 → ⊥) × (is_mapping words ≡ false)
  twelve_only size is-twelve =
      let r = points_refused bad_mapping (refused_points bad_mapping (λ z. omega arith) (λ z. omega arith) size is-twelve) in
      let w = go r.2 in (r.0, r.1, w.0, w.1)
    where
      go : Unmapped bad_mapping → (length words ≡ 0 → ⊥) × (is_mapping words ≡ false)
      go (nine e none) = absurd (omega arith)
      go (twelve e some bad) = (some, bad)

  -- "10 | short page | decoded text longer than the page lent", and only then
  pub ten_comes : (points : List ℕ) → points_of bytes code words ≡ gives points → (size : ℕ) → size < length (encoded points)
      → decode_of bytes code words size ≡ refusing short_page
  ten_comes points e size h = decode_by e size ∙ answer_short points size h

  pub ten_only : (size : ℕ) → (decode_of bytes code words size).refusal ≡ short_page
      → (points : List ℕ) × (points_of bytes code words ≡ gives points) × (size < length (encoded points))
  unfolding refusing giving
  ten_only size ten = go (decode_case size)
    where
      not_ten : {number : ℕ} → Unmapped number → number ≡ short_page → ⊥
      not_ten (nine e none) z = omega arith
      not_ten (twelve e some bad) z = omega arith

      go : Case size → (points : List ℕ) × (points_of bytes code words ≡ gives points) × (size < length (encoded points))
      go (is_refused number e) = absurd (not_ten (points_refused number e).2 (sym (refusals (decode_refused number e size)) ∙ ten))
      go (too_long points e h) = (points, e, h)
      go (fitting points e h) = absurd (omega (arith, sym ten ∙ refusals (decode_by e size ∙ answer_fits points size h)))

  -- ---- how long a text is
  -- a present one has at least a byte, and no text more than eight for each byte of its string
  text_size : (points : List ℕ) → points_of bytes code words ≡ gives points
      → (0 < length bytes → 0 < length (encoded points)) × (length (encoded points) ≤ 8 * length bytes)
  unfolding refusal_number points_in size_in
  text_size points e = go source
    where
      same : {d : Decoded} → points_of bytes code words ≡ d → length (encoded points) ≡ size_in d
      same is = ap size_in (sym e ∙ is)

      refuses : {number : ℕ} → points_of bytes code words ≡ refused number → ⊥
      refuses is = omega (arith, ap refusal_number (sym e ∙ is))

      go : Source → (0 < length bytes → 0 < length (encoded points)) × (length (encoded points) ≤ 8 * length bytes)
      go (absent none is) = (λ h. absurd (omega arith), omega (arith, ap length encoded_none, same is))
      go (of_latin1 m is) = let n = encoded_length bytes in (λ h. omega (arith, n.0, same is), omega (arith, n.1, same is))
      go (no_words is-present m none is) = absurd (refuses is)
      go (no_mapping is-present m some bad is) = absurd (refuses is)
      go (by_mapping good is) =
          let n = same is in (λ h. omega (arith, text_some words (set_of code) bytes h), omega (arith, text_most words (set_of code) bytes))

  -- "Present means at least one byte.": a present text is not decoded to nothing
  pub present_is_some : (points : List ℕ) → points_of bytes code words ≡ gives points → 0 < length bytes → 0 < length (encoded points)
  present_is_some points e = (text_size points e).0

  -- a page of eight times the bytes is never too short
  pub eight_times_is_enough : (size : ℕ) → 8 * length bytes ≤ size → (decode_of bytes code words size).refusal ≡ short_page → ⊥
  eight_times_is_enough size room ten = let t = ten_only size ten in omega (arith, t.2, (text_size t.0 t.1).1)

  -- of Latin-1 one of twice the bytes is not
  pub twice_is_enough : is_mapped (set_of code) ≡ false → ((i : ℕ) → get_or bytes i 0 < 256) → (size : ℕ) → 2 * length bytes ≤ size
      → (decode_of bytes code words size).refusal ≡ short_page → ⊥
  unfolding points_in size_in
  twice_is_enough held small size room ten =
      let t = ten_only size ten in
      omega (arith, t.2, latin1_length bytes small, ap size_in (sym (points_latin1 held) ∙ t.1))

  -- ---- what decoding gives is Unicode: no surrogate, none above hexadecimal 10FFFF
  pub gives_sound : ((i : ℕ) → get_or bytes i 0 < 256) → (points : List ℕ) → points_of bytes code words ≡ gives points → all_points points ≡ true
  unfolding all_points points_in
  gives_sound small points e = go source
    where
      same : {d : Decoded} → points_of bytes code words ≡ d → points ≡ points_in d
      same is = ap points_in (sym e ∙ is)

      go : Source → all_points points ≡ true
      go (absent none is) = ap all_points (same is)
      go (of_latin1 m is) = ap all_points (same is) ∙ bytes_sound bytes small
      go (no_words is-present m none is) = ap all_points (same is)
      go (no_mapping is-present m some bad is) = ap all_points (same is)
      go (by_mapping good is) = ap all_points (same is) ∙ mapped_sound words good (set_of code) bytes

-- with no words all is as before mappings were lent
pub points_no_words : (bytes : List ℕ) (code : ℕ)
    → points_of bytes code [] ≡ cond (present bytes) (cond (is_mapped (set_of code)) (refused set_not_held) (gives (latin1_points bytes))) (gives [])
unfolding points_of unless_absent mapped_of
points_no_words bytes code = refl
