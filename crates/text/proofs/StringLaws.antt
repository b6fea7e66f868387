-- Laws of stored strings. Assumes nothing.
use Rattle.std.specs.Prelude.{◌≡◌, refl, Bool, true, false, cond, ℕ, ◌+◌, ◌-◌, ◌≤◌, ◌<◌, eqb, ltb, take}
use Rattle.std.specs.List.{prefix_len}
use Rattle.std.proofs.Math.Path.{sym, ap}
use Rattle.std.proofs.Common.{subst, ◌∙◌, add-zero, arith, length-take, take_all}
use Rattle.std.proofs.Math.Bool.{not}
use mathlib.Core.List.{List, [], ◌∷◌}
use Rattle.std.proofs.Math.Decide.{ℕ_discrete}
use borrow.Author.Tests.{eqb-true, eqb-false, eq-eqb, ne_eqb, not-true, not-false, lt-ltb, le-ltb, ltb-true, ltb-false}
use Rattle.std.proofs.Math.ListN.{length, get_or, get_or-eq_default}
use Rattle.sectors.specs.Fill.{part}
use Rattle.sectors.specs.FillLaws.{part_past, part_size, part_at, take_part}
use Rattle.text.specs.WhileLaws.{front_taken, while_front, while_length, while_passes, while_stops}
use Rattle.text.specs.String.{nonzero, until_zero, max_string_bytes, string_at, ended_byZero_byte, ended_byMax_bytes, ended_byTable_end, end_number, end_by, end_of, present, placed_string}
use Rattle.text.specs.declared.string.StringEnd.{StringEnd}
use Rattle.text.specs.declared.string.StringEnd.TheVariants as end

module _ (b : ℕ) where
  -- a byte that passes the test is not zero
  pub nonzero_true : nonzero b ≡ true → b ≡ 0 → ⊥
  unfolding nonzero
  nonzero_true e = eqb-false b 0 (not-true (eqb b 0) e)

  -- one that does not pass is zero
  pub nonzero_false : nonzero b ≡ false → b ≡ 0
  unfolding nonzero
  nonzero_false e = eqb-true b 0 (not-false (eqb b 0) e)

  -- one that is not zero passes
  pub ne_nonzero : (b ≡ 0 → ⊥) → nonzero b ≡ true
  unfolding nonzero
  ne_nonzero n = ap not (ne_eqb b 0 n)

  -- a zero does not pass
  pub eq_nonzero : b ≡ 0 → nonzero b ≡ false
  unfolding nonzero
  eq_nonzero z = ap not (eq-eqb b 0 z)

-- a text is present when it has a byte
pub present_length : (bytes : List ℕ) → present bytes ≡ ltb 0 (length bytes)
unfolding present
present_length bytes = refl

-- a text that is not present is empty
pub absent_empty : (bytes : List ℕ) → present bytes ≡ false → bytes ≡ []
absent_empty bytes e = sym (take_all 0 bytes (ltb-false 0 (length bytes) (sym (present_length bytes) ∙ e)))

-- of no bytes there are none
pub until_none : until_zero [] ≡ []
unfolding until_zero
until_none = refl

-- the bytes before the first zero stand at the start
pub until_front : (l : List ℕ) → until_zero l ≡ take (length (until_zero l)) l
unfolding until_zero
until_front l = while_front nonzero l

-- they are no more than the list's
pub until_length : (l : List ℕ) → length (until_zero l) ≤ length l
unfolding until_zero
until_length l = while_length nonzero l

-- their number taken of the list gives them
pub until_taken : (l : List ℕ) (n : ℕ) → n ≡ length (until_zero l) → (n ≤ length l) × (take n l ≡ until_zero l)
until_taken l n e = front_taken (until_zero l) l (until_front l) (until_length l) n e

-- none of them is zero
pub until_nonzero : (l : List ℕ) (i : ℕ) → i < length (until_zero l) → get_or l i 0 ≡ 0 → ⊥
unfolding until_zero
until_nonzero l i h = nonzero_true (get_or l i 0) (while_passes nonzero l i 0 h)

-- and the next is, unless they are all
pub until_zero_lem : (l : List ℕ) → length (until_zero l) < length l → get_or l (length (until_zero l)) 0 ≡ 0
unfolding until_zero
until_zero_lem l h = nonzero_false _ (while_stops nonzero l 0 h)

-- a byte stands before the first zero exactly when the first byte is not zero (of no bytes the first is 0)
pub until_present : (l : List ℕ) → present (until_zero l) ≡ nonzero (get_or l 0 0)
unfolding present until_zero
until_present [] = sym (eq_nonzero 0 refl)
until_present (x ∷ xs) = go (nonzero x)
  where
    first : Bool → ℕ
    first t = cond t (1 + prefix_len nonzero xs) 0

    go : (t : Bool) → ltb 0 (length (take (first t) (x ∷ xs))) ≡ t
    go true = lt-ltb 0 (length (take (first true) (x ∷ xs))) (omega (arith, length-take (first true) (x ∷ xs)))
    go false = refl

module _ (table : List ℕ) (place : ℕ) where
  -- at or past the end of its table it is empty
  pub string_past : length table ≤ place → string_at table place ≡ []
  unfolding string_at
  string_past h = ap until_zero (part_past place max_string_bytes table h) ∙ until_none

  -- "after 4,096 bytes"
  pub string_length : length (string_at table place) ≤ max_string_bytes
  unfolding string_at
  string_length = omega (arith, until_length (part place max_string_bytes table), part_size place max_string_bytes table)

  -- "at the end of its table"
  pub string_within : length (string_at table place) ≤ length table - place
  unfolding string_at
  string_within = omega (arith, until_length (part place max_string_bytes table), part_size place max_string_bytes table)

  -- "Its bytes are handed back as a part of the caller's table."
  pub string_part : string_at table place ≡ part place (length (string_at table place)) table
  unfolding string_at
  string_part =
      until_front (part place max_string_bytes table)
      ∙ take_part place (length (until_zero (part place max_string_bytes table))) max_string_bytes table string_length

  -- none of its bytes is zero
  pub string_nonzero : (i : ℕ) → i < length (string_at table place) → get_or table (place + i) 0 ≡ 0 → ⊥
  unfolding string_at
  string_nonzero i h z =
      until_nonzero (part place max_string_bytes table) i h (part_at place max_string_bytes table i 0 (omega (arith, string_length)) ∙ z)

  -- "ends before the first zero byte": one that ends before the 4,096th byte and the table's end ends there
  pub string_zero : length (string_at table place) < max_string_bytes → length (string_at table place) < length table - place
      → get_or table (place + length (string_at table place)) 0 ≡ 0
  unfolding string_at
  string_zero short inside =
      let n = length (until_zero (part place max_string_bytes table)) in
      sym (part_at place max_string_bytes table n 0 short)
      ∙ until_zero_lem (part place max_string_bytes table) (omega (arith, part_size place max_string_bytes table))

  -- byte i of the string stands i behind its place
  pub string_at_lem : (i : ℕ) → i < length (string_at table place) → get_or (string_at table place) i 0 ≡ get_or table (place + i) 0
  string_at_lem i h = ap (λ (s : List ℕ). get_or s i 0) string_part ∙ part_at place (length (string_at table place)) table i 0 h

  -- what bounds the bytes of the table bounds those of the string
  pub string_below : (bound : ℕ) → 0 < bound → ((i : ℕ) → get_or table i 0 < bound) → (i : ℕ) → get_or (string_at table place) i 0 < bound
  string_below bound positive below i = go (ltb i (length (string_at table place))) refl
    where
      go : (t : Bool) → ltb i (length (string_at table place)) ≡ t → get_or (string_at table place) i 0 < bound
      go true e = rw (string_at_lem i (ltb-true i (length (string_at table place)) e)) (below (place + i))
      go false e = rw (get_or-eq_default (string_at table place) 0 (ltb-false i (length (string_at table place)) e)) positive

  -- "Present means at least one byte.": exactly when its first byte is there and is not zero (`get_or` is 0 past the end)
  pub string_present : present (string_at table place) ≡ nonzero (get_or table place 0)
  unfolding string_at
  string_present =
      until_present (part place max_string_bytes table)
      ∙ ap nonzero (part_at place max_string_bytes table 0 0 (omega arith) ∙ ap (λ (p : ℕ). get_or table p 0) (add-zero place))

  -- a record places no string at 0
  pub placed_none : place ≡ 0 → placed_string table place ≡ []
  unfolding placed_string
  placed_none z = simp (eq-eqb place 0 z)

  -- and the string at any other place
  pub placed_there : (place ≡ 0 → ⊥) → placed_string table place ≡ string_at table place
  unfolding placed_string
  placed_there n = simp (ne_eqb place 0 n)

  -- at or past the table's end there is none
  pub placed_past : length table ≤ place → placed_string table place ≡ []
  placed_past h = go (eqb place 0) refl
    where
      go : (t : Bool) → eqb place 0 ≡ t → placed_string table place ≡ []
      go true e = placed_none (eqb-true place 0 e)
      go false e = placed_there (eqb-false place 0 e) ∙ string_past h

-- ---- how a string ended

-- an end is known by its number
end_from : ℕ → StringEnd
end_from n = cond (eqb n ended_byZero_byte) end.ZeroByte (cond (eqb n ended_byMax_bytes) end.MaxBytes end.TableEnd)

end_again : (e : StringEnd) → end_from (end_number e) ≡ e
unfolding end_number end_from
end_again end.ZeroByte = refl
end_again end.MaxBytes = refl
end_again end.TableEnd = refl

pub end_tells : (e f : StringEnd) → end_number e ≡ end_number f → e ≡ f
end_tells e f same = sym (end_again e) ∙ ap end_from same ∙ end_again f

-- of a string of so many bytes at a place of a table of so many: 4,096 are asked first
module _ (size place len : ℕ) where
  pub end_max : len ≡ max_string_bytes → end_by size place len ≡ ended_byMax_bytes
  unfolding end_by
  end_max e = simp (eq-eqb len max_string_bytes e)

  pub end_zero : (len ≡ max_string_bytes → ⊥) → place + len < size → end_by size place len ≡ ended_byZero_byte
  unfolding end_by
  end_zero n h = simp (ne_eqb len max_string_bytes n, lt-ltb (place + len) size h)

  pub end_table : (len ≡ max_string_bytes → ⊥) → size ≤ place + len → end_by size place len ≡ ended_byTable_end
  unfolding end_by
  end_table n h = simp (ne_eqb len max_string_bytes n, le-ltb (place + len) size h)

module _ (table : List ℕ) (place : ℕ) where
  abbrev size : ℕ
  size = length table

  abbrev n : ℕ
  n = length (string_at table place)

  -- it is told by the length of the string's bytes
  pub end_of_lem : (bytes : List ℕ) → bytes ≡ string_at table place → end_by size place (length bytes) ≡ end_of table place
  unfolding end_of
  end_of_lem bytes e = ap (λ (s : List ℕ). end_by size place (length s)) e

  -- What holds of 4,096 bytes where a string has so many, of the zero byte where fewer are followed by one, and of the table's end where fewer reach it,
  -- holds of how the string ended.
  pub by_end : (P : ℕ → Type 0) → (n ≡ max_string_bytes → P ended_byMax_bytes)
      → (n < max_string_bytes → place + n < size → get_or table (place + n) 0 ≡ 0 → P ended_byZero_byte)
      → (n < max_string_bytes → size ≤ place + n → P ended_byTable_end) → P (end_of table place)
  by_end P max zero-byte table-end = go (ℕ_discrete n max_string_bytes) (ltb (place + n) size) refl
    where
      said : {end : ℕ} → end_by size place n ≡ end → P end → P (end_of table place)
      said e = subst P (sym e ∙ end_of_lem (string_at table place) refl)

      fewer : (n ≡ max_string_bytes → ⊥) → n < max_string_bytes
      fewer e = omega (arith, string_length table place)

      go : Dec (n ≡ max_string_bytes) → (t : Bool) → ltb (place + n) size ≡ t → P (end_of table place)
      go (yes e) t f = said (end_max size place n e) (max e)
      go (no e) true f =
          let h = ltb-true (place + n) size f in
          said (end_zero size place n e h) (zero-byte (fewer e) h (string_zero table place (fewer e) (omega arith)))
      go (no e) false f = let h = ltb-false (place + n) size f in said (end_table size place n e h) (table-end (fewer e) h)

-- ---- of two tables of the same length

-- a string is no longer than that of a table whose zero bytes, from its place on, are zero here too
pub string_no_longer : (s t : List ℕ) (place : ℕ) → length s ≡ length t → ((i : ℕ) → place ≤ i → get_or s i 0 ≡ 0 → get_or t i 0 ≡ 0)
    → length (string_at t place) ≤ length (string_at s place)
string_no_longer s t place same zeros = go (ltb n m) refl
  where
    n : ℕ
    n = length (string_at s place)

    m : ℕ
    m = length (string_at t place)

    go : (b : Bool) → ltb n m ≡ b → m ≤ n
    go true e =
        let longer = ltb-true n m e in
        absurd (string_nonzero t place n longer
        (zeros (place + n) (omega arith) (string_zero s place (omega (arith, string_length t place)) (omega (arith, string_within t place)))))
    go false e = ltb-false n m e

-- where the zero bytes of both stand at the same places, their strings end in the same way
pub zeros_same_end : (s t : List ℕ) (place : ℕ) → length s ≡ length t → ((i : ℕ) → nonzero (get_or s i 0) ≡ nonzero (get_or t i 0))
    → end_of s place ≡ end_of t place
zeros_same_end s t place same zeros =
    let shorter = string_no_longer s t place same (λ i from z. nonzero_false (get_or t i 0) (sym (zeros i) ∙ eq_nonzero (get_or s i 0) z)) in
    let longer = string_no_longer t s place (sym same) (λ i from z. nonzero_false (get_or s i 0) (zeros i ∙ eq_nonzero (get_or t i 0) z)) in
    let length_same : length (string_at s place) ≡ length (string_at t place) = omega arith in
    sym (end_of_lem s place (string_at s place) refl) ∙ (λ i. end_by (same i) place (length_same i)) ∙ end_of_lem t place (string_at t place) refl
