-- Laws of character sets. Assumes nothing.
use Rattle.std.specs.Prelude.{◌≡◌, refl, Bool, true, false, cond, ℕ, ◌≤◌, leb, eqb, ◌==◌}
use Rattle.std.proofs.Common.{sym, ap, ◌∙◌, arith, leb-true, eq-eqb, ne_eqb}
use Rattle.std.proofs.Math.Bool.{and-eq-true_iff}
use Rattle.text.specs.Charset.{set_of, is_mapped, latin1, charset_of, set_number}
use Rattle.text.specs.declared.charset.CharacterSet.{CharacterSet}
use Rattle.text.specs.declared.charset.CharacterSet.TheVariants as set

-- a mapped set is one of 3 to 6
pub mapped_range : (code : ℕ) → is_mapped (set_of code) ≡ true → (3 ≤ set_of code) × (set_of code ≤ 6)
unfolding is_mapped
mapped_range code e =
    let both = (and-eq-true_iff (leb 3 (set_of code)) (leb (set_of code) 6)).0 e in
    (leb-true 3 (set_of code) both.0, leb-true (set_of code) 6 both.1)

-- a code of set 3 to 6 names that set
pub charset_mapped : (code : ℕ) → is_mapped (set_of code) ≡ true → charset_of code ≡ set_of code
unfolding charset_of
charset_mapped code e = simp e

-- every other names Latin-1
pub charset_latin1 : (code : ℕ) → is_mapped (set_of code) ≡ false → charset_of code ≡ latin1
unfolding charset_of
charset_latin1 code e = simp e

-- so Latin-1 is named by exactly those others
pub latin1_unmapped : (code : ℕ) → charset_of code ≡ latin1 → is_mapped (set_of code) ≡ false
latin1_unmapped code e = go (is_mapped (set_of code)) refl
  where
    go : (t : Bool) → is_mapped (set_of code) ≡ t → t ≡ false
    go true m = absurd (omega (arith, (mapped_range code m).0, sym (charset_mapped code m) ∙ e))
    go false m = refl

pub not_latin1_mapped : (code : ℕ) → (charset_of code ≡ latin1 → ⊥) → is_mapped (set_of code) ≡ true
not_latin1_mapped code other = go (is_mapped (set_of code)) refl
  where
    go : (t : Bool) → is_mapped (set_of code) ≡ t → t ≡ true
    go true m = refl
    go false m = absurd (other (charset_latin1 code m))

-- a set is known by its number
set_from : ℕ → CharacterSet
set_from n = cond (n == 3) set.ShiftJisX0213 (cond (n == 4) set.EucKr (cond (n == 5) set.EucCn (cond (n == 6) set.Big5 set.Latin1)))

found_again : (s : CharacterSet) → set_from (set_number s) ≡ s
unfolding set_number set_from
found_again set.Latin1 = refl
found_again set.ShiftJisX0213 = refl
found_again set.EucKr = refl
found_again set.EucCn = refl
found_again set.Big5 = refl

pub set_tells : (s t : CharacterSet) → set_number s ≡ set_number t → s ≡ t
set_tells s t e = sym (found_again s) ∙ ap set_from e ∙ found_again t

-- that of Latin-1 is of no other
pub latin1_number : set_number set.Latin1 ≡ latin1
unfolding set_number
latin1_number = refl

pub latin1_alone : (s : CharacterSet) → set_number s ≡ latin1 → s ≡ set.Latin1
latin1_alone s e = set_tells s set.Latin1 (e ∙ sym latin1_number)

-- nor is that of Shift JIS
pub shift_jis_named : (s : CharacterSet) → s ≡ set.ShiftJisX0213 → eqb (set_number s) 3 ≡ true
unfolding set_number
shift_jis_named s e = eq-eqb (set_number s) 3 (ap set_number e)

pub shift_jis_alone : (s : CharacterSet) → (s ≡ set.ShiftJisX0213 → ⊥) → eqb (set_number s) 3 ≡ false
unfolding set_number
shift_jis_alone s other = ne_eqb (set_number s) 3 (λ e. other (set_tells s set.ShiftJisX0213 e))
