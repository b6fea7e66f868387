-- The powers of α and the logarithms. The rule of the table of logarithms is a test that antt computes over the whole of it; that the powers come
-- round after 255 is another. So the difference of two logarithms modulo 255 is the least n for which α to the n takes one value to the other.
-- Assumes nothing.
use Rattle.std.specs.Prelude.{◌≡◌, ℕ, zero, suc, ◌+◌, ◌-◌, ◌*◌, ◌/◌, ◌%◌, ◌<◌, ◌≤◌, Bool, true, false, ◌≢◌, List, map, length, nat_lt, slice_index, slice_index_or}
use Rattle.std.proofs.Math.Path.{refl, sym}
use Rattle.std.proofs.Common.{ap, ◌∙◌, zero-add, suc-add, suc-mul, mod-lt, div-add-mod'}
use native.Mathlib.Omega.{arith}
use Rattle.std.proofs.Math.ListN.{get_or-eq_default}
use borrow.Author.Tests.{ltb-true, ltb-false}
use Rattle.sectors.specs.Field.{times_alpha, ◌⊕◌}
use Rattle.sectors.specs.TableLaws.{values, mapped}
use Rattle.sectors.proofs.AlphaLaws.{alpha_zero}
use Rattle.sectors.specs.Log.{repeated, times_power, powers_from, powers, stored, logs, log, nonzero_count, LeastExponent, NoExponent}

-- ---- the powers of α

powers_at : (a k n : ℕ) → n < k → slice_index (powers_from a k) n ≡ times_power n a
unfolding powers_from times_power repeated
powers_at a zero n h = absurd (omega arith)
powers_at a (suc k) zero h = refl
powers_at a (suc k) (suc n) h = powers_at (times_alpha a) k n (omega arith)

length_powers : (a k : ℕ) → length (powers_from a k) ≡ k
unfolding powers_from
length_powers a zero = refl
length_powers a (suc k) = ap suc (length_powers (times_alpha a) k)

power_zero : (n : ℕ) → times_power n 0 ≡ 0
unfolding times_power repeated
power_zero zero = refl
power_zero (suc n) = ap (times_power n) alpha_zero ∙ power_zero n

power_add : (m n a : ℕ) → times_power (m + n) a ≡ times_power n (times_power m a)
unfolding times_power repeated
power_add zero n a = ap (λ (k : ℕ). times_power k a) (zero-add n)
power_add (suc m) n a = ap (λ (k : ℕ). times_power k a) (suc-add m n) ∙ power_add m n (times_alpha a)

comes_round : times_power nonzero_count 1 ≡ 1
unfolding times_power repeated times_alpha ◌⊕◌
comes_round = refl

never_zero : (n : ℕ) → n ≤ nonzero_count → times_power n 1 ≢ 0
never_zero n h e =
    let rest = nonzero_count - n in
    omega (arith, sym comes_round ∙ ap (λ (k : ℕ). times_power k 1) (omega arith) ∙ power_add n rest 1 ∙ ap (times_power rest) e ∙ power_zero rest)

rounds : (q r : ℕ) → times_power (q * nonzero_count + r) 1 ≡ times_power r 1
rounds zero r = ap (λ (k : ℕ). times_power k 1) (omega arith)
rounds (suc q) r =
    ap (λ (k : ℕ). times_power k 1) (omega (arith, suc-mul q nonzero_count)) ∙ power_add nonzero_count (q * nonzero_count + r) 1
    ∙ ap (times_power (q * nonzero_count + r)) comes_round ∙ rounds q r

period : (n : ℕ) → times_power n 1 ≡ times_power (n % nonzero_count) 1
period n = ap (λ (k : ℕ). times_power k 1) (sym (div-add-mod' n nonzero_count)) ∙ rounds (n / nonzero_count) (n % nonzero_count)

-- ---- "its rule shown over the whole of it": of the 255 entries, each is below 255, α to it is the entry's number, and the entry of each power of α
-- is its exponent. (Both are one test: the lists are arguments, so that each is computed once.)

-- the powers by the logarithms in the table's order, and the entries of the powers in theirs
looked_up : List ℕ → List ℕ → List ℕ × List ℕ
looked_up p l = (map (λ n. slice_index p n) l, map (λ x. slice_index l (x - 1)) p)

table_rule : ◌≡◌ {A = List ℕ × List ℕ} (looked_up powers logs) (values suc 0 nonzero_count, values (λ n. n) 0 nonzero_count)
unfolding looked_up values powers logs powers_from stored times_alpha ◌⊕◌
table_rule = refl

module _ (x : ℕ) (nonzero : 0 < x) (byte : x < 256) where
  power_there : slice_index_or powers (log x) 0 ≡ x
  unfolding log looked_up
  power_there =
      let e : suc (x - 1) ≡ x = omega arith in
      mapped (λ n. slice_index powers n) suc logs nonzero_count (ap (λ (p : List ℕ × List ℕ). p.0) table_rule) (x - 1) (omega arith) ∙ e

  pub log_lt : log x < nonzero_count
  unfolding powers
  log_lt = go (nat_lt (log x) nonzero_count) refl
    where
      go : (inside : Bool) → nat_lt (log x) nonzero_count ≡ inside → log x < nonzero_count
      go true e = ltb-true (log x) nonzero_count e
      go false e = absurd (omega (arith, sym power_there ∙ get_or-eq_default powers 0 (rw (length_powers 1 nonzero_count) (ltb-false (log x) nonzero_count e))))

  pub power_log : times_power (log x) 1 ≡ x
  unfolding powers
  power_log = sym (powers_at 1 nonzero_count (log x) log_lt) ∙ power_there

pub log_power : (n : ℕ) → n < nonzero_count → log (times_power n 1) ≡ n
unfolding log looked_up powers
log_power n h =
    ap log (sym (powers_at 1 nonzero_count n h)) ∙ mapped log (λ n. n) powers nonzero_count (ap (λ (p : List ℕ × List ℕ). p.1) table_rule) n h

-- ---- from one value to another

module _ (a : ℕ) (a-nonzero : 0 < a) (a_byte : a < 256) where
  as_power : (n : ℕ) → times_power n a ≡ times_power ((log a + n) % nonzero_count) 1
  as_power n = ap (times_power n) (sym (power_log a a-nonzero a_byte)) ∙ sym (power_add (log a) n 1) ∙ period (log a + n)

  pub log_times : (n : ℕ) → log (times_power n a) ≡ (log a + n) % nonzero_count
  log_times n = ap log (as_power n) ∙ log_power ((log a + n) % nonzero_count) (mod-lt (log a + n) (omega arith))

  -- the difference of the logarithms modulo 255
  difference : (b : ℕ) → 0 < b → b < 256 → LeastExponent a b ((log b + nonzero_count - log a) % nonzero_count)
  difference b b-nonzero b_byte =
      let a-log = log_lt a a-nonzero a_byte in
      let b-log = log_lt b b-nonzero b_byte in
      let n = (log b + nonzero_count - log a) % nonzero_count in
      record {
        takes = as_power n ∙ ap (λ (k : ℕ). times_power k 1) (omega (arith, a-log, b-log)) ∙ power_log b b-nonzero b_byte;
        is_least = λ k e. omega (arith, a-log, b-log, sym (ap log e) ∙ log_times k);
      }

-- as the program comes to it
module _ (a b : ℕ) where
  pub same_exponent : a ≡ b → LeastExponent a b 0
  unfolding times_power repeated
  same_exponent e = record { takes = e; is_least = λ k f. omega arith }

  pub from_zero : a ≢ b → a ≡ 0 → NoExponent a b
  from_zero other zero_a = record { none_takes = λ k e. other (zero_a ∙ sym (power_zero k) ∙ ap (times_power k) (sym zero_a) ∙ e) }

  pub to_zero : a < 256 → a ≢ 0 → b ≡ 0 → NoExponent a b
  to_zero byte some zero-b = record {
    none_takes = λ k e. never_zero ((log a + k) % nonzero_count) (omega arith) (sym (as_power a (omega arith) byte k) ∙ e ∙ zero-b);
  }

  pub by_logs : a < 256 → b < 256 → a ≢ 0 → b ≢ 0 → {x y : ℕ} → x ≡ log a → y ≡ log b
      → LeastExponent a b ((y + nonzero_count - x) % nonzero_count)
  by_logs a_byte b_byte some-a some-b e f = rw (e, f) (difference a (omega arith) a_byte b (omega arith) b_byte)
