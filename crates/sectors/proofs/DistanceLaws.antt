-- Two multiples that differ in at most two places are equal. What mends a header is that header changed at one place by its value at 1, and its value at α
-- is the change times a power of α that tells the place, so that only one header mends it. Assumes nothing.
use Rattle.std.specs.Prelude.{◌≡◌, ℕ, zero, suc, ◌+◌, ◌-◌, ◌%◌, ◌<◌, ◌≢◌, ◌⊎◌, List, [], ◌∷◌, length, set, slice_index, slice_index_or, slice_set, refl}
use Rattle.std.proofs.Common.{sym, ap, ap₂, ◌∙◌, inl, inr, ⊎_elim, arith, length-set, ext_get_or, get_or-set_same, get_or-set_other}
use Rattle.std.proofs.Math.Decide.{ℕ_discrete}
use Rattle.std.proofs.lemmas.List.{set-get_or}
use Rattle.sectors.specs.Field.{◌⊕◌, times_alpha}
use Rattle.sectors.specs.Header.{SixBytes, Multiple, times_root, product, at_one, at_alpha}
use Rattle.sectors.specs.Log.{times_power, log}
use Rattle.sectors.specs.Mend.{EqualBut, Mends}
use Rattle.sectors.proofs.XorLaws.{sums, sum_lt, sum_zero, equal_if_zero}
use Rattle.sectors.proofs.AlphaLaws.{alpha_lt}
use Rattle.sectors.proofs.HeaderLaws.{multiple_zeros}
use Rattle.sectors.proofs.LogLaws.{log_times}
use Rattle.sectors.proofs.ChangeLaws.{one_changed, alpha_changed}

or_other : (i k : ℕ) → (i ≡ k) ⊎ (i ≢ k)
or_other i k = go (ℕ_discrete i k)
  where
    go : Dec (i ≡ k) → (i ≡ k) ⊎ (i ≢ k)
    go (yes e) = inl e
    go (no other) = inr other

-- ---- six bytes

set_bytes : (h : List ℕ) (k v : ℕ) → ((i : ℕ) → slice_index h i < 256) → v < 256 → (i : ℕ) → slice_index (slice_set h k v) i < 256
set_bytes [] k v bytes v-lt i = bytes i
set_bytes (a ∷ rest) zero v bytes v-lt zero = v-lt
set_bytes (a ∷ rest) zero v bytes v-lt (suc i) = bytes (suc i)
set_bytes (a ∷ rest) (suc k) v bytes v-lt zero = bytes 0
set_bytes (a ∷ rest) (suc k) v bytes v-lt (suc i) = set_bytes rest k v (λ i. bytes (suc i)) v-lt i

pub six_set : (h : List ℕ) (k v : ℕ) → SixBytes h → v < 256 → SixBytes (slice_set h k v)
six_set h k v six v-lt = record { its_length = length-set h k v ∙ six.its_length; its_bytes = set_bytes h k v six.its_bytes v-lt }

-- equal at every place but one, and there made equal
pub set_equal : (h m : List ℕ) (k : ℕ) → length h ≡ length m → k < length h → EqualBut k h m → slice_set h k (slice_index m k) ≡ m
set_equal h m k long inside equal =
    ext_get_or 0 _ m (length-set h k _ ∙ long)
    (λ i l. ⊎_elim
    (λ e. rw e (get_or-set_same h k (slice_index m k) 0 inside))
    (λ other. get_or-set_other h k i _ 0 other ∙ equal i other)
    (or_other i k))

-- a byte changed by nothing
unchanged : (h : List ℕ) (k : ℕ) {s : ℕ} → s ≡ 0 → slice_set h k (slice_index_or h k 0 ⊕ s) ≡ h
unchanged h k none = ap (λ (n : ℕ). set h k (slice_index_or h k 0 ⊕ n)) none ∙ ap (set h k) (sum_zero (slice_index h k)) ∙ set-get_or h k 0

-- a multiple is six bytes
root_length : (times : ℕ → ℕ) (last : ℕ) (q : List ℕ) → length (times_root times last q) ≡ suc (length q)
unfolding times_root
root_length times last [] = refl
root_length times last (a ∷ rest) = ap suc (root_length times a rest)

root_bytes : (times : ℕ → ℕ) → ((a : ℕ) → a < 256 → times a < 256) → (last : ℕ) (q : List ℕ) → last < 256 → ((i : ℕ) → slice_index q i < 256)
    → (i : ℕ) → slice_index (times_root times last q) i < 256
unfolding times_root
root_bytes times times-lt last [] last-lt bytes zero = times-lt last last-lt
root_bytes times times-lt last [] last-lt bytes (suc i) = omega arith
root_bytes times times-lt last (a ∷ rest) last-lt bytes zero = sum_lt (bytes 0) (times-lt last last-lt)
root_bytes times times-lt last (a ∷ rest) last-lt bytes (suc i) = root_bytes times times-lt a rest (bytes 0) (λ i. bytes (suc i)) i

pub multiple_six : (h : List ℕ) → Multiple h → SixBytes h
unfolding product
multiple_six h q =
    let six : SixBytes (product quotient) = record {
      its_length = root_length times_alpha 0 _ ∙ ap suc (root_length (λ a. a) 0 quotient);
      its_bytes = root_bytes times_alpha (λ a a_lt. alpha_lt a_lt) 0 _ (omega arith) (root_bytes (λ a. a) (λ a a_lt. a_lt) 0 quotient (omega arith) bytes);
    } in
    rw q.multiple at six
  where
    quotient : List ℕ
    quotient = q.a ∷ q.b ∷ q.c ∷ q.d ∷ []

    bytes : (i : ℕ) → slice_index quotient i < 256
    bytes zero = q.a_byte
    bytes (suc zero) = q.b_byte
    bytes (suc (suc zero)) = q.c_byte
    bytes (suc (suc (suc zero))) = q.d_byte
    bytes (suc (suc (suc (suc i)))) = omega arith

-- ---- what mends a header

-- of a nonzero byte's products with the first powers of α no two are equal
powers_differ : (a i j : ℕ) → a < 256 → i < 6 → j < 6 → times_power i a ≡ times_power j a → (a ≡ 0) ⊎ (i ≡ j)
powers_differ a i j a_lt i_lt j-lt e = ⊎_elim inl (λ other. inr (omega (arith, same other))) (or_other a 0)
  where
    same : a ≢ 0 → (log a + i) % 255 ≡ (log a + j) % 255
    same other = sym (log_times a (omega arith) a_lt i) ∙ ap log e ∙ log_times a (omega arith) a_lt j

module _ (h m : List ℕ) (six : SixBytes h) (q : Mends h m) where
  abbrev change : ℕ
  change = slice_index_or h q.place 0 ⊕ slice_index_or m q.place 0

  change_lt : change < 256
  change_lt = sum_lt (six.its_bytes q.place) (q.six_bytes.its_bytes q.place)

  inside : q.place < length h
  inside = omega (arith, six.its_length, q.inside)

  by_change : set h q.place (slice_index_or h q.place 0 ⊕ change) ≡ m
  by_change =
      ap (set h q.place) (simp sums) ∙ set_equal h m q.place (six.its_length ∙ sym q.six_bytes.its_length) inside q.equal_but

  one_is_change : at_one h ≡ change
  one_is_change =
      equal_if_zero (at_one h) change
      (sym (one_changed h six.its_bytes q.place change change_lt inside) ∙ ap at_one by_change ∙ (multiple_zeros m q.its_multiple).0)

  one_lt : at_one h < 256
  one_lt = rw one_is_change change_lt

  changed_by_one : set h q.place (slice_index_or h q.place 0 ⊕ at_one h) ≡ m
  changed_by_one = ap (λ (n : ℕ). set h q.place (slice_index_or h q.place 0 ⊕ n)) one_is_change ∙ by_change

  pub alpha_tells_place : at_alpha h ≡ times_power (5 - q.place) (at_one h)
  alpha_tells_place =
      equal_if_zero (at_alpha h) _
      (sym (alpha_changed h six.its_bytes q.place change change_lt inside) ∙ ap at_alpha by_change ∙ (multiple_zeros m q.its_multiple).1)
      ∙ ap₂ times_power (omega (arith, six.its_length)) (sym one_is_change)

-- "the six bytes": there are no others
pub only_one : (h m n : List ℕ) → SixBytes h → Mends h m → Mends h n → m ≡ n
only_one h m n six p q =
    ⊎_elim
    (λ none. sym (changed_by_one h m six p) ∙ unchanged h p.place none ∙ sym (unchanged h q.place none) ∙ changed_by_one h n six q)
    (λ e. sym (changed_by_one h m six p) ∙ ap (λ (k : ℕ). set h k (slice_index_or h k 0 ⊕ at_one h)) (omega arith) ∙ changed_by_one h n six q)
    (powers_differ (at_one h) (5 - p.place) (5 - q.place) (one_lt h m six p) (omega arith) (omega arith)
    (sym (alpha_tells_place h m six p) ∙ alpha_tells_place h n six q))

-- Two multiples that differ in at most two places are equal.
pub multiples_apart : (g m : List ℕ) → Multiple g → Multiple m → (j k : ℕ) → j < 6 → k < 6
    → ((i : ℕ) → i ≢ j → i ≢ k → slice_index g i ≡ slice_index m i) → g ≡ m
multiples_apart g m p q j k j-lt k_lt equal =
    let g-six = multiple_six g p in let m-six = multiple_six m q in
    only_one (slice_set g j (slice_index m j)) g m (six_set g j (slice_index m j) g-six (m-six.its_bytes j))
    (record {
      six_bytes = g-six;
      its_multiple = p;
      place = j;
      inside = j-lt;
      equal_but = λ i other. get_or-set_other g j i _ 0 other;
    })
    (record {
      six_bytes = m-six;
      its_multiple = q;
      place = k;
      inside = k_lt;
      equal_but = λ i other.
          ⊎_elim
          (λ e. rw e (get_or-set_same g j (slice_index m j) 0 (omega (arith, g-six.its_length))))
          (λ d. get_or-set_other g j i _ 0 d ∙ equal i d other)
          (or_other i j);
    })
