-- What mends a header is a candidate, a candidate that is a multiple mends it, and no two do: so the search gives the header that mends, and 14 where
-- none does. What `mend` answers means, of any image of bytes, what its contract says. Assumes nothing.
use Rattle.std.specs.Prelude.{◌≡◌, ℕ, Result, zero, suc, ◌+◌, ◌*◌, ◌/◌, ◌%◌, ◌<◌, ◌≤◌, Bool, true, false, cond, ◌≢◌, ◌⊎◌, ◌↔◌, List, slice_index, slice_index_or, slice_set}
use Rattle.std.proofs.Math.Path.{refl, sym, ap, ap₂}
use Rattle.std.proofs.Common.{◌∙◌, mod-lt, eq-or-lt_of_le, le_of_suc-le-suc, arith, get_or-set_other}
use Rattle.std.proofs.Math.Logic.{inl, inr, ⊎_elim}
use Rattle.std.proofs.Math.Bool.{true≢false}
use Rattle.std.proofs.Math.Arith.{digits_div, digits_mod, digits_lt}
use Rattle.sectors.specs.Refusal.{foreign_format, no_such_entry, no_header, beyond_mending}
use Rattle.sectors.specs.Header.{SixBytes, is_multiple}
use Rattle.sectors.proofs.HeaderLaws.{finds_multiples}
use Rattle.sectors.specs.Audit.{HeaderIn, header_size, header_at}
use Rattle.sectors.proofs.AuditLaws.{There, header_six, there_checked, there, in_image}
use Rattle.sectors.specs.Mend.{Mends, mended_to, unmended, mended_by, candidate, mended_in, mended_of, mend_of, Mendable, BeyondMending, OneByteChanged}
use Rattle.sectors.proofs.DistanceLaws.{six_set, set_equal, multiple_six, only_one}
use Rattle.sectors.proofs.RefusalLaws.{tells}
use Rattle.sectors.specs.declared.refusal.Refusal.{Refusal}
use Rattle.sectors.specs.declared.mend.Mended.{Mended}

-- ---- the search

module _ (h : List ℕ) (six : SixBytes h) where
  candidate_mends : (n : ℕ) → n < header_size * 256 → is_multiple (candidate h n) ≡ true → Mends h (candidate h n)
  unfolding candidate
  candidate_mends n l e =
      let changed = six_set h (n / 256) (n % 256) six (mod-lt n {m = 256} (omega arith)) in
      record {
        six_bytes = changed;
        its_multiple = (finds_multiples _ changed).0 e;
        place = n / 256;
        inside = omega arith;
        equal_but = λ i other. sym (get_or-set_other h (n / 256) i (n % 256) 0 other);
      }

  module _ (m : List ℕ) (q : Mends h m) where
    byte : slice_index_or m q.place 0 < 256
    byte = q.six_bytes.its_bytes q.place

    abbrev number : ℕ
    number = q.place * 256 + slice_index m q.place

    mends_candidate : candidate h number ≡ m
    unfolding candidate
    mends_candidate =
        ap₂ (slice_set h) (digits_div q.place byte) (digits_mod q.place byte)
        ∙ set_equal h m q.place (six.its_length ∙ sym q.six_bytes.its_length) (omega (arith, six.its_length, q.inside)) q.equal_but

    passes : is_multiple (candidate h number) ≡ true
    passes = ap is_multiple mends_candidate ∙ (finds_multiples m q.six_bytes).1 q.its_multiple

  -- an answer of a header that mends; and that no header does
  abbrev Found : Mended → Type 0
  Found answer = (m : List ℕ) × (Mends h m × (answer ≡ mended_to m))

  abbrev NoneBelow : ℕ → Type 0
  NoneBelow n = (k : ℕ) → k < n → is_multiple (candidate h k) ≡ false

  searched : (n : ℕ) → n ≤ header_size * 256 → Found (mended_in h n) ⊎ (NoneBelow n × (mended_in h n ≡ unmended beyond_mending))
  unfolding mended_in
  searched zero l = inr ((λ k below. absurd (omega arith)), refl)
  searched (suc n) l = go (is_multiple (candidate h n)) refl (searched n (omega arith))
    where
      go : (test : Bool) → is_multiple (candidate h n) ≡ test → Found (mended_in h n) ⊎ (NoneBelow n × (mended_in h n ≡ unmended beyond_mending))
          → Found (cond test (mended_to (candidate h n)) (mended_in h n))
          ⊎ (NoneBelow (suc n) × (cond test (mended_to (candidate h n)) (mended_in h n) ≡ unmended beyond_mending))
      go true e before = inl (candidate h n, (candidate_mends n l e, refl))
      go false e (inl found) = inl found
      go false e (inr none) = inr ((λ k below. ⊎_elim (λ same. rw same e) (none.0 k) (eq-or-lt_of_le (le_of_suc-le-suc below))), none.1)

  mended_case : Found (mended_of h) ⊎ (BeyondMending h × (mended_of h ≡ unmended beyond_mending))
  unfolding mended_of
  mended_case = ⊎_elim inl (λ none. inr (record { none_mends = never none.0 }, none.1)) (searched (header_size * 256) (omega arith))
    where
      never : NoneBelow (header_size * 256) → ¬ Mendable h
      never none w =
          let m = w.mended in let q = w.mends in
          true≢false (sym (passes m q) ∙ none (number m q) (digits_lt q.inside (byte m q)))

  pub found : (m : List ℕ) → Mends h m → mended_of h ≡ mended_to m
  found m q =
      ⊎_elim (λ w. w.1.1 ∙ ap mended_to (only_one h w.0 m six w.1.0 q))
      (λ none. absurd (none.0.none_mends (record { mended = m; mends = q })))
      mended_case

  pub none_found : BeyondMending h → mended_of h ≡ unmended beyond_mending
  none_found beyond = ⊎_elim (λ w. absurd (beyond.none_mends (record { mended = w.0; mends = w.1.0 }))) (λ none. none.1) mended_case

  -- what the answer says of the header
  pub mendable : (mended_of h).refusal ≡ 0 ↔ Mendable h
  unfolding mended_to unmended
  mendable = ⊎_elim
      (λ w. ((λ e. record { mended = w.0; mends = w.1.0 }), (λ some. ap (λ (a : Mended). a.refusal) w.1.1)))
      (λ none. ((λ e. absurd (omega (arith, e, ap (λ (a : Mended). a.refusal) none.1))), (λ some. absurd (none.0.none_mends some))))
      mended_case

  pub returned_mends : (mended_of h).refusal ≡ 0 → Mends h (mended_of h).header
  unfolding mended_to
  returned_mends e = let w = mendable.0 e in rw (found w.mended w.mends) w.mends

  pub beyond : (mended_of h).refusal ≡ beyond_mending ↔ BeyondMending h
  unfolding mended_to unmended
  beyond = ⊎_elim
      (λ w. (
        (λ e. absurd (omega (arith, e, ap (λ (a : Mended). a.refusal) w.1.1))),
        (λ none. absurd (none.none_mends (record { mended = w.0; mends = w.1.0 }))),
      ))
      (λ none. ((λ e. none.0), (λ again. ap (λ (a : Mended). a.refusal) none.1)))
      mended_case

-- "A correct header with just one byte changed always comes back as it was"
pub changed_back : (correct h : List ℕ) → SixBytes h → OneByteChanged correct h → mended_of h ≡ mended_to correct
changed_back correct h six w =
    found h six correct
    (record {
      six_bytes = multiple_six correct w.is_correct;
      its_multiple = w.is_correct;
      place = w.place;
      inside = w.inside;
      equal_but = λ i other. rw w.is_changed (get_or-set_other correct w.place i w.byte 0 other);
    })

-- ---- the answer as a value or a refusal

pub mended_tells : (r s : Result (List ℕ) Refusal) → mended_by r ≡ mended_by s → r ≡ s
unfolding mended_by mended_to unmended
mended_tells = tells mended_by (λ (a : Mended). a.refusal) (λ m. refl) (λ r. refl) (λ a b e. ap (λ (a : Mended). a.header) e)

-- ---- of the header in an image

module _ (format : ℕ) (image : List ℕ) (lsn : ℕ) (bytes : (i : ℕ) → slice_index image i < 256) where
  abbrev header : List ℕ
  header = header_at image lsn

  header_is_six : There format image lsn → SixBytes header
  header_is_six t = header_six image lsn bytes t.1

  said : There format image lsn → mend_of format image lsn ≡ mended_of header
  unfolding mend_of
  said = there_checked unmended mended_of format image lsn

  -- What is promised of an answer of `mend`.
  pub record MendMeans (answer : Mended) : Type 0 where
    pub mendable_iff : answer.refusal ≡ 0 ↔ HeaderIn Mendable format image lsn
    pub header_mends : answer.refusal ≡ 0 → Mends (header_at image lsn) answer.header
    pub beyond_iff : answer.refusal ≡ beyond_mending ↔ HeaderIn BeyondMending format image lsn
    pub comes_back : (correct : List ℕ) → HeaderIn (OneByteChanged correct) format image lsn → answer ≡ mended_to correct

  module _ (k : ℕ) (not-1 : foreign_format ≢ k) (not-11 : no_header ≢ k) (not-8 : no_such_entry ≢ k) where
    refusal_there : (mend_of format image lsn).refusal ≡ k → There format image lsn
    unfolding mend_of unmended
    refusal_there = there unmended mended_of format image lsn (λ (a : Mended). a.refusal) k not-1 not-11 not-8

    refusal_iff : (P : List ℕ → Type 0) → ((h : List ℕ) → SixBytes h → (mended_of h).refusal ≡ k ↔ P h)
        → (mend_of format image lsn).refusal ≡ k ↔ HeaderIn P format image lsn
    unfolding mend_of unmended
    refusal_iff P means =
        in_image unmended mended_of format image lsn (λ (a : Mended). a.refusal) k not-1 not-11 not-8 P (λ t. means header (header_is_six t))

  pub mend_means : MendMeans (mend_of format image lsn)
  mend_means = record {
    mendable_iff = refusal_iff 0 (omega arith) (omega arith) (omega arith) Mendable mendable;
    header_mends = λ e.
        let t = refusal_there 0 (omega arith) (omega arith) (omega arith) e in
        rw (said t) (returned_mends header (header_is_six t) (rw (said t) at e));
    beyond_iff = refusal_iff beyond_mending (omega arith) (omega arith) (omega arith) BeyondMending beyond;
    comes_back = λ correct s.
        let t : There format image lsn = (s.has_header, s.lies_there) in
        said t ∙ changed_back correct header (header_is_six t) s.its_header;
  }
