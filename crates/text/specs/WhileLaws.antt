-- Laws of `take_while`, `drop_while` and `drop_while_end`: they take a list apart, what is taken away passes the test, and what is left
-- does not begin, or end, with an element that passes; and the turns of a scan for the next element that does not pass.
-- Assumes nothing.
use Rattle.std.specs.Prelude.{◌≡◌, ◌+◌, ◌-◌, ◌≤◌, ◌<◌, ℕ, Bool, true, false, List, ◌++◌, length, get_or, take, drop, reverse, take_while}
use Rattle.std.specs.List.{prefix_len, suffix_len}
use Rattle.std.proofs.Common.{sym, ap, ◌∙◌, add-zero, zero-add, arith, length-take, length-drop}
use Rattle.std.proofs.lemmas.List.{take-append-drop, get_or-take, get_or-drop, get_or-reverse, length-reverse, length-take-le}
use Rattle.std.proofs.lemmas.List.Folds.{length-prefix_len}
use Rattle.std.proofs.lemmas.List.Sums.{prefix_len-le-length, prefix_len-drop_yes, prefix_len-drop_no, prefix_len_passes, prefix_len_stops, suffix_len-le-length}
use Rattle.text.specs.While.{drop_while, drop_while_end}

-- the length of a list's front, taken of the list, gives the front
pub front_taken : {A : Type 0} (front l : List A) → front ≡ take (length front) l → length front ≤ length l
    → (n : ℕ) → n ≡ length front → (n ≤ length l) × (take n l ≡ front)
front_taken front l is short n e = (omega arith, ap (λ (m : ℕ). take m l) e ∙ sym is)

module _ {A : Type 0} (test : A → Bool) where
  -- each element passes (`d` stands for no element)
  abbrev pub Passing : A → List A → Type 0
  Passing d l = (i : ℕ) → i < length l → test (get_or l i d) ≡ true

  -- what is taken and what is left are the list
  pub take_drop_while : (l : List A) → take_while test l ++ drop_while test l ≡ l
  unfolding drop_while
  take_drop_while l = take-append-drop (prefix_len test l) l

  -- what is taken stands at the start
  pub while_front : (l : List A) → take_while test l ≡ take (length (take_while test l)) l
  while_front l = ap (λ (n : ℕ). take n l) (sym (length-prefix_len test l))

  -- what is left stands behind it
  pub drop_while_rest : (l : List A) → drop_while test l ≡ drop (length (take_while test l)) l
  unfolding drop_while
  drop_while_rest l = ap (λ (n : ℕ). drop n l) (sym (length-prefix_len test l))

  -- what is taken is no longer than the list
  pub while_length : (l : List A) → length (take_while test l) ≤ length l
  while_length l = omega (arith, length-prefix_len test l, prefix_len-le-length test l)

  -- what is left is no longer than the list
  pub drop_while_length : (l : List A) → length (drop_while test l) ≤ length l
  unfolding drop_while
  drop_while_length l = omega (arith, length-drop (prefix_len test l) l)

  -- each element of the list that is taken passes
  pub while_passes : (l : List A) (i : ℕ) (d : A) → i < length (take_while test l) → test (get_or l i d) ≡ true
  while_passes l i d h = prefix_len_passes test l i d (omega (arith, length-prefix_len test l))

  -- what is taken passes
  pub take_while_passing : (d : A) (l : List A) → Passing d (take_while test l)
  take_while_passing d l i h =
      ap test (get_or-take (prefix_len test l) l i d (omega (arith, length-prefix_len test l))) ∙ while_passes l i d h

  -- what is left does not begin with an element that passes
  pub drop_while_starts : (d : A) (l : List A) → 0 < length (drop_while test l) → test (get_or (drop_while test l) 0 d) ≡ false
  unfolding drop_while
  drop_while_starts d l h =
      let n = prefix_len test l in
      ap test (get_or-drop n l 0 d ∙ ap (λ (k : ℕ). get_or l k d) (add-zero n)) ∙ prefix_len_stops test l d (omega (arith, length-drop n l))

  -- the element behind what is taken does not pass
  pub while_stops : (l : List A) (d : A) → length (take_while test l) < length l → test (get_or l (length (take_while test l)) d) ≡ false
  while_stops l d h = rw (length-prefix_len test l) (prefix_len_stops test l d (omega (arith, length-prefix_len test l)))

  -- A list is cut at its end to what is kept: elements that pass are taken away, and what is kept is empty, or ends with one that
  -- does not pass.
  pub record CutTo (d : A) (l kept : List A) : Type 0 where
    pub back : List A
    pub whole : l ≡ kept ++ back
    pub back_passes : Passing d back
    pub ends : 0 < length kept → test (get_or kept (length kept - 1) d) ≡ false

  module _ (d : A) (l : List A) where
    -- the elements at the end that pass, counted from there, and the one before them
    end_passes : (k : ℕ) → length l - suffix_len test l ≤ k → k < length l → test (get_or l k d) ≡ true
    end_passes k from h =
        let j = length l - 1 - k in
        let there : length l - 1 - j ≡ k = omega arith in
        ap test (ap (λ (n : ℕ). get_or l n d) (sym there) ∙ sym (get_or-reverse l j d (omega arith)))
        ∙ prefix_len_passes test (reverse l) j d (omega (arith, suffix_len-le-length test l))

    end_stops : suffix_len test l < length l → test (get_or l (length l - suffix_len test l - 1) d) ≡ false
    end_stops h =
        let n = suffix_len test l in
        let there : length l - 1 - n ≡ length l - n - 1 = omega arith in
        ap test (ap (λ (k : ℕ). get_or l k d) (sym there) ∙ sym (get_or-reverse l n d h))
        ∙ prefix_len_stops test (reverse l) d (omega (arith, length-reverse l))

    -- `drop_while_end` cuts a list so
    pub drop_while_end_cut : CutTo d l (drop_while_end test l)
    unfolding drop_while_end
    drop_while_end_cut =
        let n = length l - suffix_len test l in
        let size : length (take n l) ≡ n = length-take-le n l (omega arith) in
        record {
          back = drop n l;
          whole = sym (take-append-drop n l);
          back_passes = λ i h. ap test (get_or-drop n l i d) ∙ end_passes (n + i) (omega arith) (omega (arith, length-drop n l));
          ends = λ h.
              ap test (ap (λ (k : ℕ). get_or (take n l) (k - 1) d) size ∙ get_or-take n l (n - 1) d (omega arith)) ∙ end_stops (omega arith);
        }

  -- what it leaves is no longer than the list
  pub drop_while_end_length : (l : List A) → length (drop_while_end test l) ≤ length l
  unfolding drop_while_end
  drop_while_end_length l = omega (arith, length-take (length l - suffix_len test l) l)

  -- and stands at the start
  pub drop_while_end_front : (l : List A) → drop_while_end test l ≡ take (length (drop_while_end test l)) l
  unfolding drop_while_end
  drop_while_end_front l = let n = length l - suffix_len test l in ap (λ (k : ℕ). take k l) (sym (length-take-le n l (omega arith)))

  -- A scan of the list that stands at `i` ends at `n`: it goes over the elements from there on that pass.
  abbrev pub ScanEnds : List A → ℕ → ℕ → Type 0
  ScanEnds l i n = i + length (take_while test (drop i l)) ≡ n

  -- from the start it goes over what is taken
  pub scan_start : (l : List A) → ScanEnds l 0 (length (take_while test l))
  scan_start l = zero-add (length (take_while test l))

  -- it goes on over an element that passes
  pub scan_more : (l : List A) (i : ℕ) (d : A) {n : ℕ} → i < length l → test (get_or l i d) ≡ true → ScanEnds l i n → ScanEnds l (i + 1) n
  scan_more l i d h t s =
      omega (arith, length-prefix_len test (drop i l), length-prefix_len test (drop (i + 1) l), prefix_len-drop_yes test l i d h t)

  -- it ends at one that does not pass
  pub scan_stop : (l : List A) (i : ℕ) (d : A) {n : ℕ} → i < length l → test (get_or l i d) ≡ false → ScanEnds l i n → i ≡ n
  scan_stop l i d h t s = omega (arith, length-prefix_len test (drop i l), prefix_len-drop_no test l i d h t)

  -- and at the list's end
  pub scan_end : (l : List A) (i : ℕ) {n : ℕ} → length l ≤ i → ScanEnds l i n → i ≡ n
  scan_end l i h s = omega (arith, while_length (drop i l), length-drop i l)
