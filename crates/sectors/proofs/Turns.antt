-- A turn of the loops over a run's sectors, of any source: what is found, copied or compared so far, and one sector more. Assumes nothing.
use Rattle.std.proofs.Common.{◌≡◌, ℕ, zero, suc, ◌+◌, ◌-◌, ◌*◌, ◌<◌, ◌≤◌, Bool, true, false, ◌&&◌, List, [], ◌++◌, length, take, drop, sym, refl, ap, subst, ◌∙◌, add-zero, arith, length-take-le, take_all, take-take, take-add}
use mathlib.Core.Bool.{and-eq-true_iff}
use mathlib.Core.Option.{Option, none, some}
use borrow.Rule.Slice.PartMut.{put_mid}
use lib.Seq.{take-append-le}
use Rattle.std.specs.Bool.{MatchBool}
use Rattle.std.specs.List.{AllWithin, HoldsAt, range_with_len}
use Rattle.std.proofs.lemmas.List.FromFn.{length-range_with_len, get_or-range_with_len}
use Rattle.sectors.specs.Fill.{part, fill}
use Rattle.sectors.specs.FillLaws.{put_fill, fill_more, fill_none}
use Rattle.sectors.specs.Format.{sector_size}
use Rattle.sectors.specs.Options.{Known, is_there, given}
use Rattle.sectors.specs.OptionLaws.{there_known, known_there, not_there}
use Rattle.sectors.specs.Source.{Source, Sized, run_of}
use Rattle.sectors.proofs.SourceLaws.{run_parts, run_there, run_lost, run_none, next_size, front_size, run_next}
use Rattle.sectors.specs.Pool.{pooled_count, pooled_source}
use Rattle.sectors.specs.Bytes.{same}
use Rattle.sectors.specs.BytesLaws.{same_eq, same_refl, same_append}

-- ---- each sector of a run

module _ (s : Source) (lsn count : ℕ) where
  -- what a test of each of its sectors says, of a run that ends by the source's count
  abbrev pub Asked : Bool → Type 0
  Asked t =
      MatchBool t (AllWithin (λ k. is_there (s.at k) ≡ true) (range_with_len lsn count) 0 (length (range_with_len lsn count)))
      ((k : ℕ) × (k < length (range_with_len lsn count)) × HoldsAt (λ k. is_there (s.at k) ≡ false) (range_with_len lsn count) k)

  pub all_there : lsn + count ≤ s.count → (t : Bool) → Asked t → t ≡ is_there (run_of s lsn count)
  unfolding is_there
  all_there h true each =
      let at : (k : ℕ) → k < count → is_there (s.at (lsn + k)) ≡ true =
      λ k l. subst (λ n. is_there (s.at n) ≡ true) (get_or-range_with_len lsn count k 0 l) (each k 0 (omega arith) (rw length-range_with_len l)) in
      sym (known_there (run_of s lsn count) (run_there s lsn count h (λ k l. there_known (s.at (lsn + k)) (at k l))))
  all_there h false lost =
      let k = lost.0 in
      let l : k < count = rw length-range_with_len at lost.1 in
      let gone : s.at (lsn + k) ≡ none =
      not_there (s.at (lsn + k)) (subst (λ n. is_there (s.at n) ≡ false) (get_or-range_with_len lsn count k 0 l) (lost.2 0)) in
      sym (ap is_there (run_lost s lsn count k l gone))

  -- one that does not is not
  pub past_end : s.count < lsn + count → false ≡ is_there (run_of s lsn count)
  unfolding is_there
  past_end h = go (run_of s lsn count) refl
    where
      go : (x : Option (List ℕ)) → run_of s lsn count ≡ x → false ≡ is_there x
      go none q = refl
      go (some b) q = absurd (omega (arith, (run_parts s lsn count b q).0))

-- nothing is copied or compared at first
module _ (s : Source) (lsn : ℕ) where
  pub copy_start : (at : ℕ) (old : List ℕ) → old ≡ fill at (given (run_of s lsn 0)) old
  copy_start at old = sym (ap (λ (r : List ℕ). fill at r old) (run_none s lsn) ∙ fill_none at old)

  pub same_start : same (given (run_of s lsn 0)) [] ≡ true
  unfolding same
  same_start = ap (λ (r : List ℕ). same r []) (run_none s lsn)

module _ (s : Source) (z : Sized s) (lsn count : ℕ) (here : is_there (run_of s lsn count) ≡ true) where
  there : Known (run_of s lsn count)
  there = there_known (run_of s lsn count) here

  -- the start of a run is a shorter run
  prefix_by : (j d : ℕ) → j + d ≤ count → take (j * sector_size) (given (run_of s lsn (j + d))) ≡ given (run_of s lsn j)
  prefix_by j zero h =
      let l = front_size s z lsn count there j (omega arith) in
      ap (λ (n : ℕ). take (j * sector_size) (given (run_of s lsn n))) (add-zero j) ∙ take_all (j * sector_size) (given (run_of s lsn j)) (omega arith)
  prefix_by j (suc d) h =
      let l = front_size s z lsn count there (j + d) (omega arith) in
      let e : j + suc d ≡ j + d + 1 = omega arith in
      ap (λ (n : ℕ). take (j * sector_size) (given (run_of s lsn n))) e
      ∙ ap (take (j * sector_size)) (run_next s z lsn count there (j + d) (omega arith))
      ∙ take-append-le (j * sector_size) (given (run_of s lsn (j + d))) (given (s.at (lsn + (j + d)))) (omega arith)
      ∙ prefix_by j d (omega arith)

  prefix : (j : ℕ) → j ≤ count → take (j * sector_size) (given (run_of s lsn count)) ≡ given (run_of s lsn j)
  prefix j h =
      let e : j + (count - j) ≡ count = omega arith in
      ap (λ (n : ℕ). take (j * sector_size) (given (run_of s lsn n))) (sym e) ∙ prefix_by j (count - j) (omega arith)

  module _ (k : ℕ) (more : k < count) where
    abbrev run : ℕ → List ℕ
    run n = given (run_of s lsn n)

    abbrev next : List ℕ
    next = given (s.at (lsn + k))

    -- the sector is copied behind those before it
    pub copy_turn : (old buf last : List ℕ) (at to : ℕ) → at + count * sector_size ≤ length old → to ≡ at + k * sector_size
        → buf ≡ fill at (run k) old → last ≡ next
        → put_mid to (to + sector_size - to) buf last ≡ fill at (run (k + 1)) old
    copy_turn old buf last at to room et eb el =
        let l = front_size s z lsn count there k (omega arith) in
        let d = next_size s z lsn count there k more in
        let size : length last ≡ to + sector_size - to = omega (arith, ap length el) in
        let place : to ≡ at + length (run k) = omega arith in
        put_fill to (to + sector_size - to) buf last size
        ∙ (λ i. fill (place i) (el i) (eb i))
        ∙ fill_more at (run k) old (omega arith) next (omega arith)
        ∙ ap (λ (r : List ℕ). fill at r old) (sym (run_next s z lsn count there k more))

    module _ (bytes : List ℕ) (long : count * sector_size ≤ length bytes) where
      -- the sectors so far are the same, and the next is
      pub same_turn : same (run k) (take (k * sector_size) bytes) ≡ true → same next (part (k * sector_size) sector_size bytes) ≡ true
          → same (run (k + 1)) (take ((k + 1) * sector_size) bytes) ≡ true
      unfolding part
      same_turn before now-too =
          let end : (k + 1) * sector_size ≡ k * sector_size + sector_size = omega arith in
          let l = length-take-le (k * sector_size) bytes (omega arith) in
          rw (
            run_next s z lsn count there k more,
            end,
            take-add (k * sector_size) sector_size bytes,
            same_append (run k) (take (k * sector_size) bytes) next (take sector_size (drop (k * sector_size) bytes)) (front_size s z lsn count there k (omega arith) ∙ sym l),
            before,
            now-too,
          )

      -- the next is not: then the whole is not
      pub same_stop : same next (part (k * sector_size) sector_size bytes) ≡ false → same (run count) (take (count * sector_size) bytes) ≡ false
      unfolding part
      same_stop differs = go (same (run count) (take (count * sector_size) bytes)) refl
        where
          go : (t : Bool) → same (run count) (take (count * sector_size) bytes) ≡ t → t ≡ false
          go false e = refl
          go true e =
              let whole = same_eq (run count) (take (count * sector_size) bytes) e in
              let end : (k + 1) * sector_size ≡ k * sector_size + sector_size = omega arith in
              let l = length-take-le (k * sector_size) bytes (omega arith) in
              let mine : run k ++ next ≡ take (k * sector_size) bytes ++ take sector_size (drop (k * sector_size) bytes) =
              sym (run_next s z lsn count there k more) ∙ sym (prefix (k + 1) (omega arith)) ∙ ap (take ((k + 1) * sector_size)) whole
              ∙ take-take ((k + 1) * sector_size) (count * sector_size) bytes (omega arith)
              ∙ ap (λ (n : ℕ). take n bytes) end ∙ take-add (k * sector_size) sector_size bytes in
              let yes_too : (same (run k) (take (k * sector_size) bytes) && same next (take sector_size (drop (k * sector_size) bytes))) ≡ true =
              sym (same_append (run k) (take (k * sector_size) bytes) next (take sector_size (drop (k * sector_size) bytes)) (front_size s z lsn count there k (omega arith) ∙ sym l))
              ∙ ap (λ (x : List ℕ). same x (take (k * sector_size) bytes ++ take sector_size (drop (k * sector_size) bytes))) mine
              ∙ same_refl (take (k * sector_size) bytes ++ take sector_size (drop (k * sector_size) bytes)) in
              sym ((and-eq-true_iff (same (run k) (take (k * sector_size) bytes)) (same next (take sector_size (drop (k * sector_size) bytes)))).0 yes_too).1 ∙ differs

-- ---- of the pool: what the program finds of its sectors
module _ (first second : List ℕ) (n count : ℕ) {m : ℕ} (e : m ≡ pooled_count (length first) (length second)) where
  pub pool_past : m < n + count → false ≡ is_there (run_of (pooled_source first second) n count)
  unfolding pooled_source
  pool_past h = past_end (pooled_source first second) n count (omega arith)

  pub pool_all : n + count ≤ m → (t : Bool) → Asked (pooled_source first second) n count t → t ≡ is_there (run_of (pooled_source first second) n count)
  unfolding pooled_source
  pool_all h t asked = all_there (pooled_source first second) n count (omega arith) t asked
