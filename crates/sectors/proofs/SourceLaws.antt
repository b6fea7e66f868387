-- Laws of sources: of any, and of an image's. A run is there exactly when it is readable, what its bytes are, and what another
-- source keeps of it. Assumes nothing.
use Rattle.std.specs.Prelude.{◌≡◌, ℕ, zero, suc, ◌+◌, ◌*◌, ◌<◌, ◌≤◌, Bool, true, false, List, [], ◌++◌, length, nat_le, slice_index}
use Rattle.std.proofs.Math.Decide.{ℕ_discrete}
use Rattle.std.proofs.Math.Numerals.{add-one}
use Rattle.std.proofs.Common.{arith, sym, ◌∙◌, ap, length-append, leb-true, le-leb}
use Rattle.std.proofs.Math.Path.{refl}
use Rattle.std.proofs.Math.Option.{Option, none, some}
use Rattle.sectors.specs.Options.{only_if, Known, is_there, given}
use Rattle.sectors.specs.OptionLaws.{some_eq, no_some, there_known, known_there, given_known}
use Rattle.sectors.specs.Format.{stored_size, data_offset, sector_size}
use Rattle.sectors.specs.Sector.{sector_count, readable, sector_data, run_data}
use Rattle.sectors.proofs.SectorLaws.{readable_true, is_readable, sector_of_run, run_shorter, sector_length, sector_missing, sector_inside, sector_ext, count_mono}
use Rattle.sectors.specs.Source.{Source, Sized, image_source, joined, sectors_of, run_of}

-- ---- any source

joined_parts : (x y : Option (List ℕ)) (b : List ℕ) → joined x y ≡ some b
    → (c : List ℕ) × (d : List ℕ) × (x ≡ some c) × (y ≡ some d) × (b ≡ c ++ d)
unfolding joined
joined_parts none y b e = absurd (no_some refl e)
joined_parts (some c) none b e = absurd (no_some refl e)
joined_parts (some c) (some d) b e = (c, d, refl, refl, sym (some_eq e))

-- a run that is there: it ends by the source's count, and its sectors are there
pub run_parts : (s : Source) (lsn n : ℕ) (b : List ℕ) → run_of s lsn n ≡ some b → (lsn + n ≤ s.count) × (sectors_of s lsn n ≡ some b)
unfolding run_of
run_parts s lsn n b e = go (nat_le (lsn + n) s.count) refl e
  where
    go : (t : Bool) → nat_le (lsn + n) s.count ≡ t → only_if t (sectors_of s lsn n) ≡ some b → (lsn + n ≤ s.count) × (sectors_of s lsn n ≡ some b)
    go true q h = (leb-true (lsn + n) s.count q, h)
    go false q h = absurd (no_some refl h)

pub run_from : (s : Source) (lsn n : ℕ) → lsn + n ≤ s.count → run_of s lsn n ≡ sectors_of s lsn n
unfolding run_of
run_from s lsn n h = rw (le-leb (lsn + n) s.count h)

-- each sector of one that is there holds the same in the other: so does the run
sectors_kept : (s t : Source) (lsn n : ℕ)
    → ((k : ℕ) (d : List ℕ) → lsn ≤ k → k < lsn + n → s.at k ≡ some d → t.at k ≡ some d)
    → (b : List ℕ) → sectors_of s lsn n ≡ some b → sectors_of t lsn n ≡ some b
unfolding sectors_of joined
sectors_kept s t lsn zero h b e = e
sectors_kept s t lsn (suc n) h b e =
    let p = joined_parts (sectors_of s lsn n) (s.at (lsn + n)) b e in
    let front : sectors_of t lsn n ≡ some p.0 =
    sectors_kept s t lsn n (λ k d l u q. h k d (omega arith) (omega arith) q) p.0 p.2 in
    let last : t.at (lsn + n) ≡ some p.1 = h (lsn + n) p.1 (omega arith) (omega arith) p.3 in
    rw (front, last) (ap {B = Option (List ℕ)} some (sym p.4))

pub run_kept : (s t : Source) (lsn n : ℕ) → lsn + n ≤ t.count
    → ((k : ℕ) (d : List ℕ) → lsn ≤ k → k < lsn + n → s.at k ≡ some d → t.at k ≡ some d)
    → (b : List ℕ) → run_of s lsn n ≡ some b → run_of t lsn n ≡ some b
run_kept s t lsn n fits h b e = run_from t lsn n fits ∙ sectors_kept s t lsn n h b (run_parts s lsn n b e).1

sectors_each : (s : Source) (lsn n : ℕ) (b : List ℕ) → sectors_of s lsn n ≡ some b → (k : ℕ) → k < n → Known (s.at (lsn + k))
unfolding sectors_of
sectors_each s lsn zero b e k h = absurd (omega arith)
sectors_each s lsn (suc n) b e k h =
    let p = joined_parts (sectors_of s lsn n) (s.at (lsn + n)) b e in
    go (ℕ_discrete k n) (p.1, p.3) (λ l. sectors_each s lsn n p.0 p.2 k l)
  where
    go : Dec (k ≡ n) → Known (s.at (lsn + n)) → (k < n → Known (s.at (lsn + k))) → Known (s.at (lsn + k))
    go (yes q) last before = rw q last
    go (no q) last before = before (omega arith)

-- a run that is there has each of its sectors
pub run_each : (s : Source) (lsn n : ℕ) (b : List ℕ) → run_of s lsn n ≡ some b → (k : ℕ) → k < n → Known (s.at (lsn + k))
run_each s lsn n b e = sectors_each s lsn n b (run_parts s lsn n b e).1

pub there_each : (s : Source) (lsn n : ℕ) → is_there (run_of s lsn n) ≡ true → (k : ℕ) → k < n → is_there (s.at (lsn + k)) ≡ true
there_each s lsn n there k h =
    let run = there_known (run_of s lsn n) there in known_there (s.at (lsn + k)) (run_each s lsn n run.0 run.1 k h)

-- a sector that is lost loses the run
pub run_lost : (s : Source) (lsn n k : ℕ) → k < n → s.at (lsn + k) ≡ none → run_of s lsn n ≡ none
run_lost s lsn n k h e = go (run_of s lsn n) refl
  where
    go : (x : Option (List ℕ)) → run_of s lsn n ≡ x → x ≡ none
    go none q = refl
    go (some b) q = absurd (no_some e (run_each s lsn n b q k h).1)

sectors_there : (s : Source) (lsn n : ℕ) → ((k : ℕ) → k < n → Known (s.at (lsn + k))) → Known (sectors_of s lsn n)
unfolding sectors_of joined
sectors_there s lsn zero h = ([], refl)
sectors_there s lsn (suc n) h =
    let front = sectors_there s lsn n (λ k l. h k (omega arith)) in
    let last = h n (omega arith) in
    (front.0 ++ last.0, rw (front.1, last.1))

-- a run whose sectors are all there is there
pub run_there : (s : Source) (lsn n : ℕ) → lsn + n ≤ s.count → ((k : ℕ) → k < n → Known (s.at (lsn + k))) → Known (run_of s lsn n)
run_there s lsn n fits h = let k = sectors_there s lsn n h in (k.0, run_from s lsn n fits ∙ k.1)

-- each sector of one that is there is in the other: so is the run
pub run_known : (s t : Source) (lsn n : ℕ) → lsn + n ≤ t.count
    → ((k : ℕ) (d : List ℕ) → lsn ≤ k → k < lsn + n → s.at k ≡ some d → Known (t.at k))
    → (b : List ℕ) → run_of s lsn n ≡ some b → Known (run_of t lsn n)
run_known s t lsn n fits h b e =
    run_there t lsn n fits
    (λ k l. let known = run_each s lsn n b e k l in h (lsn + k) known.0 (omega arith) (omega arith) known.1)

-- two sources of one count that hold the same in each sector of a run have the same run
sectors_same : (s t : Source) (lsn n : ℕ) → ((k : ℕ) → lsn ≤ k → k < lsn + n → s.at k ≡ t.at k) → sectors_of s lsn n ≡ sectors_of t lsn n
unfolding sectors_of
sectors_same s t lsn zero h = refl
sectors_same s t lsn (suc n) h =
    rw (sectors_same s t lsn n (λ k l u. h k (omega arith) (omega arith)), h (lsn + n) (omega arith) (omega arith))

pub run_same : (s t : Source) (lsn n : ℕ) → s.count ≡ t.count → ((k : ℕ) → lsn ≤ k → k < lsn + n → s.at k ≡ t.at k)
    → run_of s lsn n ≡ run_of t lsn n
unfolding run_of
run_same s t lsn n c h =
    ap (λ (m : ℕ). only_if (nat_le (lsn + n) m) (sectors_of s lsn n)) c
    ∙ ap (only_if (nat_le (lsn + n) t.count)) (sectors_same s t lsn n h)

sectors_length : (s : Source) → Sized s → (lsn n : ℕ) (b : List ℕ) → sectors_of s lsn n ≡ some b → length b ≡ n * sector_size
unfolding sectors_of
sectors_length s z lsn zero b e = sym (ap length (some_eq e))
sectors_length s z lsn (suc n) b e =
    let p = joined_parts (sectors_of s lsn n) (s.at (lsn + n)) b e in
    let front = sectors_length s z lsn n p.0 p.2 in
    let last = z.sized (lsn + n) p.1 p.3 in
    rw (p.4, length-append) (omega arith)

pub run_of_length : (s : Source) → Sized s → (lsn n : ℕ) (b : List ℕ) → run_of s lsn n ≡ some b → length b ≡ n * sector_size
run_of_length s z lsn n b e = sectors_length s z lsn n b (run_parts s lsn n b e).1

-- a run of no sectors has no bytes, whether it is there or not
pub run_none : (s : Source) (lsn : ℕ) → given (run_of s lsn 0) ≡ []
unfolding run_of sectors_of given
run_none s lsn = go (nat_le (lsn + 0) s.count)
  where
    go : (t : Bool) → given {A = ℕ} (only_if t (some [])) ≡ []
    go true = refl
    go false = refl

-- the first sectors of a run that is there, and the next
module _ (s : Source) (z : Sized s) (lsn count : ℕ) (there : Known (run_of s lsn count)) where
  pub front_there : (k : ℕ) → k ≤ count → Known (run_of s lsn k)
  front_there k h =
      let within = (run_parts s lsn count there.0 there.1).0 in
      run_there s lsn k (omega arith) (λ i l. run_each s lsn count there.0 there.1 i (omega arith))

  next_known : (k : ℕ) → k < count → Known (s.at (lsn + k))
  next_known k h = run_each s lsn count there.0 there.1 k h

  pub next_size : (k : ℕ) → k < count → length (given (s.at (lsn + k))) ≡ sector_size
  next_size k h = z.sized (lsn + k) (given (s.at (lsn + k))) (given_known (s.at (lsn + k)) (next_known k h))

  pub front_size : (k : ℕ) → k ≤ count → length (given (run_of s lsn k)) ≡ k * sector_size
  front_size k h = run_of_length s z lsn k (given (run_of s lsn k)) (given_known (run_of s lsn k) (front_there k h))

  pub run_next : (k : ℕ) → k < count → given (run_of s lsn (k + 1)) ≡ given (run_of s lsn k) ++ given (s.at (lsn + k))
  unfolding sectors_of joined given
  run_next k h =
      let within = (run_parts s lsn count there.0 there.1).0 in
      let front = given_known (run_of s lsn k) (front_there k (omega arith)) in
      let next = given_known (s.at (lsn + k)) (next_known k h) in
      let e : run_of s lsn (k + 1) ≡ joined (sectors_of s lsn k) (s.at (lsn + k)) = run_from s lsn (k + 1) (omega arith) ∙ rw add-one in
      ap given (e ∙ (λ i. joined ((sym (run_from s lsn k (omega arith)) ∙ front) i) (next i)))

-- ---- an image

module _ (format : ℕ) (image : List ℕ) where
  pub image_count : (image_source format image).count ≡ sector_count format (length image)
  unfolding image_source
  image_count = refl

  -- a sector of the image, and one that is not there
  pub image_at : (lsn : ℕ) → readable format (length image) lsn 1 ≡ true → (image_source format image).at lsn ≡ some (sector_data format image lsn)
  unfolding image_source
  image_at lsn h = rw h

  pub image_not_at : (lsn : ℕ) → readable format (length image) lsn 1 ≡ false → (image_source format image).at lsn ≡ none
  unfolding image_source
  image_not_at lsn h = rw h

  -- whether it is there, and the bytes that are given of it
  pub image_has : (lsn : ℕ) → is_there ((image_source format image).at lsn) ≡ readable format (length image) lsn 1
  unfolding is_there
  image_has lsn = go (readable format (length image) lsn 1) refl
    where
      go : (t : Bool) → readable format (length image) lsn 1 ≡ t → is_there ((image_source format image).at lsn) ≡ readable format (length image) lsn 1
      go true e = ap is_there (image_at lsn e) ∙ sym e
      go false e = ap is_there (image_not_at lsn e) ∙ sym e

  pub image_given : (lsn : ℕ) → given ((image_source format image).at lsn) ≡ sector_data format image lsn
  unfolding given
  image_given lsn = go (readable format (length image) lsn 1) refl
    where
      go : (t : Bool) → readable format (length image) lsn 1 ≡ t → given ((image_source format image).at lsn) ≡ sector_data format image lsn
      go true e = ap given (image_at lsn e)
      go false e = ap given (image_not_at lsn e) ∙ sym (sector_missing format image lsn e)

  -- what an image's source holds is a sector of the image
  pub image_holds : (lsn : ℕ) (d : List ℕ) → (image_source format image).at lsn ≡ some d
      → (readable format (length image) lsn 1 ≡ true) × (sector_data format image lsn ≡ d)
  image_holds lsn d e = go (readable format (length image) lsn 1) refl
    where
      go : (t : Bool) → readable format (length image) lsn 1 ≡ t → (readable format (length image) lsn 1 ≡ true) × (sector_data format image lsn ≡ d)
      go true q = (q, some_eq (sym (image_at lsn q) ∙ e))
      go false q = absurd (no_some (image_not_at lsn q) e)

  pub image_sized : Sized (image_source format image)
  image_sized = record { sized = λ n d e. let r = image_holds n d e in rw (← r.1) (sector_length format image n r.0) }

  sectors_readable : (lsn n : ℕ) → readable format (length image) lsn n ≡ true → sectors_of (image_source format image) lsn n ≡ some (run_data format image lsn n)
  unfolding sectors_of run_data joined
  sectors_readable lsn zero h = refl
  sectors_readable lsn (suc n) h =
      rw (
        sectors_readable lsn n (run_shorter format image lsn (suc n) n h (omega arith)),
        image_at (lsn + n) (sector_of_run format image lsn (suc n) n h (omega arith)),
      )

  -- a run is there exactly when it is readable, and its bytes are the run's data bytes
  pub image_run : (lsn n : ℕ) → readable format (length image) lsn n ≡ true → run_of (image_source format image) lsn n ≡ some (run_data format image lsn n)
  image_run lsn n h =
      run_from (image_source format image) lsn n (rw image_count (readable_true format (length image) lsn n h)) ∙ sectors_readable lsn n h

  pub image_no_run : (lsn n : ℕ) → readable format (length image) lsn n ≡ false → run_of (image_source format image) lsn n ≡ none
  unfolding run_of readable image_source
  image_no_run lsn n h = rw h

  pub image_there : (lsn n : ℕ) → is_there (run_of (image_source format image) lsn n) ≡ readable format (length image) lsn n
  unfolding is_there
  image_there lsn n = go (readable format (length image) lsn n) refl
    where
      go : (t : Bool) → readable format (length image) lsn n ≡ t → is_there (run_of (image_source format image) lsn n) ≡ readable format (length image) lsn n
      go true e = rw (image_run lsn n e, e)
      go false e = rw (image_no_run lsn n e, e)

-- What a shorter image's source keeps: a run that it has, with the same data bytes in the longer image, is there too.
pub cut_kept : (format : ℕ) (a b : List ℕ) (lsn n : ℕ) → length a ≤ length b
    → ((k i : ℕ) → lsn ≤ k → k < lsn + n → i < sector_size → k * stored_size format + data_offset format + i < length a
    → slice_index a (k * stored_size format + data_offset format + i) ≡ slice_index b (k * stored_size format + data_offset format + i))
    → (d : List ℕ) → run_of (image_source format a) lsn n ≡ some d → run_of (image_source format b) lsn n ≡ some d
cut_kept format a b lsn n shorter each d e =
    run_kept (image_source format a) (image_source format b) lsn n fits keeps d e
  where
    fits : lsn + n ≤ (image_source format b).count
    fits =
        let p : lsn + n ≤ sector_count format (length a) = rw image_count at (run_parts (image_source format a) lsn n d e).0 in
        let m = count_mono format (length a) (length b) shorter in
        rw image_count (omega arith)

    keeps : (k : ℕ) (x : List ℕ) → lsn ≤ k → k < lsn + n → (image_source format a).at k ≡ some x → (image_source format b).at k ≡ some x
    keeps k x l u q =
        let r = image_holds format a k x q in
        let in-a = readable_true format (length a) k 1 r.0 in
        let m = count_mono format (length a) (length b) shorter in
        let in_b = is_readable format (length b) k 1 (omega arith) in
        let end = sector_inside format a k r.0 in
        let inside : (i : ℕ) → i < sector_size → k * stored_size format + data_offset format + i < length a = λ i small. omega arith in
        image_at format b k in_b
        ∙ ap {B = Option (List ℕ)} some (sym (sector_ext format a b k r.0 in_b (λ i small. each k i l u small (inside i small))) ∙ r.1)
