-- What is left of the records of a table, turn by turn. Assumes nothing: by the cases of what is left.
use Rattle.std.proofs.Common.{◌≡◌, ◌≢◌, ℕ, ◌+◌, ◌<◌, List, [], ◌∷◌, ◌++◌, length, Option, None, Some, take, drop, refl, sym, ap, subst, ◌∙◌, append_assoc, add-zero, take-append-drop, arith}
use Rattle.std.proofs.lemmas.List.Elements.{All-head, All-tail}
use Rattle.inputs.specs.declared.runs.Record.{Record}
use Rattle.inputs.specs.declared.runs.Record.TheVariants as record_kind
use Rattle.inputs.specs.Runs.{Run, recorded, stored, laid, laid_all, IsWithin, IsStored, kind_of}

-- how a record is read, by a table of so many bytes: what it is, the table with its bytes, and what is behind it
pub record Reads (room : ℕ) (found : Option Record) (table laid_on : List ℕ) (before after : Option (List ℕ)) : Type 0 where
  pub known : (r : Run) (rest : List ℕ) → IsWithin room r → before ≡ Some (recorded r ++ rest)
      → (found ≡ Some (kind_of r)) × ((laid_on ≡ laid r table) × (after ≡ Some rest))

pub reads_in : (room : ℕ) (found : Option Record) (table laid_on : List ℕ) (before after : Option (List ℕ)) → length table ≡ room
    → ((r : Run) (rest : List ℕ) → IsWithin (length table) r → before ≡ Some (recorded r ++ rest)
    → (found ≡ Some (kind_of r)) × ((laid_on ≡ laid r table) × (after ≡ Some rest)))
    → Reads room found table laid_on before after
reads_in room found table laid_on before after long known = record { known = λ r rest within. known r rest (subst (λ n. IsWithin n r) (sym long) within) }

-- these runs are left after so many turns: what is to be read, and what of the table is done
pub record IsLeft (room : ℕ) (runs : List Run) (size : ℕ) (rest first : List ℕ) (left : List Run) (table : List ℕ) (now : Option (List ℕ)) (turns : ℕ) : Type 0 where
  pub fits : IsStored room left size
  pub known : now ≡ Some (stored left size ++ rest)
  pub done : laid_all left table ≡ laid_all runs first
  pub counted : length left + turns ≡ length runs

pub kind_of_some : (r : Run) → 0 < length r.bytes → kind_of r ≡ record_kind.Bytes
unfolding kind_of
kind_of_some r some = of_bytes r.bytes some where
  of_bytes : (bytes : List ℕ) → 0 < length bytes → (elim bytes [ [] ↦ record_kind.End r.place | _ ∷ _ ↦ record_kind.Bytes ]) ≡ record_kind.Bytes
  of_bytes [] none = absurd (omega arith)
  of_bytes (b ∷ bs) more = refl

-- a record of no byte leaves a table as it is
laid_none : (size : ℕ) (table : List ℕ) → laid (record { place = size; bytes = [] }) table ≡ table
unfolding laid
laid_none size table = ap (λ n. take size table ++ drop n table) (add-zero size) ∙ take-append-drop size table

-- a record is not two things, and not none
two_kinds : (found : Option Record) (k : ℕ) → found ≡ Some record_kind.Bytes → found ≢ Some (record_kind.End k)
two_kinds found k bytes ended = let same : Some record_kind.Bytes ≡ Some (record_kind.End k) = sym bytes ∙ ended in cc

same_end : (found : Option Record) (k n : ℕ) → found ≡ Some (record_kind.End k) → found ≡ Some (record_kind.End n) → k ≡ n
same_end found k n one other = let same : Some (record_kind.End k) ≡ Some (record_kind.End n) = sym one ∙ other in cc

not_none : (found : Option Record) (kind : Record) → found ≡ Some kind → found ≢ None
not_none found kind some none = let same : Some kind ≡ None = sym some ∙ none in cc

module _ {room : ℕ} {runs : List Run} {size : ℕ} {rest first : List ℕ} {found : Option Record} {table laid_on : List ℕ} {now after : Option (List ℕ)} {turns : ℕ}
    (reads : Reads room found table laid_on now after) where
  end_read : IsLeft room runs size rest first [] table now turns → (found ≡ Some (record_kind.End size)) × ((laid_on ≡ table) × (after ≡ Some rest))
  unfolding stored kind_of
  end_read is =
      let got = reads.known (record { place = size; bytes = [] }) rest is.fits.size_within is.known in
      (got.0, (got.1.0 ∙ laid_none size table, got.1.1))

  run_read : (r : Run) (rs : List Run) → IsLeft room runs size rest first (r ∷ rs) table now turns
      → (found ≡ Some record_kind.Bytes) × ((laid_on ≡ laid r table) × (after ≡ Some (stored rs size ++ rest)))
  unfolding stored
  run_read r rs is =
      let got = reads.known r (stored rs size ++ rest) (All-head (IsWithin room) r rs is.fits.within) (is.known ∙ ap (λ l. Some l) (append_assoc (recorded r) (stored rs size) rest)) in
      (got.0 ∙ ap (λ k. Some k) (kind_of_some r (All-head (λ s. 0 < length s.bytes) r rs is.fits.filled)), (got.1.0, got.1.1))

  -- a run is read, and is left no more
  pub next_left : (left : List Run) → IsLeft room runs size rest first left table now turns → found ≡ Some record_kind.Bytes
      → (others : List Run) × IsLeft room runs size rest first others laid_on after (turns + 1)
  unfolding laid_all
  next_left [] is bytes = absurd (two_kinds found size bytes (end_read is).0)
  next_left (r ∷ rs) is bytes =
      let got = run_read r rs is in (
        rs,
        record {
          fits = record {
            within = All-tail (IsWithin room) r rs is.fits.within;
            filled = All-tail (λ s. 0 < length s.bytes) r rs is.fits.filled;
            size_within = is.fits.size_within;
            few = omega arith;
          };
          known = got.1.1;
          done = ap (laid_all rs) got.1.0 ∙ is.done;
          counted = omega arith;
        },
      )

  -- the end is read, and its length is that of the table
  pub end_left : (left : List Run) (k : ℕ) → IsLeft room runs size rest first left table now turns → found ≡ Some (record_kind.End k)
      → (k ≡ size) × ((laid_on ≡ laid_all runs first) × (after ≡ Some rest))
  unfolding laid_all
  end_left [] k is ended = let got = end_read is in (same_end found k size ended got.0, (got.1.0 ∙ is.done, got.1.1))
  end_left (r ∷ rs) k is ended = absurd (two_kinds found k (run_read r rs is).0 ended)

  -- as long as anything is left, there is a record
  pub none_left : (left : List Run) → IsLeft room runs size rest first left table now turns → found ≢ None
  none_left [] is = not_none found (record_kind.End size) (end_read is).0
  none_left (r ∷ rs) is = not_none found record_kind.Bytes (run_read r rs is).0
