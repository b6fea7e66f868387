-- A run's bytes are there, and are read whole into their place.
use Rattle.std.proofs.Common.{rules, ◌≡◌, ℕ, List, ◌++◌, length, take, Option, Some, sym, ap, ◌∙◌, append_assoc, arith}
use Rattle.std.proofs.lemmas.List.{drop-drop}
use borrow.Rule.Slice.PartMut.{put_mid}
use Rattle.inputs.specs.Runs.{Run, head, recorded, laid}
use Rattle.inputs.proofs.Turns.{kind_of_some}
use Rattle.inputs.proofs.Whole.{filled}
use Rattle.inputs.proofs.runs.read_record.Goals as goal

recorded_head : (r : Run) (rest : List ℕ) → recorded r ++ rest ≡ head r.place (length r.bytes) ++ (r.bytes ++ rest)
unfolding recorded
recorded_head r rest = append_assoc (head r.place (length r.bytes)) r.bytes rest

-- what was read into the part of a table where a run stands
read_laid : (r : Run) (table part : List ℕ) (place size : ℕ) → place ≡ r.place → size ≡ length r.bytes → part ≡ r.bytes
    → put_mid place size table part ≡ laid r table
unfolding laid
read_laid r table part place size at long same =
    (λ i. put_mid (at i) (long i) table (same i)) ∙ ap (λ l. take r.place table ++ (r.bytes ++ l)) (drop-drop (length r.bytes) r.place table)

same_head : (place count p n : ℕ) (found : Option (ℕ × ℕ)) → found ≡ Some (place, count) → found ≡ Some (p, n) → (place ≡ p) × (count ≡ n)
same_head place count p n found told said =
    let pair : (ℕ × ℕ) = (place, count) in let other : (ℕ × ℕ) = (p, n) in let same : pair ≡ other = cc in (ap (λ x. x.0) same, ap (λ x. x.1) same)

pub returns-clause-known : goal.returns-clause-known
returns-clause-known g c r rest within known =
    let found = c.in_ok-place.ensures.known r.place (length r.bytes) (r.bytes ++ rest) within.place_fits within.count_fits (known ∙ ap (λ l. Some l) (recorded_head r rest)) in
    let same = same_head _ _ r.place (length r.bytes) _ c.in-Some.is found.0 in
    let read = c.in_ok-read_full.ensures in
    let sized : length r.bytes ≡ length c.read_full.new.buf = search (rules, arith) in
    let whole = filled _ _ _ c.read_full.new.buf r.bytes rest sized read.within read.bytes read.short found.1 in (
      ap (λ k. Some k) (sym (kind_of_some r (omega arith))),
      (read_laid r c.args.table.now c.read_full.new.buf c.in-Some.place _ same.0 (omega arith) whole.bytes, whole.left),
    )
