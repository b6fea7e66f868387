-- Laws of reading and comparing runs: when nothing is refused, what is then read or compared, and answers by their numbers. Assumes nothing.
use Rattle.std.specs.Prelude.{◌≡◌, ℕ, ◌+◌, ◌*◌, ◌≤◌, Result, Bool, true, false, cond, List, length, take, ◌≢◌, nat_le, refl}
use Rattle.std.proofs.Common.{ap, arith, leb-true, le-leb, eq-eqb, ne_eqb}
use Rattle.sectors.specs.declared.refusal.Refusal.{Refusal}
use Rattle.sectors.specs.declared.run.Comparison.{Comparison}
use Rattle.sectors.specs.Refusal.{foreign_format, short_buffer, no_such_entry, refusal_of}
use Rattle.sectors.proofs.RefusalLaws.{tells}
use Rattle.sectors.specs.Format.{foreign, sector_size}
use Rattle.sectors.specs.Sector.{readable, run_data}
use Rattle.sectors.specs.Bytes.{same}
use Rattle.sectors.specs.Fill.{fill}
use Rattle.sectors.specs.Run.{read_refusal, read_into, comparison_of, compared}

-- ---- refusals

-- nothing is refused: the run is readable, and there is room for it
pub not_refused : (format bytes lsn count at size : ℕ) → read_refusal format bytes lsn count at size ≡ 0
    → (readable format bytes lsn count ≡ true) × (at + count * sector_size ≤ size)
unfolding read_refusal
not_refused format bytes lsn count at size = go (foreign format) (nat_le (at + count * sector_size) size) (readable format bytes lsn count) refl
  where
    go : (f r s : Bool) → nat_le (at + count * sector_size) size ≡ r
        → cond f foreign_format (cond r (cond s 0 no_such_entry) short_buffer) ≡ 0 → (s ≡ true) × (at + count * sector_size ≤ size)
    go false true true q e = (refl, leb-true (at + count * sector_size) size q)
    go false true false q e = absurd (omega arith)
    go false false s q e = absurd (omega arith)
    go true r s q e = absurd (omega arith)

-- and the other way round
pub is_not_refused : (format bytes lsn count at size : ℕ) → foreign format ≡ false → readable format bytes lsn count ≡ true
    → at + count * sector_size ≤ size → read_refusal format bytes lsn count at size ≡ 0
unfolding read_refusal
is_not_refused format bytes lsn count at size known there room = rw (known, le-leb (at + count * sector_size) size room, there)

module _ (format : ℕ) (image : List ℕ) (lsn count : ℕ) where
  -- a run that is not refused fills the lent bytes from its place on; one that is refused leaves them
  pub read_fills : (at : ℕ) (old : List ℕ) → read_refusal format (length image) lsn count at (length old) ≡ 0
      → read_into format image lsn count at old ≡ fill at (run_data format image lsn count) old
  unfolding read_into
  read_fills at old e = rw (eq-eqb _ _ e)

  pub read_leaves : (at : ℕ) (old : List ℕ) → (read_refusal format (length image) lsn count at (length old) ≢ 0)
      → read_into format image lsn count at old ≡ old
  unfolding read_into
  read_leaves at old n = rw (ne_eqb _ _ n)

  -- a run that is not refused is compared with as many lent bytes; one that is refused is not
  pub compares : (bytes : List ℕ) → read_refusal format (length image) lsn count 0 (length bytes) ≡ 0
      → comparison_of format image lsn count bytes
      ≡ record { refusal = 0; equal = cond (same (run_data format image lsn count) (take (count * sector_size) bytes)) 1 0 }
  unfolding comparison_of
  compares bytes e = rw e

  pub compares_not : (bytes : List ℕ) → (read_refusal format (length image) lsn count 0 (length bytes) ≢ 0)
      → comparison_of format image lsn count bytes ≡ record { refusal = read_refusal format (length image) lsn count 0 (length bytes); equal = 0 }
  unfolding comparison_of
  compares_not bytes n = rw (ne_eqb _ _ n)

-- ---- answers by their numbers

-- an answer without a value is known by its number
pub read_tells : (r s : Result (Unit {0}) Refusal) → refusal_of r ≡ refusal_of s → r ≡ s
unfolding refusal_of
read_tells = tells refusal_of (λ n. n) (λ a. refl) (λ r. refl) (λ a b e. refl)

-- and how a run compares by its two
pub compared_tells : (r s : Result Bool Refusal) → compared r ≡ compared s → r ≡ s
unfolding compared
compared_tells = tells compared (λ (c : Comparison). c.refusal) (λ a. refl) (λ r. refl) (λ a b e. equal_tells a b (ap (λ (c : Comparison). c.equal) e))
  where
    equal_tells : (a b : Bool) → ◌≡◌ {A = ℕ} (cond a 1 0) (cond b 1 0) → a ≡ b
    equal_tells true true e = refl
    equal_tells true false e = cc
    equal_tells false true e = cc
    equal_tells false false e = refl
