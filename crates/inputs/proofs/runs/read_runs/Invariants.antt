-- What is left of the runs that were stored.
use Rattle.std.proofs.Common.{◌≡◌, ℕ, ◌++◌, List, length, Some}
use Rattle.inputs.specs.Runs.{Run, stored, IsStored}
use Rattle.inputs.proofs.Turns.{IsLeft}
use Rattle.inputs.proofs.runs.read_runs.Given as goal

abbrev pub invariant-loop : goal.invariant-loop
invariant-loop g l = (runs : List Run) (size : ℕ) (rest : List ℕ) → IsStored (length l.initial.table) runs size
    → g.R.Read.remaining l.initial.input ≡ Some (stored runs size ++ rest)
    → (left : List Run) × IsLeft (length l.initial.table) runs size rest l.initial.table left l.table (g.R.Read.remaining l.input) l.counter
