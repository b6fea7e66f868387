-- Tables that are stored as runs of their bytes.
use Rattle.std.specs.Prelude.{ℕ, ◌+◌, ◌-◌, ◌^◌, ◌<◌, ◌≤◌, List, [], ◌∷◌, ◌++◌, length, take, drop, All}
use Rattle.std.specs.Int.{to_be_bytes, w32}
use Rattle.inputs.specs.declared.runs.Record.{Record}
use Rattle.inputs.specs.declared.runs.Record.TheVariants as record_kind

-- bytes, and the place of a table where they stand
pub record Run : Type 0 where
  pub place : ℕ
  pub bytes : List ℕ

-- place and count, four bytes each, big-endian
unfoldable pub head : ℕ → ℕ → List ℕ
head place count = to_be_bytes w32 place ++ to_be_bytes w32 count

-- a record: its head, then its bytes
unfoldable pub recorded : Run → List ℕ
recorded r = head r.place (length r.bytes) ++ r.bytes

-- a record for each run, then one of no byte, whose place is the table's length
unfoldable pub stored : List Run → ℕ → List ℕ
stored [] size = recorded (record { place = size; bytes = [] })
stored (r ∷ rs) size = recorded r ++ stored rs size

-- a table with the bytes of a run at their place
unfoldable pub laid : Run → List ℕ → List ℕ
laid r table = take r.place table ++ (r.bytes ++ drop (r.place + length r.bytes) table)

-- a table with those of each run
unfoldable pub laid_all : List Run → List ℕ → List ℕ
laid_all [] table = table
laid_all (r ∷ rs) table = laid_all rs (laid r table)

-- a run, of any number of bytes, that lies in a table of so many; four bytes hold its place and its count
pub record IsWithin (room : ℕ) (r : Run) : Type 0 where
  pub inside : r.place + length r.bytes ≤ room
  pub place_fits : r.place < 2 ^ 32
  pub count_fits : length r.bytes < 2 ^ 32

-- what a record is
unfoldable pub kind_of : Run → Record
kind_of r = elim r.bytes [ [] ↦ record_kind.End r.place | _ ∷ _ ↦ record_kind.Bytes ]

-- a record that ends a table gives a length of at most so many bytes
abbrev pub EndsWithin : ℕ → Record → Type 0
EndsWithin room record_kind.Bytes = Unit {0}
EndsWithin room (record_kind.End size) = size ≤ room

-- runs of some bytes each, and a length, that a table has room for; no more runs than are read
pub record IsStored (room : ℕ) (runs : List Run) (size : ℕ) : Type 0 where
  pub within : All (IsWithin room) runs
  pub filled : All (λ r. 0 < length r.bytes) runs
  pub size_within : IsWithin room (record { place = size; bytes = [] })
  pub few : length runs < 2 ^ 64 - 1
