-- After k turns the data of k sectors are the lent bytes.
use Rattle.std.proofs.Common.{◌≡◌, ℕ, ◌+◌, ◌-◌, ◌*◌, Bool, not, List, take, drop, sym, ◌∙◌, ap₂}
use Rattle.sectors.specs.Bytes.{same}
use Rattle.sectors.specs.BytesLaws.{differ_tells}
use Rattle.sectors.specs.Fill.{part}
use Rattle.sectors.specs.FillLaws.{slice_part}
use Rattle.sectors.specs.Format.{sector_size}
use Rattle.sectors.specs.Pool.{source_of}
use Rattle.sectors.proofs.PoolLaws.{source_sized}
use Rattle.sectors.proofs.Turns.{same_turn, same_stop}
use Rattle.sectors.proofs.source.same_run.Goals as goal

-- what the test says of a sector that is found, and of as many lent bytes from a place on
tested : (next found bytes : List ℕ) (at : ℕ) {r t : Bool} → found ≡ next → r ≡ not (same found (take (at + sector_size - at) (drop at bytes))) → r ≡ t
    → same next (part at sector_size bytes) ≡ not t
tested next found bytes at is e f = sym (ap₂ same is (slice_part at sector_size bytes)) ∙ differ_tells found (take (at + sector_size - at) (drop at bytes)) e f

pub returns-then-ne : goal.returns-then-ne
unfolding same
returns-then-ne c =
    let a = c.args in let k = c.loop-k.k in let found = c.source_data-data in
    sym
    (same_stop (source_of a.source) (source_sized a.source) a.lsn.0 a.count c.requires.0 k c.loop-k-test.true a.bytes.now c.requires.1
    (tested _ found.result.now a.bytes.now (k * sector_size) found.ensures.bytes c.ne.ensures c.if-ne.true))

pub loop-k-preserved : goal.loop-k-preserved
unfolding same
loop-k-preserved c =
    let a = c.args in let k = c.loop-k.k in let found = c.source_data-data in
    same_turn (source_of a.source) (source_sized a.source) a.lsn.0 a.count c.requires.0 k c.loop-k-test.true a.bytes.now c.requires.1
    c.loop-k.invariant (tested _ found.result.now a.bytes.now (k * sector_size) found.ensures.bytes c.ne.ensures c.if-ne.false)
