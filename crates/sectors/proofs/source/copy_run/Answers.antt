-- After k turns the data of k sectors fill the buffer.
use Rattle.std.proofs.Common.{refl, ◌∙◌, arith}
use Rattle.sectors.specs.CopyLaws.{copy_over}
use Rattle.sectors.specs.Pool.{source_of}
use Rattle.sectors.proofs.PoolLaws.{source_sized}
use Rattle.sectors.proofs.Turns.{copy_turn}
use Rattle.sectors.proofs.source.copy_run.Goals as goal

pub loop-k-preserved : goal.loop-k-preserved
loop-k-preserved c =
    let a = c.args in
    copy_turn (source_of a.source) (source_sized a.source) a.lsn.0 a.count c.requires.0 c.loop-k.k c.loop-k-test.true a.buf.now _ _ a.at _ c.requires.1 refl
    c.loop-k.invariant (c.copy_bytes.ensures ∙ copy_over _ _ (omega arith) ∙ c.source_data-data.ensures.bytes)
