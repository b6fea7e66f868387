-- What is written of the disc: three runs, each from where the one before is counted to, are one.
use Rattle.area.specs.LentLaws.{pushed_then}
use Rattle.area.specs.Warning.{word_of}
use Rattle.disc.specs.Disc.{of_disc, disc_warnings}
use Rattle.disc.proofs.judge.push_disc.Goals as goal

pub returns : goal.returns
unfolding disc_warnings of_disc
returns c =
    let words = c.args.words.now in
    let n = c.push_of-n.ensures in let m = c.push_of-m.ensures in let l = c.push_of.ensures in
    let two = pushed_then word_of words _ _ _ _ _ _ _ (n.written, n.counted) (m.written, m.counted) in
    let all = pushed_then word_of words _ _ _ _ _ _ _ two (l.written, l.counted) in
    record {
      written = rw (← c.has_text.ensures, ← c.byte_at.ensures, ← c.has_manufacturer.ensures) all.0;
      counted = rw (← c.has_text.ensures, ← c.byte_at.ensures, ← c.has_manufacturer.ensures) all.1;
    }
