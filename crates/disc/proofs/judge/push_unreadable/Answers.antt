-- What is written of a slot's copies: four runs, each from where the one before is counted to, are one.
use Rattle.area.specs.LentLaws.{pushed_then}
use Rattle.area.specs.Warning.{word_of}
use Rattle.disc.specs.Copies.{served_warnings}
use Rattle.disc.proofs.judge.push_unreadable.Goals as goal

pub returns : goal.returns
unfolding served_warnings
returns c =
    let words = c.args.words.now in
    let n = c.push_of-n.ensures in let m = c.push_of-m.ensures in let k = c.push_of-k.ensures in let l = c.push_of.ensures in
    let two = pushed_then word_of words _ _ _ _ _ _ _ (n.written, n.counted) (m.written, m.counted) in
    let three = pushed_then word_of words _ _ _ _ _ _ _ two (k.written, k.counted) in
    let all = pushed_then word_of words _ _ _ _ _ _ _ three (l.written, l.counted) in
    record { written = rw (← c.has_second.ensures) all.0; counted = rw (← c.has_second.ensures) all.1 }
