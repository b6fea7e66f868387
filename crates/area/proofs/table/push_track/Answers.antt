-- The four warnings are pushed one after the other.
use Rattle.std.proofs.Common.{rules}
use Rattle.area.proofs.Warned.{pushed_all}
use Rattle.area.proofs.table.push_track.Goals as goal

pub returns : goal.returns
returns c =
    let a = c.args in let p = c.push_code-n in let q = c.push_code-m in let r = c.push_code-k in let s = c.push_code in
    let all =
    pushed_all a.slot a.read a.words.now p.new.words q.new.words r.new.words s.new.words a.count p.result q.result r.result s.result _ _ _ c.then_some-past.ensures
    c.then_some-outside.ensures (search rules) (p.ensures.written, p.ensures.counted) (q.ensures.written, q.ensures.counted)
    (r.ensures.written, r.ensures.counted) (s.ensures.written, s.ensures.counted) in
    record { written = all.0; counted = all.1 }
