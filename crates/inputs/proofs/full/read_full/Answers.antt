-- A read in place: what was read stands behind what was read before.
use Rattle.std.proofs.Common.{◌≡◌, ℕ, ◌+◌, ◌≤◌, List, ◌++◌, rules, length, take, sym, ap, subst, ◌∙◌, length-take-le}
use Rattle.std.proofs.lemmas.List.{take-append-le}
use Rattle.std.proofs.Math.Seq.{take-append-add}
use Rattle.std.specs.Io.KnownBytes.{Consumes}
use Rattle.std.proofs.KnownBytes.{Consumes-trans}
use borrow.Rule.Slice.PartMut.{put_mid, post_of}
use Rattle.inputs.proofs.full.read_full.Goals as goal

read_behind : (xs ys : List ℕ) (done n k : ℕ) → done ≤ length xs → n ≤ length ys → take (done + n) (put_mid done k xs ys) ≡ take done xs ++ take n ys
read_behind xs ys done n k within fits =
    ap (λ m. take (m + n) (put_mid done k xs ys)) (sym (length-take-le done xs within))
    ∙ take-append-add (take done xs) (ys ++ post_of done k xs) n
    ∙ ap (λ l. take done xs ++ l) (take-append-le n ys (post_of done k xs) fits)

pub loop-done-preserved : goal.loop-done-preserved
loop-done-preserved g c =
    let read = c.in_ok-n.ensures in
    let behind = read_behind c.loop-done.buf c.read.new.buf c.loop-done.done c.in_ok-n.n _ c.loop-done.invariant.0 read.bound.0 in
    (search rules, subst (Consumes _ _) (sym behind) (Consumes-trans _ _ _ _ _ c.loop-done.invariant.1 read.bytes.0))
