-- The loop ends after all of the head's tracks.
use Rattle.std.proofs.Common.{◌≡◌, ap, ◌∙◌, arith}
use Rattle.area.specs.Table.{track_count}
use Rattle.area.proofs.Filling.{count_to, count_all, tracks_to, tracks_all, words_to, words_all}
use Rattle.area.proofs.tracks.fill_tracks.Goals as goal

pub returns : goal.returns
returns c =
    let a = c.args in let lent = a.lent.now in let after = c.loop-i.invariant in
    let all : c.loop-i.i ≡ track_count a.head = omega arith in (
      after.count ∙ ap (count_to lent a.head a.words.now a.count) all ∙ count_all lent a.head a.words.now a.count,
      (
        after.tracks ∙ ap (tracks_to lent a.head a.tracks.now a.base) all ∙ tracks_all lent a.head a.tracks.now a.base,
        after.words ∙ ap (words_to lent a.head a.words.now a.count) all ∙ words_all lent a.head a.words.now a.count,
      ),
    )
