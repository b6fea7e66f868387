-- A refused disc is left as it is. What is opened, read of both slots and answered is the reading of the disc.
use Rattle.std.proofs.Common.{ap, sym, ◌∙◌}
use Rattle.disc.specs.Outcome.{Outcome}
use Rattle.disc.specs.Refusal.{number_of, refused_by, number_some}
use Rattle.disc.specs.StepLaws.{disc_refused, disc_opened}
use Rattle.disc.proofs.disc.read_disc.Goals as goal

pub returns-in-Err : goal.returns-in-Err
unfolding refused_by
returns-in-Err c =
    let a = c.args in let o = c.in-Err in
    let read =
    disc_refused a.format a.image.now (record { work = a.work.now; tracks = a.tracks.now; words = a.words.now }) (number_of o.refusal)
    o.ensures.refused (number_some o.refusal) in (
      c.refused.ensures ∙ ap (λ (x : Outcome). x.answer) read,
      (
        o.ensures.kept.0 ∙ ap (λ (x : Outcome). x.memory.work) read,
        (ap (λ (x : Outcome). x.memory.tracks) read, o.ensures.kept.1 ∙ ap (λ (x : Outcome). x.memory.words) read),
      ),
    )

pub returns : goal.returns
unfolding refused_by
returns c =
    let a = c.args in let o = c.in-Ok in let r = c.read_slot-first in let s = c.read_slot-second in
    let read =
    disc_opened a.format a.image.now a.work.now a.tracks.now a.words.now o.opened c.open.new.work c.open.new.words r.result s.result
    r.new.tracks s.new.tracks r.new.words s.new.words c.disc_answer.result
    (sym o.ensures.refused) o.ensures.opened o.ensures.filled o.ensures.warned
    r.ensures.0 r.ensures.1.0 r.ensures.1.1 s.ensures.0 s.ensures.1.0 s.ensures.1.1 c.disc_answer.ensures in (
      ap (λ (x : Outcome). x.answer) read,
      (ap (λ (x : Outcome). x.memory.work) read, (ap (λ (x : Outcome). x.memory.tracks) read, ap (λ (x : Outcome). x.memory.words) read)),
    )
