-- A slot's plan, and then its tracks from its region, are what is read of it.
use Rattle.disc.specs.StepLaws.{slot_read_by_lem}
use Rattle.disc.proofs.disc.read_slot.Goals as goal

pub returns : goal.returns
returns c =
    let a = c.args in let p = c.plan_slot-plan in let f = c.fill_tracks-n in
    let region = c.region_of.ensures in
    slot_read_by_lem a.work.now a.slot a.copies a.words.now a.count p.result p.new.words f.result a.tracks.now f.new.tracks f.new.words c.slot_read.result p.ensures.0 p.ensures.1
    (rw (← region) f.ensures.0)
    (rw (← region, ← c.tracks_from.ensures) f.ensures.1.0)
    (rw (← region) f.ensures.1.1)
    c.slot_read.ensures
