-- A foreign format is one without a layout.
use Rattle.sectors.proofs.Places.{foreign_test}
use Rattle.sectors.proofs.sector.is_foreign.Goals as goal

pub returns : goal.returns
returns c = foreign_test c.args.format c.layout_of.ensures c.is_none.ensures
