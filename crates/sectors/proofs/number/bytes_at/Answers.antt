-- The bytes that are there, and zeros behind them where the table ends.
use Rattle.std.proofs.Common.{◌∙◌, List, ℕ, slice_index, ap, arith, get_or-take}
use Rattle.sectors.specs.CopyLaws.{copy_padded}
use Rattle.sectors.specs.NumberLaws.{rest_at}
use Rattle.sectors.proofs.number.bytes_at.Goals as goal

pub returns-in-Some : goal.returns-in-Some
returns-in-Some g c i l =
    ap (λ (t : List ℕ). slice_index t i) c.in-Some.ensures.cases.same
    ∙ get_or-take _ _ i 0 l
    ∙ rest_at c.args.table.now c.args.at _ i c.min.ensures

pub returns-in-None : goal.returns-in-None
returns-in-None g c i l =
    ap (λ (t : List ℕ). slice_index t i) c.copy_bytes.ensures
    ∙ copy_padded _ _ (omega (arith, c.in-None.ensures.cases)) i l
    ∙ rest_at c.args.table.now c.args.at _ i c.min.ensures
