-- The part lies in the image, at its place.
use Rattle.std.proofs.Common.{ℕ, ◌+◌, ◌*◌, sym, ap, ◌∙◌, arith}
use Rattle.sectors.specs.Fill.{start_at}
use Rattle.sectors.specs.FillLaws.{slice_start}
use Rattle.sectors.proofs.Places.{stored_is, part_inside, part_is}
use Rattle.sectors.proofs.sector.stored_part.Goals as goal

pub overflow_mul-start : goal.overflow_mul-start
overflow_mul-start c =
    let a = c.args in let e = sym c.layout_of.ensures ∙ c.unwrap-layout.ensures in
    omega (arith, part_inside a.image.format _ e a.image.bytes.now a.n a.offset a.size c.requires.0 c.requires.1)

pub overflow_add-start : goal.overflow_add-start
overflow_add-start c =
    let a = c.args in let e = sym c.layout_of.ensures ∙ c.unwrap-layout.ensures in
    omega (arith, part_inside a.image.format _ e a.image.bytes.now a.n a.offset a.size c.requires.0 c.requires.1)

pub overflow_add-end : goal.overflow_add-end
overflow_add-end c =
    let a = c.args in let e = sym c.layout_of.ensures ∙ c.unwrap-layout.ensures in
    omega (arith, part_inside a.image.format _ e a.image.bytes.now a.n a.offset a.size c.requires.0 c.requires.1)

pub slice_bounds-result-end : goal.slice_bounds-result-end
slice_bounds-result-end c =
    let a = c.args in let e = sym c.layout_of.ensures ∙ c.unwrap-layout.ensures in
    omega (arith, part_inside a.image.format _ e a.image.bytes.now a.n a.offset a.size c.requires.0 c.requires.1)

pub returns-clause-bytes : goal.returns-clause-bytes
returns-clause-bytes c =
    let a = c.args in let e = sym c.layout_of.ensures ∙ c.unwrap-layout.ensures in part_is a.image.format _ e a.image.bytes.now a.n a.offset a.size

pub returns-clause-placed : goal.returns-clause-placed
returns-clause-placed c =
    let a = c.args in let e = sym c.layout_of.ensures ∙ c.unwrap-layout.ensures in
    slice_start a.image.bytes.ref_ptr (a.n * c.unwrap-layout.result.stored + a.offset)
    ∙ ap (λ (s : ℕ). start_at a.image.bytes.ref_ptr (a.n * s + a.offset)) (stored_is a.image.format _ e)
