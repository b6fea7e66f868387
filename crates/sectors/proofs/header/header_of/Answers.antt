-- After the checks the six bytes of the header are there.
use Rattle.std.proofs.Common.{sym, ◌∙◌}
use Rattle.sectors.proofs.HeaderCases.{header_there, six_long, six_found}
use Rattle.sectors.proofs.header.header_of.Goals as goal

pub stored_part-requires : goal.stored_part-requires
stored_part-requires c = header_there _ c.args.image.bytes.now c.args.lsn.0 c.if-image-ne-HEADER_FORMAT.false c.contains.ensures c.if-not-contains.false

pub copy_from_slice-requires : goal.copy_from_slice-requires
copy_from_slice-requires c =
    sym (six_long _ _ _ c.if-image-ne-HEADER_FORMAT.false c.contains.ensures c.if-not-contains.false c.stored_part.ensures.bytes)

pub returns-clause-found : goal.returns-clause-found
returns-clause-found c =
    six_found _ _ _ c.if-image-ne-HEADER_FORMAT.false c.contains.ensures c.if-not-contains.false (c.copy_from_slice.ensures.after ∙ c.stored_part.ensures.bytes)
