-- Each byte is its own UTF-8: the text has as many bytes as the string.
use Rattle.std.proofs.Common.{length, sym, ap, ◌∙◌, arith}
use Rattle.sectors.specs.Fill.{fill}
use Rattle.text.specs.Decode.{answer_by, giving}
use Rattle.text.specs.Refusal.{number_of}
use Rattle.text.specs.Utf8Laws.{encoded_same}
use Rattle.text.proofs.Ascii.{ascii_length}
use Rattle.text.proofs.DecodeLaws.{answer_short, answer_fits, page_short, page_fits}
use Rattle.text.proofs.decode.decode_ascii.Goals as goal

pub returns-then-page-bytes-clause-answer : goal.returns-then-page-bytes-clause-answer
unfolding answer_by number_of
returns-then-page-bytes-clause-answer c =
    let size = ascii_length c.args.bytes.now c.requires in
    sym (answer_short c.args.bytes.now (length c.args.page.now) (omega arith))

pub returns-then-page-bytes-clause-filled : goal.returns-then-page-bytes-clause-filled
returns-then-page-bytes-clause-filled c =
    let size = ascii_length c.args.bytes.now c.requires in
    sym (page_short c.args.bytes.now c.args.page.now (omega arith))

pub returns-clause-answer : goal.returns-clause-answer
unfolding answer_by
returns-clause-answer c =
    let size = ascii_length c.args.bytes.now c.requires in
    ap giving (sym size) ∙ sym (answer_fits c.args.bytes.now (length c.args.page.now) (omega arith))

pub returns-clause-filled : goal.returns-clause-filled
returns-clause-filled c =
    let size = ascii_length c.args.bytes.now c.requires in
    c.put_ascii.ensures
    ∙ ap (λ text. fill 0 text c.args.page.now) (sym (encoded_same c.args.bytes.now size))
    ∙ sym (page_fits c.args.bytes.now c.args.page.now (omega arith))
