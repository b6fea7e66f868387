-- A table that is neither odd nor short is read: what the callees ensure is joined by the law `table_read`. Assumes nothing.
use Rattle.std.proofs.Common.{sym, ◌∙◌}
use Rattle.area.proofs.LoneLaws.{table_read}
use Rattle.area.proofs.lone.read_table.Goals as goal

pub returns : goal.returns
returns c =
    let a = c.args in let head = c.table_head-head in let noted = c.push_head-noted in let all = c.fill_tracks-warnings in
    table_read a.table.now a.tracks.now a.words.now head.result noted.new.words all.new.words noted.result all.result all.new.tracks noted.ensures.written
    noted.ensures.counted all.ensures.0 all.ensures.1.0 all.ensures.1.1 c.if-tracks-lt-MAX_TRACKS.false c.if-words-lt-TABLE_WORDS.false
    (sym c.is_odd_table.ensures ∙ c.if-is_odd_table.false) head.ensures c.table_answer.result c.table_answer.ensures
