-- The three lists are read one behind another.
use Rattle.std.proofs.Common.{sym, ◌∙◌}
use Rattle.text.proofs.Counting.{no_singles, no_pairs, no_doubles, words_left, unsound, all_read}
use Rattle.text.proofs.mapping.Mapping.new.Goals as goal
use Rattle.text.proofs.mapping.Mapping.new.Goals.{else-is_empty-via-then-is_empty+else-is_sound, else-is_empty-via-else-is_empty}

pub returns-in_err-singles : goal.returns-in_err-singles
returns-in_err-singles c = c.from_residual.ensures ∙ sym (no_singles c.args.words.now c.in_err-singles.ensures)

pub returns-in_err-pairs : goal.returns-in_err-pairs
returns-in_err-pairs c = c.from_residual-in_err-pairs.ensures ∙ sym (no_pairs c.in_ok-singles.ensures c.in_err-pairs.ensures)

pub returns-in_err-doubles : goal.returns-in_err-doubles
returns-in_err-doubles c = c.from_residual-in_err-doubles.ensures ∙ sym (no_doubles c.in_ok-singles.ensures c.in_ok-pairs.ensures c.in_err-doubles.ensures)

pub returns-then-is_sound : goal.returns-then-is_sound
returns-then-is_sound c = sym (all_read c.in_ok-singles.ensures c.in_ok-pairs.ensures c.in_ok-doubles.ensures c.if-is_empty.ensures c.if-is_sound.ensures)

pub returns-else-is_empty : goal.returns-else-is_empty
returns-else-is_empty c =
    elim c.else-is_empty.branch [
      | else-is_empty-via-then-is_empty+else-is_sound w ↦ sym (unsound c.in_ok-singles.ensures c.in_ok-pairs.ensures c.in_ok-doubles.ensures w.if-is_sound.ensures)
      | else-is_empty-via-else-is_empty w ↦ sym (words_left c.in_ok-singles.ensures c.in_ok-pairs.ensures c.in_ok-doubles.ensures w.if-is_empty.ensures)
    ]
