-- "a lone table 7, 2, 6": 7 before 2, and 2 before 6, computed on the definitions. Assumes nothing.
use Rattle.std.specs.Prelude.{ℕ, ◌≡◌, refl, List, [], replicate}
use Rattle.area.specs.Lone.{is_odd_table, is_short, lone_of, lone_answer}

-- a table of no sub-structures, which yields no area
abbrev zeros : List ℕ
zeros = replicate 2048 0

-- of no bytes, with nothing lent
pub odd_before_short : (lone_answer (lone_of [] 0 0)).refusal ≡ 7
unfolding lone_answer lone_of is_odd_table is_short
odd_before_short = refl

-- with one record less, and with one word less
pub records_before_silent : (lone_answer (lone_of zeros 254 1021)).refusal ≡ 2
unfolding lone_answer lone_of is_odd_table is_short
records_before_silent = refl

pub words_before_silent : (lone_answer (lone_of zeros 255 1020)).refusal ≡ 2
unfolding lone_answer lone_of is_odd_table is_short
words_before_silent = refl
