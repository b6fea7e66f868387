-- The worked mapping computed on the definitions. Assumes nothing.
use Rattle.std.specs.Prelude.{◌≡◌, refl, replicate}
use mathlib.Core.List.{map, flat_map}
use Rattle.sectors.specs.Fill.{fill}
use Rattle.text.specs.String.{present}
use Rattle.text.specs.Charset.{set_of, is_mapped}
use Rattle.text.specs.Mapping.{count_at, behind, twos, entries_at, pairs_at, doubles_at, words_end, singles_of, pairs_of, doubles_of, lists_of, is_whole, is_surrogate, is_point, is_value, entries_sound, all_points, is_sound, is_mapping, lookup_in}
use Rattle.text.specs.Mapped.{value_in, pair_key, is_reserved, is_pair, values_of, double_points, value_points, points_by, mapped_points}
use Rattle.text.specs.Utf8.{groups, marked, utf8, blanked, encoded}
use Rattle.text.specs.Decode.{latin1_points, mapped_of, unless_absent, points_of, refusing, giving, answer_in, page_with, decode_of, decode_into}
use Rattle.worked.specs.Mapping.{worked_mapping, Row, row, rows, worked_bytes, worked_text}

pub example_mapped : map (λ (r : Row). points_of r.bytes r.code r.lent) rows ≡ map (λ (r : Row). r.given) rows
unfolding
    worked_mapping row rows points_of unless_absent mapped_of latin1_points present set_of is_mapped is_mapping is_whole is_sound count_at behind twos entries_at pairs_at doubles_at words_end singles_of pairs_of doubles_of
    lists_of is_surrogate is_point is_value entries_sound all_points lookup_in value_in pair_key is_reserved is_pair values_of double_points value_points points_by mapped_points flat_map
example_mapped = refl

-- a page of its length is filled, one byte less is refused by 10 and stays
pub example_text : (decode_of worked_bytes 3 worked_mapping 10 ≡ giving 10) × (decode_into worked_bytes 3 worked_mapping (replicate 10 0) ≡ worked_text)
    × (decode_of worked_bytes 3 worked_mapping 9 ≡ refusing 10) × (decode_into worked_bytes 3 worked_mapping (replicate 9 0) ≡ replicate 9 0)
unfolding
    worked_mapping decode_of decode_into answer_in page_with points_of unless_absent mapped_of present set_of is_mapped is_mapping is_whole is_sound count_at behind twos entries_at pairs_at doubles_at words_end singles_of
    pairs_of doubles_of lists_of is_surrogate is_point is_value entries_sound all_points lookup_in value_in pair_key is_reserved is_pair values_of double_points value_points points_by
    mapped_points encoded utf8 blanked marked groups fill flat_map
example_text = (refl, refl, refl, refl)
