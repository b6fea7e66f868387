-- The worked table has the printed listing; with two tracks it has their times; with texts it says how they ended, and of which it warns: the
-- definitions of the layers are computed. Assumes nothing.
use Rattle.std.specs.Prelude.{◌≡◌, refl, replicate}
use mathlib.Core.List.{List, map, flat_map}
use Rattle.sectors.specs.Bytes.{same}
use Rattle.sectors.specs.Fill.{part, fill}
use Rattle.sectors.specs.Number.{be_at}
use Rattle.sectors.specs.Signature.{signed_at}
use Rattle.text.specs.String.{nonzero, until_zero, string_at, end_by, end_of, present}
use Rattle.area.specs.Area.{kind_of, area_texts, area_texts_at, record_of, addressed}
use Rattle.area.specs.Cap.{exceeds, capped, cap_of}
use Rattle.area.specs.Chain.{first_kept, structure_at, sectors_of, noted, walk_from, nothing_kept, chain_of}
use Rattle.area.specs.Items.{item_at, is_zero, nonzero_at, next_item, items_from}
use Rattle.area.specs.Lent.{when_true}
use Rattle.area.specs.Locale.{locale_count}
use Rattle.area.specs.Lone.{is_odd_table, is_short, lone_slot, lone_of}
use Rattle.area.specs.Skip.{list_missing, is_malformed, is_reversed, skip_by, skip_of}
use Rattle.area.specs.Table.{Table, frequency_warnings, of_track, text_warnings, track_warnings, reads_of, tracks_of, tracks_warnings, yield_of, table_of, with_address, area_at, area_given, tracks_given, warnings_of}
use Rattle.area.specs.Tabulate.{tabulate}
use Rattle.area.specs.TextPlaces.{no_text_place, placed_text, is_absent, text_place_at, is_unterminated, any_unterminated}
use Rattle.area.specs.Timecode.{timecode_at, frame_number}
use Rattle.area.specs.Track.{stored_times, capped_times, times_of, is_outside, track_of}
use Rattle.area.specs.TrackText.{item_index, no_places, keep_at, keep, keep_all, items_kept, no_text, text_offset, text_at, text_behind, track_text_of}
use Rattle.area.specs.Units.{lsn_at}
use Rattle.area.specs.Warning.{number_of}
use Rattle.area.specs.declared.text_places.TextPlace.{TextPlace}
use Rattle.area.specs.declared.track.Track.{Track}
use Rattle.area.specs.declared.warning.Warning.{Warning}
use Rattle.listing_text.specs.Decimal.{digit, digits_within, decimal}
use Rattle.listing_text.specs.Line.{next_field, fields_of, line_of, word_line}
use Rattle.listing_text.specs.Listing.{section, track_line, warning_line, locales_of, sections_of, lone_listing, listing_of}
use Rattle.worked.specs.Example.{ascii, four_bytes, example_table, example_listing, stored_table, stored_table_times, two_bytes, ends_table, ends_area_texts, ends_track_texts, lone_warning, ends_warnings, replaced_table, replaced_track_texts, replaced_warnings}

pub example_listed : listing_of example_table ≡ example_listing
unfolding
    ascii four_bytes example_table example_listing listing_of lone_listing sections_of locales_of section track_line warning_line word_line line_of fields_of next_field decimal
    digits_within digit flat_map lone_of is_odd_table is_short area_at with_address table_of yield_of tracks_warnings tracks_of reads_of track_warnings text_warnings
    of_track any_unterminated is_unterminated no_places frequency_warnings when_true skip_of skip_by list_missing is_malformed is_reversed chain_of nothing_kept walk_from noted sectors_of structure_at record_of
    addressed kind_of locale_count track_of is_outside times_of capped_times stored_times track_text_of no_text cap_of capped exceeds frame_number timecode_at lsn_at
    tabulate be_at signed_at same part fill
example_listed = refl

pub example_stored : map (λ (t : Track). t.times) (tracks_given (table_of stored_table lone_slot 3)) ≡ stored_table_times
unfolding
    ascii four_bytes example_table stored_table stored_table_times tracks_given table_of yield_of tracks_warnings tracks_of reads_of skip_of skip_by list_missing is_malformed is_reversed
    chain_of nothing_kept walk_from noted sectors_of structure_at record_of kind_of track_of times_of capped_times stored_times cap_of capped exceeds frame_number timecode_at lsn_at tabulate
    be_at signed_at same part fill
example_stored = refl

-- the texts of a table's area and of its tracks, and its warnings
abbrev texts_of : Table → List TextPlace × (List (List TextPlace) × List Warning)
texts_of t = ((area_given t).text, (map (λ (track : Track). track.text) (tracks_given t), warnings_of t))

pub example_ends : (texts_of (table_of ends_table lone_slot 9) ≡ (ends_area_texts, (ends_track_texts, ends_warnings)))
    × (texts_of (table_of replaced_table lone_slot 6) ≡ (replicate area_texts no_text_place, (replaced_track_texts, replaced_warnings)))
unfolding
    ascii four_bytes two_bytes example_table stored_table ends_table ends_area_texts ends_track_texts lone_warning ends_warnings replaced_table replaced_track_texts replaced_warnings area_given tracks_given warnings_of table_of yield_of tracks_warnings tracks_of reads_of
    track_warnings text_warnings number_of of_track any_unterminated is_unterminated frequency_warnings when_true skip_of skip_by list_missing is_malformed is_reversed chain_of nothing_kept walk_from noted
    first_kept sectors_of structure_at record_of kind_of area_texts_at text_place_at placed_text is_absent track_of is_outside times_of capped_times stored_times track_text_of text_behind text_offset
    text_at items_kept keep_all keep keep_at item_index no_text no_places items_from item_at next_item nonzero_at is_zero end_of end_by string_at until_zero nonzero present cap_of
    capped exceeds frame_number timecode_at lsn_at tabulate be_at signed_at same part fill flat_map
example_ends = (refl, refl)
