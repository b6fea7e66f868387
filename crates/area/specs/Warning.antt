-- Warnings (01, "Area" and "Disc"). Assumes nothing.
use Rattle.std.specs.Prelude.{ℕ, ◌+◌, ◌*◌}
use Rattle.area.specs.declared.warning.Warning.{Warning}
use Rattle.area.specs.declared.warning.WarningCode.{WarningCode}
use Rattle.area.specs.declared.warning.WarningCode.TheVariants.{MasterTextMissing, ManufacturerMissing, AreaTocTooLarge, AreaToc1Unreadable, AreaToc2Unreadable, AreaTocCopiesDiffer, AreaTocUnreadable, AreaSignatureInvalid, AreaTrackListMissing, AreaTocMalformed, AreaAudioRangeReversed, TrackTextOffsetInvalid, TrackTextTypeUnknown, TrackPastPlaytime, TrackLsnOutsideArea, AudioSectorMalformed, MasterTocCopiesDiffer, SampleFrequencyUnknown, TrackTextUnterminated}

-- "A warning word is code times 65,536 + slot times 256 + track"
unfoldable pub word_of : Warning → ℕ
word_of w = w.code * 65536 + w.slot * 256 + w.track

-- "codes 1 to 18 in the order of `WarningCode`": those of a table
abbrev pub area_signature_invalid : ℕ
area_signature_invalid = 8

abbrev pub area_track_list_missing : ℕ
area_track_list_missing = 9

abbrev pub area_toc_malformed : ℕ
area_toc_malformed = 10

abbrev pub area_audio_range_reversed : ℕ
area_audio_range_reversed = 11

abbrev pub track_text_offset_invalid : ℕ
track_text_offset_invalid = 12

abbrev pub track_text_type_unknown : ℕ
track_text_type_unknown = 13

abbrev pub track_past_playtime : ℕ
track_past_playtime = 14

abbrev pub track_lsn_outside_area : ℕ
track_lsn_outside_area = 15

abbrev pub sample_frequency_unknown : ℕ
sample_frequency_unknown = 18

-- "A track with such a text not ended by a zero byte gets warning 19" (02, item 5)
abbrev pub track_text_unterminated : ℕ
track_text_unterminated = 19

-- the number of each
unfoldable pub number_of : WarningCode → ℕ
number_of MasterTextMissing = 1
number_of ManufacturerMissing = 2
number_of AreaTocTooLarge = 3
number_of AreaToc1Unreadable = 4
number_of AreaToc2Unreadable = 5
number_of AreaTocCopiesDiffer = 6
number_of AreaTocUnreadable = 7
number_of AreaSignatureInvalid = area_signature_invalid
number_of AreaTrackListMissing = area_track_list_missing
number_of AreaTocMalformed = area_toc_malformed
number_of AreaAudioRangeReversed = area_audio_range_reversed
number_of TrackTextOffsetInvalid = track_text_offset_invalid
number_of TrackTextTypeUnknown = track_text_type_unknown
number_of TrackPastPlaytime = track_past_playtime
number_of TrackLsnOutsideArea = track_lsn_outside_area
number_of AudioSectorMalformed = 16
number_of MasterTocCopiesDiffer = 17
number_of SampleFrequencyUnknown = sample_frequency_unknown
number_of TrackTextUnterminated = track_text_unterminated
