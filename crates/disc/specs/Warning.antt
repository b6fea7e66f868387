-- The codes of warnings that this layer knows (01, "Area" and "Disc": "codes 1 to 18 in the order of `WarningCode`"). Assumes nothing.
use Rattle.std.specs.Prelude.{ℕ}

abbrev pub master_text_missing : ℕ
master_text_missing = 1

abbrev pub manufacturer_missing : ℕ
manufacturer_missing = 2

abbrev pub area_toc_too_large : ℕ
area_toc_too_large = 3

abbrev pub area_toc1_unreadable : ℕ
area_toc1_unreadable = 4

abbrev pub area_toc2_unreadable : ℕ
area_toc2_unreadable = 5

abbrev pub area_toc_copies_differ : ℕ
area_toc_copies_differ = 6

abbrev pub area_toc_unreadable : ℕ
area_toc_unreadable = 7

-- "Code 16 never comes here."
abbrev pub audio_sector_malformed : ℕ
audio_sector_malformed = 16

abbrev pub master_toc_copies_differ : ℕ
master_toc_copies_differ = 17
