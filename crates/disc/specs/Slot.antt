-- The two slots of a disc, and their places in lent memory (01, "What the desk gets back" and "Disc"). Assumes nothing.
use Rattle.std.specs.Prelude.{ℕ, ◌+◌, ◌*◌, cond, List, eqb}
use Rattle.sectors.specs.Fill.{part}
use Rattle.area.specs.Limits.{max_table_bytes, max_tracks, max_head_warnings, max_track_warnings}

-- "Two-channel, then multichannel."
pub data Slot : Type 0 where
  two_channel multichannel : Slot

-- "slot 0 disc, 1, 2"
unfoldable pub slot_number : Slot → ℕ
slot_number two_channel = 1
slot_number multichannel = 2

-- "Work regions: two-channel table from 0, multichannel from 262,144, master from 524,288."
unfoldable pub region_at : Slot → ℕ
region_at two_channel = 0
region_at multichannel = 262144

abbrev pub master_region : ℕ
master_region = 524288

-- "tracks of a yielded area fill records from 0 (two-channel) or 255"
unfoldable pub tracks_at : Slot → ℕ
tracks_at two_channel = 0
tracks_at multichannel = 255

-- "Disc reading borrows the image, 544,768 work bytes, 510 track records"
abbrev pub work_bytes : ℕ
work_bytes = 544768

abbrev pub track_records : ℕ
track_records = 510

-- warnings at most: of the disc 17, 1 and 2; of a slot whose table is read one of 4, 5 and 6, its head's and its tracks'
abbrev pub max_disc_warnings : ℕ
max_disc_warnings = 3

abbrev pub max_copy_warnings : ℕ
max_copy_warnings = 1

abbrev pub max_slot_warnings : ℕ
max_slot_warnings = max_copy_warnings + (max_head_warnings + max_tracks * max_track_warnings)

-- "warning words (32 bits)": for all of them. "Warning buffers become 2,047 and 1,021 words." (02, item 5): `words_asked` has the number
abbrev pub warning_words : ℕ
warning_words = max_disc_warnings + 2 * max_slot_warnings

-- a slot's region, by its number: the second for slot 2, else the first; and the place of its tracks
unfoldable pub region_of : ℕ → List ℕ → List ℕ
region_of slot work = part (cond (eqb slot 2) (region_at multichannel) (region_at two_channel)) max_table_bytes work

unfoldable pub tracks_from : ℕ → ℕ
tracks_from slot = cond (eqb slot 2) (tracks_at multichannel) (tracks_at two_channel)
