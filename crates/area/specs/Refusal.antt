-- The numbers of refusals (01, "What the desk gets back") that this layer gives; 0 where nothing is refused.
use Rattle.std.specs.Prelude.{ℕ}
use Rattle.sectors.specs.Refusal.{short_buffer}
use Rattle.area.specs.declared.refusal.TableRefusal.{TableRefusal}
use Rattle.area.specs.declared.refusal.TableRefusal.TheVariants as refusal

-- "6 | silent disc | neither slot, or not the lone table, yields an area"
abbrev pub no_audio_areas : ℕ
no_audio_areas = 6

-- "7 | odd table | a lone table of 0 bytes, over 262,144, or no multiple of 2,048"
abbrev pub odd_table : ℕ
odd_table = 7

-- the number of each refusal of a lone table
unfoldable pub number_of : TableRefusal → ℕ
number_of refusal.ShortBuffer = short_buffer
number_of refusal.NoAudioAreas = no_audio_areas
number_of refusal.OddTable = odd_table
