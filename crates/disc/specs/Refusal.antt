-- The numbers of refusals (01, "What the desk gets back") that this layer gives; 0 where nothing is refused. Assumes nothing.
use Rattle.std.specs.Prelude.{◌≡◌, ℕ, Result, Ok, Err}
use native.Mathlib.Omega.{arith}
use Rattle.sectors.specs.Refusal.{foreign_format, short_buffer}
use Rattle.area.specs.Refusal.{no_audio_areas}
use Rattle.disc.specs.declared.refusal.DiscRefusal.{DiscRefusal}
use Rattle.disc.specs.declared.refusal.DiscRefusal.TheVariants as refusal

-- "3 | cut master | fewer than 520 whole sectors"
abbrev pub master_toc_truncated : ℕ
master_toc_truncated = 3

-- "4 | not Scarlet Book | LSN 510 doesn't begin `SACDMTOC`"
abbrev pub not_scarlet_book : ℕ
not_scarlet_book = 4

-- "5 | newer edition | master major version above 1"
abbrev pub version_unsupported : ℕ
version_unsupported = 5

-- "a definition states this paper's number and values for each of the enum's cases"
unfoldable pub number_of : DiscRefusal → ℕ
number_of refusal.ForeignFormat = foreign_format
number_of refusal.ShortBuffer = short_buffer
number_of refusal.MasterTocTruncated = master_toc_truncated
number_of refusal.NotScarletBook = not_scarlet_book
number_of refusal.VersionUnsupported = version_unsupported
number_of refusal.NoAudioAreas = no_audio_areas

-- the number of an answer: 0 where nothing is refused
unfoldable pub refused_by : {A : Type 0} → Result A DiscRefusal → ℕ
refused_by (Ok _) = 0
refused_by (Err r) = number_of r

-- no refusal has the number 0
pub number_some : (r : DiscRefusal) → number_of r ≡ 0 → ⊥
unfolding number_of
number_some refusal.ForeignFormat e = absurd (omega (arith, e))
number_some refusal.ShortBuffer e = absurd (omega (arith, e))
number_some refusal.MasterTocTruncated e = absurd (omega (arith, e))
number_some refusal.NotScarletBook e = absurd (omega (arith, e))
number_some refusal.VersionUnsupported e = absurd (omega (arith, e))
number_some refusal.NoAudioAreas e = absurd (omega (arith, e))
