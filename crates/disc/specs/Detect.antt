-- Which format an image stores its sectors in, found as `Image::open` of image.rs finds it: beyond 01, which leaves detection out. Assumes
-- nothing.
use Rattle.std.specs.Prelude.{ℕ, cond, List, [], ◌∷◌, Result, Ok, Err}
use Rattle.sectors.specs.Sector.{begins_with}
use Rattle.disc.specs.Master.{master_lsn, master_signature}
use Rattle.disc.specs.Refusal.{not_scarlet_book, number_of}
use Rattle.disc.specs.declared.detect.DetectAnswer.{DetectAnswer}
use Rattle.disc.specs.declared.refusal.DiscRefusal.{DiscRefusal}

-- `DETECTION_ORDER` of image.rs, `Plain`, `Raw2064`, `Raw2054`, by number
abbrev pub detection_order : List ℕ
detection_order = 0 ∷ 2 ∷ 1 ∷ []

unfoldable pub in_format : ℕ → DetectAnswer
in_format format = record { refusal = 0; sector_format = format }

-- of any list of formats the first at whose place of LSN 510 `SACDMTOC` stands. Where there is none, the refusal has the number of 01's row 4,
-- which is of a reading in a known format
unfoldable pub first_of : List ℕ → List ℕ → DetectAnswer
first_of image [] = record { refusal = not_scarlet_book; sector_format = 0 }
first_of image (format ∷ formats) =
    cond (begins_with format image master_lsn master_signature) (in_format format) (first_of image formats)

-- of the three, in that order
unfoldable pub detected : List ℕ → DetectAnswer
detected image = first_of image detection_order

-- "a definition states this paper's number and values for each of the enum's cases" (01): the format, or a refusal and 0
unfoldable pub detected_by : Result ℕ DiscRefusal → DetectAnswer
detected_by (Ok format) = in_format format
detected_by (Err r) = record { refusal = number_of r; sector_format = 0 }
