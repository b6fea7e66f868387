-- What a lent page holds after a text is written into it. Assumes nothing.
use Rattle.std.specs.Prelude.{ℕ, List}
use Rattle.std.proofs.lemmas.List.Edits.{sets}
use Rattle.area.specs.Lent.{counted}
use Rattle.listing_text.specs.declared.page.Page.{Page}

-- a text behind what is written: as much of it as fits
unfoldable pub appended : Page → List ℕ → Page
appended page text =
    record { bytes = record page.bytes { now = sets page.bytes.now page.at text }; at = counted page.bytes.now page.at text }
