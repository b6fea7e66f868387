-- Laws of the texts of a master record: each is absent, or says how its string ended in sector 1. Assumes nothing.
use Rattle.std.specs.Prelude.{Bool, true, false, cond, List, ℕ, ◌+◌, ◌*◌, replicate}
use Rattle.area.specs.Tabulate.{tabulate}
use Rattle.area.specs.TextPlaces.{no_text_place, text_place_at}
use Rattle.area.proofs.TextPlaceLaws.{AllTold, offsets_told, none_told}
use Rattle.disc.specs.Master.{disc_texts, disc_texts_offset, has_text, text_sector, sector_texts, disc_texts_at}

pub disc_told : (table : List ℕ) → AllTold (text_sector table) (disc_texts_at table)
unfolding sector_texts disc_texts_at
disc_told table = go (has_text table)
  where
    go : (t : Bool) → AllTold (text_sector table)
        (cond t (tabulate disc_texts (λ item. text_place_at (text_sector table) (disc_texts_offset + 2 * item))) (replicate disc_texts no_text_place))
    go true = offsets_told (text_sector table) disc_texts disc_texts_offset
    go false = none_told (text_sector table) disc_texts
