-- The capping rule of a disc (02, item 4): of every track that comes out of a reading. Assumes nothing.
use Rattle.sectors.specs.Fill.{part}
use Rattle.area.specs.Capping.{Capping}
use Rattle.area.specs.Warning.{word_of}
use Rattle.area.specs.declared.track.Track.{Track}
use Rattle.disc.specs.Demand3.{ComesOut}
use Rattle.disc.specs.Outcome.{Outcome}
use Rattle.disc.specs.Slot.{Slot, slot_number}

-- "The capping rule becomes a stated fact of every yielded track": by the words that the reading leaves, "the warnings fill the first words"
abbrev pub TracksCapped : Outcome → Type 0
TracksCapped o = (slot : Slot) (t : Track) (c : ComesOut o slot t)
    → Capping word_of (part 0 o.answer.warnings o.memory.words) (slot_number slot) c.area.area.playtime t
