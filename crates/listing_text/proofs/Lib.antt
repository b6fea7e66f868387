mod Writing
mod EntryLines
mod TrackTurns
