-- After i tracks the lists and the count are what `Filling` says of i tracks.
use Rattle.std.proofs.Common.{◌≡◌}
use Rattle.area.proofs.Filling.{tracks_to, count_to, words_to}
use Rattle.area.proofs.tracks.fill_tracks.Given as goal

abbrev pub invariant-loop-i : goal.invariant-loop-i
invariant-loop-i l = record {
  count : l.written ≡ count_to l.lent l.head l.fn.words l.count l.i;
  tracks : l.tracks ≡ tracks_to l.lent l.head l.fn.tracks l.base l.i;
  words : l.words ≡ words_to l.lent l.head l.fn.words l.count l.i;
}
