-- The bytes that are still to come count once, and those passed as many times as their text has bytes.
use Rattle.std.proofs.Common.{◌≡◌, ◌+◌, ◌≤◌, length, take}
use Rattle.text.specs.Utf8.{encoded}
use Rattle.text.proofs.decode.latin1_length.Given as goal

abbrev pub invariant-loop-byte : goal.invariant-loop-byte
invariant-loop-byte l =
    (l.len ≤ length l.bytes + l.byte-index) × (l.len + l.byte-index ≡ length l.bytes + length (encoded (take l.byte-index l.bytes)))
