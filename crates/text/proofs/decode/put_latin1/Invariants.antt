-- What is written is the UTF-8 of the bytes passed.
use Rattle.std.proofs.Common.{◌≡◌, length, take}
use Rattle.sectors.specs.Fill.{fill}
use Rattle.text.specs.Utf8.{encoded}
use Rattle.text.proofs.decode.put_latin1.Given as goal

abbrev pub invariant-loop-byte : goal.invariant-loop-byte
invariant-loop-byte l = (l.at ≡ length (encoded (take l.byte-index l.bytes))) × (l.page ≡ fill 0 (encoded (take l.byte-index l.bytes)) l.initial.page)
