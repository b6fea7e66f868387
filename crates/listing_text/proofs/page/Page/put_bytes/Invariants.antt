-- After so many turns as many bytes are written.
use Rattle.std.proofs.Common.{◌≡◌, take}
use Rattle.listing_text.specs.Page.{appended}
use Rattle.listing_text.proofs.page.Page.put_bytes.Given as goal

abbrev pub invariant-loop-byte : goal.invariant-loop-byte
invariant-loop-byte l = l.self ≡ appended l.initial.self (take l.byte-index l.bytes)
