-- ASCII in stored strings, of which decoding makes a copy. No rule of 01. Assumes nothing.
use Rattle.std.specs.Prelude.{ℕ, Bool, ◌&&◌, ltb}
use Rattle.text.specs.String.{nonzero}

-- a byte of a stored string that is ASCII
unfoldable pub is_stored_ascii : ℕ → Bool
is_stored_ascii b = nonzero b && ltb b 0x80
