-- FNV-1a, 64 bits, as published (01, "Fingerprint"). Assumes nothing.
use Rattle.std.specs.Prelude.{ℕ, Result, Ok, Err, ◌*◌, ◌%◌, ◌^◌, cond, List, length, fold, bit_xor}
use Rattle.sectors.specs.Refusal.{foreign_format, no_such_entry, number_of}
use Rattle.sectors.specs.Format.{foreign}
use Rattle.sectors.specs.Sector.{readable, sector_data}
use Rattle.sectors.specs.declared.refusal.Refusal.{Refusal}
use Rattle.sectors.specs.declared.fnv.FingerprintAnswer.{FingerprintAnswer}

-- The published offset basis and prime.
abbrev pub offset_basis : ℕ
offset_basis = 0xcbf2_9ce4_8422_2325

abbrev pub prime : ℕ
prime = 0x0000_0100_0000_01b3

-- One byte more, as published: "hash = hash xor octet_of_data", then "hash = hash * FNV_prime", "each product keeping its low 64 bits".
unfoldable pub fnv_step : ℕ → ℕ → ℕ
fnv_step hash byte = bit_xor hash byte * prime % 2 ^ 64

-- "The same fold is offered over any lent bytes".
unfoldable pub digest_of : List ℕ → ℕ
digest_of bytes = fold fnv_step offset_basis bytes

abbrev found : ℕ → FingerprintAnswer
found digest = record { refusal = 0; digest = digest }

abbrev refused : ℕ → FingerprintAnswer
refused number = record { refusal = number; digest = 0 }

-- "a definition states this paper's number and values for each of the enum's cases" (01)
unfoldable pub fingerprinted : Result ℕ Refusal → FingerprintAnswer
fingerprinted (Ok digest) = found digest
fingerprinted (Err r) = refused (number_of r)

-- "Fingerprint: .. FNV-1a of a sector's 2,048 data bytes"; "fingerprint 1, 8".
unfoldable pub fingerprint_of : ℕ → List ℕ → ℕ → FingerprintAnswer
fingerprint_of format image lsn =
    cond (foreign format) (refused foreign_format)
    (cond (readable format (length image) lsn 1) (found (digest_of (sector_data format image lsn))) (refused no_such_entry))
