-- Which tables are skipped (01, "Area"). Assumes nothing.
use Rattle.std.specs.Prelude.{ℕ, ◌+◌, ◌*◌, Bool, cond, not, ◌&&◌, ◌||◌, List, leb, ltb, eqb, length, Option, Some, None}
use Rattle.sectors.specs.Format.{sector_size}
use Rattle.sectors.specs.Number.{be_at}
use Rattle.sectors.specs.declared.sector.Lsn.{Lsn}
use Rattle.area.specs.Units.{lsn_at}
use Rattle.area.specs.Area.{kind_of, track_count_offset, audio_start_offset, audio_end_offset}
use Rattle.area.specs.Chain.{chain_of}
use Rattle.area.specs.Warning.{number_of, area_signature_invalid, area_track_list_missing, area_toc_malformed, area_audio_range_reversed}
use Rattle.area.specs.declared.chain.Chain.{Chain}
use Rattle.area.specs.declared.warning.WarningCode.{WarningCode}

-- "no TRL1 or TRL2"
unfoldable pub list_missing : Chain → Bool
list_missing c = eqb c.trl1 0 || eqb c.trl2 0

-- "IGL named, byte 69 at least 1 and IGL + 4096 beyond the table"
unfoldable pub is_malformed : List ℕ → Chain → Bool
is_malformed table c = not (eqb c.igl 0) && leb 1 (be_at table track_count_offset 1) && ltb (length table) (c.igl + 2 * sector_size)

-- "end LSN (76) below start LSN (72)"
unfoldable pub is_reversed : Lsn → Lsn → Bool
is_reversed start end = ltb end.0 start.0

-- "Then, first that applies: signature neither `TWOCHTOC` nor `MULCHTOC`, 8; no TRL1 or TRL2, 9; IGL named, byte 69 at least 1 and IGL +
-- 4096 beyond the table, 10; end LSN (76) below start LSN (72), 11. These skip.": 0 where none applies
unfoldable pub skip_by : List ℕ → Chain → ℕ
skip_by table c =
    cond (eqb (kind_of table) 0) area_signature_invalid
    (cond (list_missing c) area_track_list_missing
    (cond (is_malformed table c) area_toc_malformed
    (cond (is_reversed (lsn_at table audio_start_offset) (lsn_at table audio_end_offset)) area_audio_range_reversed 0)))

-- the number of the warning by which a table is skipped, or 0
unfoldable pub skip_number : Option WarningCode → ℕ
skip_number None = 0
skip_number (Some code) = number_of code

unfoldable pub skip_of : List ℕ → ℕ
skip_of table = skip_by table (chain_of table)
