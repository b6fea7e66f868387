-- What the code points of a string's bytes by a mapping have left to come. No rule of 02. Assumes nothing.
use Rattle.std.specs.Prelude.{ℕ, List, ◌++◌, option_to_list}
use Rattle.text.specs.Charset.{set_number}
use Rattle.text.specs.Mapped.{points_by}
use Rattle.text.specs.declared.points.Points.{Points}

-- the second code point of a double, if it is still to come, and those of the bytes that are left
unfoldable pub points_left : Points → List ℕ
points_left p = option_to_list p.second ++ points_by p.mapping.now (set_number p.set) p.bytes.now
