-- Laws of two rips: what their sectors hold, that `pooled_sector` and `pool` agree, and what is read from. Assumes nothing.
use Rattle.std.specs.Prelude.{◌≡◌, ℕ, Bool, true, false, List, length}
use Rattle.std.proofs.Common.{sym, ◌∙◌}
use Rattle.std.proofs.Math.Path.{refl, ap}
use Rattle.std.proofs.Math.Bool.{and-eq-true_iff}
use Rattle.std.proofs.Math.Option.{none, some}
use Rattle.sectors.specs.Options.{is_there, given}
use Rattle.sectors.specs.OptionLaws.{some_eq, no_some, there_known, given_known}
use Rattle.sectors.specs.Format.{sector_size}
use Rattle.sectors.specs.Sector.{readable, sector_data, run_data}
use Rattle.sectors.proofs.SectorLaws.{sector_length}
use Rattle.sectors.specs.Header.{is_sound}
use Rattle.sectors.specs.Audit.{header_format, header_at}
use Rattle.sectors.specs.Source.{Sized, run_of}
use Rattle.sectors.proofs.SourceLaws.{image_sized, image_run, image_there}
use Rattle.sectors.specs.declared.sector.Image.{Image}
use Rattle.sectors.specs.declared.source.Source as lent
use Rattle.sectors.specs.declared.source.Source.TheVariants as source
use Rattle.sectors.specs.Pool.{sound_in, pooled_at, pooled_source, source_of}

-- ---- the pool

module _ (rip : List ℕ) (lsn : ℕ) where
  pub sound_there : sound_in rip lsn ≡ true → readable header_format (length rip) lsn 1 ≡ true
  unfolding sound_in
  sound_there e = ((and-eq-true_iff (readable header_format (length rip) lsn 1) (is_sound (header_at rip lsn))).0 e).0

module _ (first second : List ℕ) where
  pub pool_first : (lsn : ℕ) → sound_in first lsn ≡ true → pooled_at first second lsn ≡ some (sector_data header_format first lsn)
  unfolding pooled_at
  pool_first lsn e = rw e

  pub pool_second : (lsn : ℕ) → sound_in first lsn ≡ false → sound_in second lsn ≡ true → pooled_at first second lsn ≡ some (sector_data header_format second lsn)
  unfolding pooled_at
  pool_second lsn e f = rw (e, f)

  pub pool_lost : (lsn : ℕ) → sound_in first lsn ≡ false → sound_in second lsn ≡ false → pooled_at first second lsn ≡ none
  unfolding pooled_at
  pool_lost lsn e f = rw (e, f)

  -- what it holds is a sector of a rip
  pub pool_sized : Sized (pooled_source first second)
  unfolding pooled_source
  pool_sized = record { sized = λ n d e. go n d (sound_in first n) (sound_in second n) refl refl e }
    where
      go : (n : ℕ) (d : List ℕ) (a b : Bool) → sound_in first n ≡ a → sound_in second n ≡ b → pooled_at first second n ≡ some d → length d ≡ sector_size
      go n d true b p q e =
          ap length (sym (some_eq (sym (pool_first n p) ∙ e))) ∙ sector_length header_format first n (sound_there first n p)
      go n d false true p q e =
          ap length (sym (some_eq (sym (pool_second n p q) ∙ e))) ∙ sector_length header_format second n (sound_there second n q)
      go n d false false p q e = absurd (no_some (pool_lost n p q) e)

pub source_sized : (s : lent.Source) → Sized (source_of s)
unfolding source_of
source_sized (source.Image image) = image_sized image.format image.bytes.now
source_sized (source.Rips rips) = pool_sized rips.first.now rips.second.now

pub source_size : (s : lent.Source) (n : ℕ) → is_there ((source_of s).at n) ≡ true → length (given ((source_of s).at n)) ≡ sector_size
source_size s n there =
    let x = (source_of s).at n in (source_sized s).sized n (given x) (given_known x (there_known x there))

-- of one image, as what is read from
module _ (image : Image) (lsn n : ℕ) where
  pub single_there : is_there (run_of (source_of (source.Image image)) lsn n) ≡ readable image.format (length image.bytes.now) lsn n
  unfolding source_of
  single_there = image_there image.format image.bytes.now lsn n

  pub single_run : readable image.format (length image.bytes.now) lsn n ≡ true
      → given (run_of (source_of (source.Image image)) lsn n) ≡ run_data image.format image.bytes.now lsn n
  unfolding source_of given
  single_run e = ap given (image_run image.format image.bytes.now lsn n e)
