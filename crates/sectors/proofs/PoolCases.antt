-- The sectors of two rips: what the tests say by which the program finds one. Assumes nothing.
use Rattle.std.proofs.Common.{◌≡◌, ℕ, ◌+◌, ◌*◌, ◌<◌, ◌≤◌, Bool, true, false, cond, Option, Some, None, List, [], length, sym, refl, ap, subst, ◌∙◌, arith, is_some, Ok, Err, le-ltb, lt-ltb}
use Rattle.sectors.specs.Fill.{part, start_at}
use Rattle.sectors.specs.FillLaws.{start_whole}
use Rattle.sectors.specs.Format.{stored_size, data_offset}
use mathlib.Core.Option as maths
use Rattle.sectors.specs.Options.{only_if, is_there, given}
use Rattle.sectors.specs.Sector.{sector_count, readable, sector_data}
use Rattle.sectors.proofs.SectorLaws.{is_readable, not_readable}
use Rattle.sectors.specs.Header.{is_sound}
use Rattle.sectors.specs.Audit.{header_format, header_size}
use Rattle.sectors.specs.Pool.{sound_in, data_place, pooled_at, pooled_start, pooled_count, rip_of, which_rip}
use Rattle.sectors.proofs.PoolLaws.{sound_there, pool_first, pool_second, pool_lost}
use Rattle.sectors.specs.declared.refusal.Refusal.TheVariants as refusal
use Rattle.sectors.specs.declared.pool.Rip.{Rip}
use Rattle.sectors.specs.declared.pool.Rip.TheVariants as rip
use Rattle.sectors.proofs.HeaderCases.{six_is, six_long}

-- ---- a rip's sector

module _ (rip : List ℕ) (n : ℕ) {m : ℕ} (e : m ≡ sector_count header_format (length rip)) where
  pub beyond : m ≤ n → false ≡ sound_in rip n
  unfolding sound_in
  beyond h = rw (not_readable header_format (length rip) n 1 (omega arith))

  module _ (h : n < m) where
    there : true ≡ readable header_format (length rip) n 1
    there = sym (is_readable header_format (length rip) n 1 (omega arith))

    pub its_sector : readable header_format (length rip) n 1 ≡ true
    its_sector = sym there

    module _ {six : List ℕ} (is-part : six ≡ part (n * stored_size header_format + 0) header_size rip) where
      pub its_length : length six ≡ header_size
      its_length = six_long header_format rip n refl there refl is-part

      pub sound_test : {test : Bool} → test ≡ is_sound six → test ≡ sound_in rip n
      unfolding sound_in
      sound_test is = rw (← there) (is ∙ ap is_sound (six_is header_format rip n refl there refl is-part))

-- ---- the pool's

module _ (first second : List ℕ) (n : ℕ) where
  -- what the tests say of the rip that has it
  Tests : Option Rip → Type 0
  Tests (Some rip.First) = sound_in first n ≡ true
  Tests (Some rip.Second) = (sound_in first n ≡ false) × (sound_in second n ≡ true)
  Tests None = (sound_in first n ≡ false) × (sound_in second n ≡ false)

  tests : (r : Option Rip) → rip_of first second n ≡ r → Tests r
  unfolding rip_of Tests
  tests r e = subst Tests e (go (sound_in first n) (sound_in second n) refl refl)
    where
      go : (a b : Bool) → sound_in first n ≡ a → sound_in second n ≡ b → Tests (cond a (Some rip.First) (cond b (Some rip.Second) None))
      go true b p q = p
      go false true p q = (p, q)
      go false false p q = (p, q)

  -- whether one has it
  pub has_any : is_some (rip_of first second n) ≡ is_there (pooled_at first second n)
  unfolding rip_of pooled_at is_there
  has_any = go (sound_in first n) (sound_in second n)
    where
      go : (a b : Bool) → is_some (cond a (Some rip.First) (cond b (Some rip.Second) None))
          ≡ is_there (cond a (maths.some (sector_data header_format first n)) (only_if b (maths.some (sector_data header_format second n))))
      go true b = refl
      go false true = refl
      go false false = refl

  -- it has the sector, and the data there are the pool's
  pub first_there : rip_of first second n ≡ Some rip.First → readable header_format (length first) n 1 ≡ true
  unfolding Tests
  first_there e = sound_there first n (tests (Some rip.First) e)

  pub second_there : rip_of first second n ≡ Some rip.Second → readable header_format (length second) n 1 ≡ true
  unfolding Tests
  second_there e = sound_there second n (tests (Some rip.Second) e).1

  pub first_data : rip_of first second n ≡ Some rip.First → sector_data header_format first n ≡ given (pooled_at first second n)
  unfolding given Tests
  first_data e = ap given (sym (pool_first first second n (tests (Some rip.First) e)))

  pub second_data : rip_of first second n ≡ Some rip.Second → sector_data header_format second n ≡ given (pooled_at first second n)
  unfolding given Tests
  second_data e = let t = tests (Some rip.Second) e in ap given (sym (pool_second first second n t.0 t.1))

  pub no_data : rip_of first second n ≡ None → ◌≡◌ {A = List ℕ} [] (given (pooled_at first second n))
  unfolding given Tests
  no_data e = let t = tests None e in ap given (sym (pool_lost first second n t.0 t.1))

  -- and where they begin
  module _ (a b : ℕ × ℕ) where
    pub first_start : rip_of first second n ≡ Some rip.First → start_at a (n * stored_size header_format + data_offset header_format) ≡ pooled_start first second n a b
    unfolding pooled_start data_place Tests
    first_start e = rw (tests (Some rip.First) e)

    pub second_start : rip_of first second n ≡ Some rip.Second → start_at b (n * stored_size header_format + data_offset header_format) ≡ pooled_start first second n a b
    unfolding pooled_start data_place Tests
    second_start e = let t = tests (Some rip.Second) e in rw (t.0, t.1)

    pub no_start : rip_of first second n ≡ None → a ≡ pooled_start first second n a b
    unfolding pooled_start Tests
    no_start e = let t = tests None e in sym (start_whole a) ∙ rw (t.0, t.1)

  -- which rip has it, if the pool has so many sectors
  module _ {m : ℕ} (e : m ≡ pooled_count (length first) (length second)) where
    pub beyond_both : m ≤ n → Err refusal.NoSuchEntry ≡ which_rip first second n
    unfolding which_rip
    beyond_both h = rw (le-ltb n (pooled_count (length first) (length second)) (omega arith))

    pub within_both : n < m → Ok (rip_of first second n) ≡ which_rip first second n
    unfolding which_rip
    within_both h = rw (lt-ltb n (pooled_count (length first) (length second)) (omega arith))
