-- The range of a parameter.
use Rattle.std.specs.Prelude.{[], pos, negsuc, ◌-ℤ◌, ◌≤ℤ◌}
use Rattle.mls_model.specs.Studies.{Parameter}

-- a parameter without its name
abbrev pub nameless : Parameter → Parameter
nameless p = record { name = []; low = p.low; high = p.high }

-- least and greatest are those of a study file
pub record IsRange (p : Parameter) : Type 0 where
  pub low : negsuc 4294967295 ≤ℤ p.low
  pub ordered : p.low ≤ℤ p.high
  pub high : p.high ≤ℤ pos 4294967295
  pub width : (p.high -ℤ p.low) ≤ℤ pos 4294967295
