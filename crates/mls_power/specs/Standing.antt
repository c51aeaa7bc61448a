-- When power sums stand for a list of samples.
use Rattle.std.specs.Prelude.{◌≡◌, ℕ, ◌+◌, ◌*◌, List, length, sum_by, ℤ, pos, ◌-ℤ◌}
use Rattle.mls_model.specs.Statistics.{total, squares, cubes, fourths}
use Rattle.mls_power.specs.declared.power.Power.{Power}
use Rattle.mls_power.specs.declared.power.Powers.{Powers}
use Rattle.mls_power.specs.PowerSums.{first_in, second_in, third_in, fourth_in}

-- what the readers give
abbrev pub count_of : Power → ℕ
count_of p = p.count

abbrev pub first_of : Power → ℕ
first_of p = first_in p.sums

abbrev pub second_of : Power → ℕ
second_of p = second_in p.sums

abbrev pub third_of : Power → ℕ
third_of p = third_in p.sums

abbrev pub fourth_of : Power → ℕ
fourth_of p = fourth_in p.sums

-- the number of the samples, and the sums of their powers
pub record StandsFor (p : Power) (ws : List ℕ) : Type 0 where
  pub count : count_of p ≡ length ws
  pub first : first_of p ≡ sum_by (λ w. w) ws
  pub second : second_of p ≡ sum_by (λ w. w * w) ws
  pub third : third_of p ≡ sum_by (λ w. w * w * w) ws
  pub fourth : fourth_of p ≡ sum_by (λ w. w * w * (w * w)) ws

-- the sums of the powers of values
pub record ArePowers (p : Powers) (values : List ℤ) : Type 0 where
  pub first : p.p1 ≡ total values
  pub second : pos p.p2 ≡ squares values
  pub third : p.p3 ≡ cubes values
  pub fourth : p.p4 ≡ fourths values

-- the sums of the powers of values, in one pass from those of samples that are each so much more
pub record AreLowered (h : ℕ) (p : Power) (powers : Powers) : Type 0 where
  pub first : powers.p1 ≡ pos (first_of p) -ℤ pos (h * count_of p)
  pub second : pos powers.p2 ≡ pos (second_of p + h * h * count_of p) -ℤ pos (2 * h * first_of p)
  pub third : powers.p3 ≡ pos (third_of p + 3 * (h * h) * first_of p) -ℤ pos (3 * h * second_of p + h * h * h * count_of p)
  pub fourth : powers.p4 ≡ pos (fourth_of p + 6 * (h * h) * second_of p + h * h * (h * h) * count_of p) -ℤ pos (4 * h * third_of p + 4 * (h * h * h) * first_of p)

-- V and U in one pass
abbrev pub variance_top_in : Power → ℤ
variance_top_in p = pos (count_of p * second_of p) -ℤ pos (first_of p * first_of p)

abbrev pub third_top_in : Power → ℤ
third_top_in p = pos (count_of p * count_of p * third_of p + 2 * (first_of p * first_of p * first_of p)) -ℤ pos (3 * (count_of p * first_of p * second_of p))
