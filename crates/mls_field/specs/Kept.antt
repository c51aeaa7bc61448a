-- What the sums of a rank's block keep of a cell, and how that is read.
use Rattle.std.specs.Prelude.{◌≡◌, ℕ, ◌+◌, ◌*◌, ◌<◌, List, take, length, pos, slice_index}
use Rattle.mls_model.specs.CellSums.{CellSums}
use Rattle.mls_model.specs.SumsText.{samples, first_power, second_power, third_power, fourth_power}
use Rattle.mls_power.specs.declared.power.Power.{Power}
use Rattle.mls_power.specs.declared.power.Powers.{Powers}
use Rattle.mls_power.specs.declared.extrema.Extrema.{Extrema}
use Rattle.mls_power.specs.declared.exceed.Exceed.{Exceed}
use Rattle.mls_cov.specs.declared.martinez.Martinez.{Martinez}
use Rattle.mls_power.specs.Extremes.{least_in, greatest_in}
use Rattle.mls_power.specs.Standing.{count_of, first_of as power_first, second_of as power_second, third_of as power_third, fourth_of as power_fourth}
use Rattle.mls_power.specs.ExtremaStanding.{least_of, greatest_of}
use Rattle.mls_power.specs.ExceedStanding.{exceed_count_of, numbers_of}
use Rattle.mls_cov.specs.Standing.{count_of as row_count_of, parameters_of, sums_in}
use Rattle.mls_field.specs.declared.field.Field.{Field}
use Rattle.mls_field.specs.Kinds.{first_of, second_of, third_of, fourth_of}
use Rattle.mls_field.specs.Fields.{sums_cell, ends_cell, numbers_cell}

-- the numbers of the cell at a place of a plane, with the rows that wait
abbrev pub sums_in_cell : Field → ℕ → ℕ → List ℕ
sums_in_cell f = sums_cell f.shape f.places f.waiting.items f.sums.items f.samples.items

abbrev pub ends_in_cell : Field → ℕ → ℕ → List ℕ
ends_in_cell f = ends_cell f.shape f.places f.waiting.items f.ends.items f.samples.items

abbrev pub numbers_in_cell : Field → ℕ → ℕ → List ℕ
numbers_in_cell f = numbers_cell f.shape f.places f.waiting.items f.numbers.items f.samples.items

-- the sums of the cell at a place of a plane, over all rows that were given
abbrev pub sums_at : Field → ℕ → ℕ → CellSums
sums_at f plane place = record {
  rows = slice_index f.counts.items plane;
  p1 = first_of (sums_in_cell f plane place);
  p2 = second_of (sums_in_cell f plane place);
  p3 = third_of f.shape.parameters (sums_in_cell f plane place);
  p4 = fourth_of f.shape.parameters (sums_in_cell f plane place);
  least = least_in (ends_in_cell f plane place);
  greatest = greatest_in (ends_in_cell f plane place);
  above = numbers_in_cell f plane place;
  products = take (4 + 4 * f.shape.parameters) (sums_in_cell f plane place);
}

-- values that have these sums
pub record HasPowers (c : CellSums) (p : Power) : Type 0 where
  pub count : count_of p ≡ samples c
  pub first : power_first p ≡ c.p1
  pub second : power_second p ≡ c.p2
  pub third : power_third p ≡ c.p3
  pub fourth : power_fourth p ≡ c.p4

pub record HasEnds (c : CellSums) (e : Extrema) : Type 0 where
  pub least : least_of e ≡ c.least
  pub greatest : greatest_of e ≡ c.greatest

pub record HasNumbers (thresholds : ℕ) (c : CellSums) (e : Exceed) : Type 0 where
  pub count : exceed_count_of e ≡ samples c
  pub long : length c.above ≡ thresholds
  pub numbers : (i : ℕ) → slice_index (numbers_of e) i ≡ slice_index c.above i

pub record HasProducts (parameters : ℕ) (c : CellSums) (m : Martinez) : Type 0 where
  pub count : row_count_of m ≡ c.rows
  pub sized : parameters_of m ≡ parameters
  pub sums : (i : ℕ) → i < 4 + 4 * parameters → slice_index (sums_in m) i ≡ slice_index c.products i

-- the power sums of values, where a shifted value is so much more
pub record HasValuePowers (h : ℕ) (c : CellSums) (powers : Powers) : Type 0 where
  pub first : powers.p1 ≡ first_power h c
  pub second : pos powers.p2 ≡ second_power h c
  pub third : powers.p3 ≡ third_power h c
  pub fourth : powers.p4 ≡ fourth_power h c
