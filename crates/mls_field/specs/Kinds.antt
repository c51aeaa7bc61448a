-- The three kinds of numbers that are kept of a cell's rows: when numbers may be those of n rows, and when they are those of given rows.
use Rattle.std.specs.Prelude.{◌≡◌, ℕ, ◌+◌, ◌*◌, ◌^◌, ◌≤◌, List, sum_by, slice_index}
use Rattle.mls_model.specs.CellSums.{place_a, place_b, place_aa, place_bb}
use Rattle.mls_power.specs.Extremes.{least_in, greatest_in, HoldsExtrema}
use Rattle.mls_power.specs.NumbersAbove.{HoldsAbove}
use Rattle.mls_power.specs.Rules.{AreExtrema, AreNumbersAbove}
use Rattle.mls_cov.specs.Sums.{HoldsSums}
use Rattle.mls_cov.specs.Rules.{KeepsRules}
use Rattle.mls_field.specs.ShiftedRows.{shifted_outputs}

-- the sums of the first to fourth powers of A and B: the first two are those of A and of B together
abbrev pub first_of : List ℕ → ℕ
first_of words = slice_index words place_a + slice_index words place_b

abbrev pub second_of : List ℕ → ℕ
second_of words = slice_index words place_aa + slice_index words place_bb

abbrev pub third_of : ℕ → List ℕ → ℕ
third_of p words = slice_index words (4 + 4 * p) + slice_index words (4 + 4 * p + 1)

abbrev pub fourth_of : ℕ → List ℕ → ℕ
fourth_of p words = slice_index words (4 + 4 * p + 2) + 2 ^ 32 * slice_index words (4 + 4 * p + 3)

-- what holds of the third and fourth powers of n rows
pub record PowersWithin (p n : ℕ) (words : List ℕ) : Type 0 where
  pub cubes_a : slice_index words (4 + 4 * p) ≤ 281462092005375 * n
  pub cubes_b : slice_index words (4 + 4 * p + 1) ≤ 281462092005375 * n
  pub low : slice_index words (4 + 4 * p + 2) ≤ 8589934590 * n
  pub high : slice_index words (4 + 4 * p + 3) ≤ 8589934590 * n
  pub third : third_of p words ≤ 65535 * second_of words
  pub fourth : fourth_of p words ≤ 65535 * third_of p words

pub record SumsWithin (p n : ℕ) (words : List ℕ) : Type 0 where
  pub products : KeepsRules n p words
  pub powers : PowersWithin p n words

pub record HoldSums (p : ℕ) (words : List ℕ) (rows : List (List ℕ)) : Type 0 where
  pub products : HoldsSums p words rows
  pub third : third_of p words ≡ sum_by (λ w. w * w * w) (shifted_outputs rows)
  pub fourth : fourth_of p words ≡ sum_by (λ w. w * w * (w * w)) (shifted_outputs rows)

-- the least and greatest of the samples A and B
pub record ExtremaWithin (n : ℕ) (ends : List ℕ) : Type 0 where
  pub rules : AreExtrema (2 * n) (least_in ends) (greatest_in ends)
  pub least_small : least_in ends ≤ 65535
  pub greatest_small : greatest_in ends ≤ 65535

abbrev pub HoldExtrema : List ℕ → List (List ℕ) → Type 0
HoldExtrema ends rows = HoldsExtrema ends (shifted_outputs rows)

-- how many of them are above each threshold
abbrev pub NumbersWithin : ℕ → List ℕ → Type 0
NumbersWithin n numbers = AreNumbersAbove (2 * n) numbers

abbrev pub HoldNumbers : List ℕ → List ℕ → List (List ℕ) → Type 0
HoldNumbers thresholds numbers rows = HoldsAbove thresholds numbers (shifted_outputs rows)
