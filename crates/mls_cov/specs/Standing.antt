-- When a value of sums stands for a list of rows.
use Rattle.std.specs.Prelude.{◌≡◌, ℕ, ◌+◌, ◌-◌, ◌*◌, List, length, slice_index, pos, ◌-ℤ◌}
use Rattle.mls_model.specs.CellSums.{place_a, place_b, place_aa, place_bb, place_c, place_cc, place_ac, place_bc}
use Rattle.mls_cov.specs.declared.martinez.Martinez.{Martinez}
use Rattle.mls_cov.specs.declared.martinez.IndexParts.{IndexParts}
use Rattle.mls_cov.specs.declared.martinez.Sum.{Sum}
use Rattle.mls_cov.specs.declared.martinez.Sum.TheVariants.{A, B, AA, BB, C, CC, AC, BC}
use Rattle.mls_cov.specs.Sums.{HoldsSums}

-- what the readers give
abbrev pub count_of : Martinez → ℕ
count_of m = m.count

abbrev pub parameters_of : Martinez → ℕ
parameters_of m = m.parameters

-- the 68 sums: of A, B, AA and BB, then of C, CC, AC and BC for each k from 0 to 15
abbrev pub sums_in : Martinez → List ℕ
sums_in m = m.sums

abbrev pub place_of : Sum → ℕ
place_of A = 0
place_of B = 1
place_of AA = 2
place_of BB = 3
place_of (C k) = 4 * k + 4
place_of (CC k) = 4 * k + 5
place_of (AC k) = 4 * k + 6
place_of (BC k) = 4 * k + 7

-- the number of the rows, and the sums of their samples and products
pub record StandsFor (m : Martinez) (rows : List (List ℕ)) : Type 0 where
  pub count : count_of m ≡ length rows
  pub sums : HoldsSums (parameters_of m) (sums_in m) rows

-- the parts of parameter k's indices in one pass, from the sums of n rows
pub record ArePartsOf (n k : ℕ) (sums : List ℕ) (parts : IndexParts) : Type 0 where
  pub cov_b : parts.cov_b ≡ pos (n * slice_index sums (place_bc k)) -ℤ pos (slice_index sums place_b * slice_index sums (place_c k))
  pub cov_a : parts.cov_a ≡ pos (n * slice_index sums (place_ac k)) -ℤ pos (slice_index sums place_a * slice_index sums (place_c k))
  pub var_a : parts.var_a ≡ n * slice_index sums place_aa - slice_index sums place_a * slice_index sums place_a
  pub var_b : parts.var_b ≡ n * slice_index sums place_bb - slice_index sums place_b * slice_index sums place_b
  pub var_c : parts.var_c ≡ n * slice_index sums (place_cc k) - slice_index sums (place_c k) * slice_index sums (place_c k)
