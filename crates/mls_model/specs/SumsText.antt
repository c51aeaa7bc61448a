-- The result text of what the ranks keep: in one pass, from sums.
use Rattle.std.specs.Prelude.{ℕ, ◌+◌, ◌-◌, ◌*◌, ◌==◌, Bool, true, false, ◌&&◌, cond, List, [], ◌++◌, length, ℤ, pos, ◌-ℤ◌, Option, nat_lt, slice_index}
use Rattle.std.specs.Option.{option_map}
use Rattle.std.specs.List.{flat_map, enumerate_from}
use Rattle.mls_model.specs.declared.lanes.LaneLine.{LaneLine}
use Rattle.mls_model.specs.declared.outcomes.Counts.{Counts}
use Rattle.mls_model.specs.declared.studies.Statistic.TheVariants.{Power, Extrema, Exceed, Sobol}
use Rattle.mls_model.specs.Studies.{Study, Parameter, plane_of, shows}
use Rattle.mls_model.specs.Samples.{unshifted}
use Rattle.mls_model.specs.CellSums.{CellSums, place_a, place_b, place_aa, place_bb, place_c, place_cc, place_ac, place_bc}
use Rattle.mls_model.specs.Indices.{rho6}
use Rattle.mls_model.specs.ResultText.{step_line, power_line, variance_line, third_line, extrema_line, power_words, variance_words, third_words, extrema_words, exceed_words, sobol_words, whole_text}

-- N, the number of samples of A and B
abbrev pub samples : CellSums → ℕ
samples c = 2 * c.rows

-- how much more a shifted value is than the value that it is kept for
abbrev pub height : Bool → ℕ
height false = 0
height true = 32768

-- P1 to P4 over values, each shifted value being so much more
abbrev pub first_power : ℕ → CellSums → ℤ
first_power h c = pos c.p1 -ℤ pos (h * samples c)

abbrev pub second_power : ℕ → CellSums → ℤ
second_power h c = pos (c.p2 + h * h * samples c) -ℤ pos (2 * h * c.p1)

abbrev pub third_power : ℕ → CellSums → ℤ
third_power h c = pos (c.p3 + 3 * (h * h) * c.p1) -ℤ pos (3 * h * c.p2 + h * h * h * samples c)

abbrev pub fourth_power : ℕ → CellSums → ℤ
fourth_power h c = pos (c.p4 + 6 * (h * h) * c.p2 + h * h * (h * h) * samples c) -ℤ pos (4 * h * c.p3 + 4 * (h * h * h) * c.p1)

-- V = N · P2 − P1² and U = N² · P3 − 3 · N · P1 · P2 + 2 · P1³
abbrev pub variance_top_of : CellSums → ℤ
variance_top_of c = pos (samples c * c.p2) -ℤ pos (c.p1 * c.p1)

abbrev pub third_top_of : CellSums → ℤ
third_top_of c = pos (samples c * samples c * c.p3 + 2 * (c.p1 * c.p1 * c.p1)) -ℤ pos (3 * (samples c * c.p1 * c.p2))

-- n · Σxy − X · Y, the sums being those with these numbers among the products
abbrev pub covariance_top_of : CellSums → ℕ → ℕ → ℕ → ℤ
covariance_top_of c x y xy = pos (c.rows * slice_index c.products xy) -ℤ pos (slice_index c.products x * slice_index c.products y)

-- n · Σx² − X²
abbrev pub spread_top_of : CellSums → ℕ → ℕ → ℕ
spread_top_of c x xx = c.rows * slice_index c.products xx - slice_index c.products x * slice_index c.products x

-- c(A, C^k), c(B, C^k), v(A), v(B) and v(C^k)
abbrev pub cov_a : CellSums → ℕ → ℤ
cov_a c k = covariance_top_of c place_a (place_c k) (place_ac k)

abbrev pub cov_b : CellSums → ℕ → ℤ
cov_b c k = covariance_top_of c place_b (place_c k) (place_bc k)

abbrev pub var_a : CellSums → ℕ
var_a c = spread_top_of c place_a place_aa

abbrev pub var_b : CellSums → ℕ
var_b c = spread_top_of c place_b place_bb

abbrev pub var_c : CellSums → ℕ → ℕ
var_c c k = spread_top_of c (place_c k) (place_cc k)

-- the first and the total index of parameter k
abbrev pub first_of : CellSums → ℕ → Option ℤ
first_of c k = rho6 (cov_b c k) (var_b c) (var_c c k)

abbrev pub total_of : CellSums → ℕ → Option ℤ
total_of c k = option_map (λ r. pos 1000000 -ℤ r) (rho6 (cov_a c k) (var_a c) (var_c c k))

-- the power lines, in short ones where there is no row
unfoldable pub sums_powers : Bool → CellSums → List ℕ
sums_powers signed c = cond (c.rows == 0) (power_line [] ++ (variance_line [] ++ third_line [])) (power_words (first_power (height signed) c) (second_power (height signed) c) (third_power (height signed) c) (fourth_power (height signed) c) ++ (variance_words (variance_top_of c) (samples c) ++ third_words (third_top_of c) (samples c)))

unfoldable pub sums_extrema : Bool → CellSums → List ℕ
sums_extrema signed c = cond (c.rows == 0) (extrema_line []) (extrema_words (unshifted signed c.least) (unshifted signed c.greatest))

-- the line of parameter k, and the lines of all
unfoldable pub sums_sobol : CellSums → ℕ → Parameter → List ℕ
sums_sobol c k parameter = sobol_words parameter.name (first_of c k) (total_of c k) (cov_b c k) (cov_a c k) (var_a c) (var_b c) (var_c c k)

unfoldable pub sums_indices : Study → CellSums → List ℕ
sums_indices study c = flat_map (λ (p : ℕ × Parameter). sums_sobol c p.0 p.1) (enumerate_from 0 study.parameters)

-- what is said of a cell's statistics
unfoldable pub sums_statistics : Study → CellSums → List ℕ
sums_statistics study c = cond (shows study Power) (sums_powers study.sizes.signed c) [] ++ (cond (shows study Extrema) (sums_extrema study.sizes.signed c) [] ++ (cond (shows study Exceed && nat_lt 0 (length study.sizes.thresholds)) (exceed_words c.above) [] ++ cond (shows study Sobol) (sums_indices study c) []))

-- all that is said of a cell
abbrev pub sums_text : Study → ℕ → ℕ → ℕ → CellSums → List ℕ
sums_text study step field x c = step_line study step field x c.rows ++ sums_statistics study c

-- what is said of a step, field and cell, from the sums of each plane and cell
abbrev pub sums_said : Study → (ℕ → ℕ → CellSums) → ℕ → ℕ → ℕ → List ℕ
sums_said study table step field x = sums_text study step field x (table (plane_of study.sizes step field) x)

-- the whole text, from the ranks' counts, the lanes' lines and the sums of each plane and cell
abbrev pub text_of_sums : Study → List Counts → List LaneLine → (ℕ → ℕ → CellSums) → List ℕ
text_of_sums study all lines table = whole_text study all lines (sums_said study table)
