-- What is printed of a cell whose rows stand in another order.
use Rattle.std.proofs.Common.{◌≡◌, ℕ, zero, suc, ◌+◌, cond, List, [], ◌∷◌, ◌++◌, length, map, flat_map, IsPermutation, ℤ, pos, ◌-ℤ◌, unwrap_or, option_map, refl, ap, ◌&&◌, unsigned_abs, arith}
use Rattle.std.specs.Prelude.{nat_lt}
use Rattle.std.specs.List.{enumerate_from}
use Rattle.mls_model.specs.declared.studies.Statistic.TheVariants.{Power, Extrema, Exceed, Sobol}
use Rattle.mls_model.specs.Studies.{Study, Parameter, shows}
use Rattle.mls_model.specs.Statistics.{column, outputs, spread_top}
use Rattle.mls_model.specs.Numbers.{square, cube}
use Rattle.mls_model.specs.Indices.{correlation, first_index, total_index, rho6}
use Rattle.mls_model.specs.ResultText.{power_words, variance_words, third_words, extrema_words, exceed_words, sobol_words, power_line, variance_line, third_line, extrema_line, exceed_line, sobol_line, sobol_lines, step_line, power_lines, extrema_lines, exceed_lines, index_lines, threshold_values, cell_text}
use Rattle.mls_orders.proofs.Statistics.{sum_permuted, length_permuted, variance_permuted, third_permuted, least_permuted, most_permuted, above_permuted, outputs_permuted, covariance_permuted}

never_longer : {A : Type 0} (x : A) (xs : List A) → IsPermutation [] (x ∷ xs) → ⊥
never_longer x xs h = let e : zero ≡ suc (length xs) = length_permuted [] (x ∷ xs) h in absurd (omega (arith, e))

never_shorter : {A : Type 0} (x : A) (xs : List A) → IsPermutation (x ∷ xs) [] → ⊥
never_shorter x xs h = let e : suc (length xs) ≡ zero = length_permuted (x ∷ xs) [] h in absurd (omega (arith, e))

power_same : (xs ys : List ℤ) → IsPermutation xs ys → power_line xs ≡ power_line ys
unfolding power_line
power_same [] [] h = refl
power_same [] (y ∷ ys) h = absurd (never_longer y ys h)
power_same (x ∷ xs) [] h = absurd (never_shorter x xs h)
power_same (x ∷ xs) (y ∷ ys) h = λ i. power_words (sum_permuted (λ w. w) (x ∷ xs) (y ∷ ys) h i) (sum_permuted square (x ∷ xs) (y ∷ ys) h i) (sum_permuted cube (x ∷ xs) (y ∷ ys) h i) (sum_permuted (λ w. square (square w)) (x ∷ xs) (y ∷ ys) h i)

variance_same : (xs ys : List ℤ) → IsPermutation xs ys → variance_line xs ≡ variance_line ys
unfolding variance_line
variance_same [] [] h = refl
variance_same [] (y ∷ ys) h = absurd (never_longer y ys h)
variance_same (x ∷ xs) [] h = absurd (never_shorter x xs h)
variance_same (x ∷ xs) (y ∷ ys) h = λ i. variance_words (variance_permuted (x ∷ xs) (y ∷ ys) h i) (length_permuted (x ∷ xs) (y ∷ ys) h i)

third_same : (xs ys : List ℤ) → IsPermutation xs ys → third_line xs ≡ third_line ys
unfolding third_line
third_same [] [] h = refl
third_same [] (y ∷ ys) h = absurd (never_longer y ys h)
third_same (x ∷ xs) [] h = absurd (never_shorter x xs h)
third_same (x ∷ xs) (y ∷ ys) h = λ i. third_words (third_permuted (x ∷ xs) (y ∷ ys) h i) (length_permuted (x ∷ xs) (y ∷ ys) h i)

extrema_same : (xs ys : List ℤ) → IsPermutation xs ys → extrema_line xs ≡ extrema_line ys
unfolding extrema_line
extrema_same [] [] h = refl
extrema_same [] (y ∷ ys) h = absurd (never_longer y ys h)
extrema_same (x ∷ xs) [] h = absurd (never_shorter x xs h)
extrema_same (x ∷ xs) (y ∷ ys) h = λ i. extrema_words (unwrap_or (least_permuted (x ∷ xs) (y ∷ ys) h i) (pos 0)) (unwrap_or (most_permuted (x ∷ xs) (y ∷ ys) h i) (pos 0))

exceed_same : (thresholds xs ys : List ℤ) → IsPermutation xs ys → exceed_line thresholds xs ≡ exceed_line thresholds ys
unfolding exceed_line
exceed_same thresholds xs ys h = λ i. exceed_words (map (λ threshold. above_permuted threshold xs ys h i) thresholds)

pub spread_same : (j : ℕ) (xs ys : List (List ℤ)) → IsPermutation xs ys → spread_top (column j xs) ≡ spread_top (column j ys)
spread_same j xs ys h = ap unsigned_abs (covariance_permuted j j xs ys h)

correlation_same : (i j : ℕ) (xs ys : List (List ℤ)) → IsPermutation xs ys → correlation (column i xs) (column j xs) ≡ correlation (column i ys) (column j ys)
correlation_same i j xs ys h = λ t. rho6 (covariance_permuted i j xs ys h t) (spread_same i xs ys h t) (spread_same j xs ys h t)

pub first_same : (k : ℕ) (xs ys : List (List ℤ)) → IsPermutation xs ys → first_index k xs ≡ first_index k ys
first_same k xs ys h = correlation_same 1 (2 + k) xs ys h

pub total_same : (k : ℕ) (xs ys : List (List ℤ)) → IsPermutation xs ys → total_index k xs ≡ total_index k ys
total_same k xs ys h = ap (option_map (λ r. pos 1000000 -ℤ r)) (correlation_same 0 (2 + k) xs ys h)

sobol_same : (k : ℕ) (parameter : Parameter) (xs ys : List (List ℤ)) → IsPermutation xs ys → sobol_line k parameter xs ≡ sobol_line k parameter ys
unfolding sobol_line
sobol_same k parameter xs ys h = λ i. sobol_words parameter.name (first_same k xs ys h i) (total_same k xs ys h i) (covariance_permuted 1 (2 + k) xs ys h i) (covariance_permuted 0 (2 + k) xs ys h i) (spread_same 0 xs ys h i) (spread_same 1 xs ys h i) (spread_same (2 + k) xs ys h i)

sobol_lines_same : (study : Study) (xs ys : List (List ℤ)) → IsPermutation xs ys → sobol_lines study xs ≡ sobol_lines study ys
unfolding sobol_lines
sobol_lines_same study xs ys h = λ i. flat_map (λ (p : ℕ × Parameter). sobol_same p.0 p.1 xs ys h i) (enumerate_from 0 study.parameters)

power_lines_same : (study : Study) (xs ys : List (List ℤ)) → IsPermutation xs ys → power_lines study xs ≡ power_lines study ys
unfolding power_lines
power_lines_same study xs ys h =
    let same = outputs_permuted xs ys h in
    λ i. cond (shows study Power) (power_same (outputs xs) (outputs ys) same i ++ (variance_same (outputs xs) (outputs ys) same i ++ third_same (outputs xs) (outputs ys) same i)) []

extrema_lines_same : (study : Study) (xs ys : List (List ℤ)) → IsPermutation xs ys → extrema_lines study xs ≡ extrema_lines study ys
unfolding extrema_lines
extrema_lines_same study xs ys h = λ i. cond (shows study Extrema) (extrema_same (outputs xs) (outputs ys) (outputs_permuted xs ys h) i) []

exceed_lines_same : (study : Study) (xs ys : List (List ℤ)) → IsPermutation xs ys → exceed_lines study xs ≡ exceed_lines study ys
unfolding exceed_lines
exceed_lines_same study xs ys h = λ i. cond (shows study Exceed && nat_lt 0 (length study.sizes.thresholds)) (exceed_same (threshold_values study) (outputs xs) (outputs ys) (outputs_permuted xs ys h) i) []

index_lines_same : (study : Study) (xs ys : List (List ℤ)) → IsPermutation xs ys → index_lines study xs ≡ index_lines study ys
unfolding index_lines
index_lines_same study xs ys h = λ i. cond (shows study Sobol) (sobol_lines_same study xs ys h i) []

-- all that is said of a cell
pub cell_same : (study : Study) (step field x : ℕ) (xs ys : List (List ℤ)) → IsPermutation xs ys → cell_text study step field x xs ≡ cell_text study step field x ys
unfolding cell_text
cell_same study step field x xs ys h = λ i. step_line study step field x (length_permuted xs ys h i) ++ (power_lines_same study xs ys h i ++ (extrema_lines_same study xs ys h i ++ (exceed_lines_same study xs ys h i ++ index_lines_same study xs ys h i)))
