-- What is said of samples that are all the same.
use Rattle.std.specs.Prelude.{◌≡◌, ℕ, zero, suc, ◌+◌, List, [], ◌∷◌, ◌++◌, cond, replicate, ℤ, pos, ◌+ℤ◌, ◌-ℤ◌, ◌*ℤ◌, int_div, unsigned_abs, flat_map, codes, decimal}
use Rattle.std.specs.List.{enumerate_from}
use Rattle.std.specs.Option.{option_map}
use Rattle.std.specs.Fmt.{signed_decimal}
use Rattle.std.proofs.Common.{refl, sym, ap, ◌∙◌, arith}
use Rattle.std.proofs.Math.IntN.{zero-*ℤ, *ℤ-zero, suc_ℤ-*ℤ, +ℤ_comm, +ℤ_invr}
use Rattle.std.proofs.lemmas.List.{length-replicate}
use Rattle.mls_model.specs.Numbers.{sum_ints, square, cube, joined}
use Rattle.mls_model.specs.Statistics.{outputs, column, entry, deviation, size, sum_pairs, variance_top, third_top, covariance_top}
use Rattle.mls_model.specs.declared.studies.Statistic.TheVariants.{Power, Sobol}
use Rattle.mls_model.specs.Studies.{Study, Parameter, shows}
use Rattle.mls_model.specs.Indices.{rho6}
use Rattle.mls_model.specs.ResultText.{power_words, variance_words, third_words, power_line, variance_line, third_line, step_line, power_lines, extrema_lines, exceed_lines, index_lines, sobol_line, sobol_lines, index_words, cell_text}

once_more : (n : ℕ) (z : ℤ) → z +ℤ (pos n *ℤ z) ≡ pos (suc n) *ℤ z
once_more n z = +ℤ_comm z (pos n *ℤ z) ∙ sym (suc_ℤ-*ℤ (pos n) z)

sum_of_equal : {A : Type 0} (f : A → ℤ) (n : ℕ) (x : A) → sum_ints f (replicate n x) ≡ pos n *ℤ f x
sum_of_equal f zero x = sym (zero-*ℤ (f x))
sum_of_equal f (suc n) x = ap (λ z. f x +ℤ z) (sum_of_equal f n x) ∙ once_more n (f x)

pairs_of_equal : (f : ℤ → ℤ → ℤ) (n : ℕ) (x y : ℤ) → sum_pairs f (replicate n x) (replicate n y) ≡ pos n *ℤ f x y
pairs_of_equal f zero x y = sym (zero-*ℤ (f x y))
pairs_of_equal f (suc n) x y = ap (λ z. f x y +ℤ z) (pairs_of_equal f n x y) ∙ once_more n (f x y)

pub outputs_of_equal : (n : ℕ) (w : ℤ) → outputs (replicate n (w ∷ w ∷ w ∷ [])) ≡ replicate (n + n) w
outputs_of_equal zero w = refl
outputs_of_equal (suc n) w = ap (λ ws. w ∷ w ∷ ws) (outputs_of_equal n w) ∙ ap (λ k. replicate k w) (double n)
  where
    double : (n : ℕ) → suc (suc (n + n)) ≡ suc n + suc n
    double n = omega arith

size_of_equal : (n : ℕ) (w : ℤ) → size (replicate n w) ≡ pos n
size_of_equal n w = ap pos (length-replicate n w)

no_deviation : (n : ℕ) (w : ℤ) → deviation (replicate n w) w ≡ pos 0
no_deviation n w = (λ i. (size_of_equal n w i *ℤ w) -ℤ sum_of_equal (λ v. v) n w i) ∙ +ℤ_invr (pos n *ℤ w)

pub power_of_equal : (n : ℕ) (w : ℤ) → power_line (replicate (suc n) w) ≡ power_words (pos (suc n) *ℤ w) (pos (suc n) *ℤ square w) (pos (suc n) *ℤ cube w) (pos (suc n) *ℤ square (square w))
unfolding power_line
power_of_equal n w = λ i. power_words (sum_of_equal (λ v. v) (suc n) w i) (sum_of_equal square (suc n) w i) (sum_of_equal cube (suc n) w i) (sum_of_equal (λ v. square (square v)) (suc n) w i)

-- a sum over the deviations' squares or cubes
none_from_deviations : (f : ℤ → ℤ) (n : ℕ) (w : ℤ) → f (pos 0) ≡ pos 0 → sum_ints (λ v. f (deviation (replicate n w) v)) (replicate n w) ≡ pos 0
none_from_deviations f n w none = sum_of_equal (λ v. f (deviation (replicate n w) v)) n w ∙ ap (λ z. pos n *ℤ f z) (no_deviation n w) ∙ ap (λ z. pos n *ℤ z) none ∙ *ℤ-zero (pos n)

pub variance_of_equal : (n : ℕ) (w : ℤ) → variance_line (replicate (suc n) w) ≡ variance_words (int_div (pos 0) (pos (suc n))) (suc n)
unfolding variance_line variance_top
variance_of_equal n w = λ i. variance_words (int_div (none_from_deviations square (suc n) w refl i) (size_of_equal (suc n) w i)) (length-replicate (suc n) w i)

pub third_of_equal : (n : ℕ) (w : ℤ) → third_line (replicate (suc n) w) ≡ third_words (int_div (pos 0) (pos (suc n))) (suc n)
unfolding third_line third_top
third_of_equal n w = λ i. third_words (int_div (none_from_deviations cube (suc n) w refl i) (size_of_equal (suc n) w i)) (length-replicate (suc n) w i)

pub column_of_equal : (j : ℕ) (n : ℕ) (row : List ℤ) → column j (replicate n row) ≡ replicate n (entry j row)
column_of_equal j zero row = refl
column_of_equal j (suc n) row = ap (λ ws. entry j row ∷ ws) (column_of_equal j n row)

pub covariance_of_equal : (n : ℕ) (x y : ℤ) → covariance_top (replicate n x) (replicate n y) ≡ int_div (pos 0) (pos n)
unfolding covariance_top
covariance_of_equal n x y = λ i. int_div ((pairs_of_equal (λ a b. deviation (replicate n x) a *ℤ deviation (replicate n y) b) n x y ∙ (λ j. pos n *ℤ (no_deviation n x j *ℤ no_deviation n y j)) ∙ *ℤ-zero (pos n)) i) (size_of_equal n x i)

no_covariance : (j k n : ℕ) (row : List ℤ) → covariance_top (column j (replicate n row)) (column k (replicate n row)) ≡ int_div (pos 0) (pos n)
no_covariance j k n row = (λ i. covariance_top (column_of_equal j n row i) (column_of_equal k n row i)) ∙ covariance_of_equal n (entry j row) (entry k row)

abbrev pub sobol_words : List ℕ → ℤ → ℤ → ℤ → ℤ → ℤ → List ℕ
sobol_words name cb ca va vb vc = joined (codes "sobol " ∷ name ∷ codes " " ∷ index_words (rho6 cb (unsigned_abs vb) (unsigned_abs vc)) ∷ codes " " ∷ index_words (option_map (λ r. pos 1000000 -ℤ r) (rho6 ca (unsigned_abs va) (unsigned_abs vc))) ∷ codes " " ∷ signed_decimal cb ∷ codes " " ∷ signed_decimal ca ∷ codes " " ∷ decimal (unsigned_abs va) ∷ codes " " ∷ decimal (unsigned_abs vb) ∷ codes " " ∷ decimal (unsigned_abs vc) ∷ codes "\n" ∷ [])

pub sobol_of_equal : (k n : ℕ) (parameter : Parameter) (row : List ℤ) → sobol_line k parameter (replicate n row) ≡ sobol_words parameter.name (int_div (pos 0) (pos n)) (int_div (pos 0) (pos n)) (int_div (pos 0) (pos n)) (int_div (pos 0) (pos n)) (int_div (pos 0) (pos n))
unfolding sobol_line
sobol_of_equal k n parameter row = λ i. sobol_words parameter.name (no_covariance 1 (2 + k) n row i) (no_covariance 0 (2 + k) n row i) (no_covariance 0 0 n row i) (no_covariance 1 1 n row i) (no_covariance (2 + k) (2 + k) n row i)

-- what is said of a cell whose rows are all the same
pub cell_of_equal : (study : Study) (n : ℕ) (w : ℤ) → cell_text study 0 0 0 (replicate (suc n) (w ∷ w ∷ w ∷ []))
    ≡ step_line study 0 0 0 (suc n)
    ++ (cond (shows study Power) (power_words (pos (suc (suc (n + n))) *ℤ w) (pos (suc (suc (n + n))) *ℤ square w) (pos (suc (suc (n + n))) *ℤ cube w) (pos (suc (suc (n + n))) *ℤ square (square w))
    ++ (variance_words (int_div (pos 0) (pos (suc (suc (n + n))))) (suc (suc (n + n))) ++ third_words (int_div (pos 0) (pos (suc (suc (n + n))))) (suc (suc (n + n))))) []
    ++ (extrema_lines study (replicate (suc n) (w ∷ w ∷ w ∷ [])) ++ (exceed_lines study (replicate (suc n) (w ∷ w ∷ w ∷ [])) ++ cond (shows study Sobol) (flat_map (λ (p : ℕ × Parameter). sobol_words p.1.name (int_div (pos 0) (pos (suc n))) (int_div (pos 0) (pos (suc n))) (int_div (pos 0) (pos (suc n))) (int_div (pos 0) (pos (suc n))) (int_div (pos 0) (pos (suc n)))) (enumerate_from 0 study.parameters)) [])))
unfolding cell_text power_lines index_lines sobol_lines
cell_of_equal study n w =
    λ i. step_line study 0 0 0 (length-replicate (suc n) (w ∷ w ∷ w ∷ []) i)
    ++ (cond (shows study Power) ((ap power_line (doubled n w) ∙ power_of_equal (suc (n + n)) w) i ++ ((ap variance_line (doubled n w) ∙ variance_of_equal (suc (n + n)) w) i ++ (ap third_line (doubled n w) ∙ third_of_equal (suc (n + n)) w) i)) []
    ++ (extrema_lines study (replicate (suc n) (w ∷ w ∷ w ∷ [])) ++ (exceed_lines study (replicate (suc n) (w ∷ w ∷ w ∷ [])) ++ cond (shows study Sobol) (flat_map (λ (p : ℕ × Parameter). sobol_of_equal p.0 (suc n) p.1 (w ∷ w ∷ w ∷ []) i) (enumerate_from 0 study.parameters)) [])))
  where
    doubled : (n : ℕ) (w : ℤ) → outputs (replicate (suc n) (w ∷ w ∷ w ∷ [])) ≡ replicate (suc (suc (n + n))) w
    doubled n w = ap (λ ws. w ∷ w ∷ ws) (outputs_of_equal n w)
