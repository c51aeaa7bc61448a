-- What is said from the sums of rows is what is said from the rows.
use Rattle.std.proofs.Common.{◌≡◌, ℕ, ◌+◌, ◌*◌, ◌<◌, List, [], ◌∷◌, ◌++◌, length, map, get_or, Bool, false, cond, refl, sym, ◌∙◌, ap, arith}
use Rattle.std.specs.Prelude.{ℤ, pos, ◌-ℤ◌, ◌&&◌, nat_lt, unsigned_abs, unwrap_or}
use Rattle.std.specs.List.{AllByRecursion, flat_map, enumerate_from}
use Rattle.std.specs.Option.{option_map}
use Rattle.std.proofs.lemmas.List.{length-map}
use Rattle.std.proofs.lemmas.Bool.{ne_eqb, cond-false}
use Rattle.mls_model.specs.declared.studies.Statistic.TheVariants.{Power, Extrema, Exceed, Sobol}
use Rattle.mls_model.specs.Studies.{Study, Parameter, shows}
use Rattle.mls_model.specs.Samples.{unshifted}
use Rattle.mls_model.specs.Statistics.{outputs, above, least, most, total, squares, cubes, fourths, variance_top, third_top}
use Rattle.mls_model.specs.Indices.{rho6}
use Rattle.mls_model.specs.CellSums.{both, sums_of}
use Rattle.mls_model.specs.SumsText.{samples, sums_powers, sums_extrema, sums_sobol, sums_indices, sums_statistics, sums_text}
use Rattle.mls_model.specs.ResultText.{step_line, power_line, variance_line, third_line, extrema_line, exceed_words, exceed_line, sobol_words, sobol_line, sobol_lines, power_lines, extrema_lines, exceed_lines, index_lines, cell_text}
use Rattle.mls_power.proofs.Bounds.{variance_from, third_from}
use Rattle.mls_power.proofs.Counted.{above-map}
use Rattle.mls_power.proofs.Least.{least_is, most_is, least_of_some, most_of_some}
use Rattle.mls_power.proofs.Lowered.{value_sums}
use Rattle.mls_power.proofs.Translates.{variance_shifted, third_shifted}
use Rattle.mls_cov.specs.Sums.{HoldsSums}
use Rattle.mls_cov.proofs.Parts.{read_covariance, read_variance}
use Rattle.mls_cov.proofs.Schwarz.{bounded_all}
use Rattle.mls_field.proofs.Rows.{length-shifted_outputs, outputs_are}
use Rattle.mls_field.proofs.Kept.{holds_products}
use Rattle.mls_result.proofs.Ends.{ends_are, ends_of_some}
use Rattle.mls_result.proofs.Powers.{length-outputs, power_line-some, variance_line-some, third_line-some}
use Rattle.mls_result.specs.Words.{power_words, variance_words, third_words}

-- the rows of values of rows of shifted values
abbrev pub values : Bool → List (List ℕ) → List (List ℤ)
values signed rows = map (map (unshifted signed)) rows

abbrev Whole : ℕ → List (List ℕ) → Type 0
Whole p rows = AllByRecursion (λ row. length row ≡ p + 2) rows

-- ---- power lines
lines_of_values : (signed : Bool) (p : ℕ) (thresholds : List ℕ) (rows : List (List ℕ)) → 0 < length rows → Whole p rows → let c = sums_of p thresholds rows in sums_powers signed c ≡ power_line (outputs (values signed rows)) ++ (variance_line (outputs (values signed rows)) ++ third_line (outputs (values signed rows)))
unfolding sums_powers power_words variance_words third_words
lines_of_values signed p thresholds every some all =
    let c = sums_of p thresholds every in
    let n = samples c in
    let samples_of = both every in
    let vs = outputs (values signed every) in
    let ws = map (unshifted signed) samples_of in
    let same : vs ≡ ws = outputs_are signed p every all in
    let long : length samples_of ≡ n = length-shifted_outputs every in
    let counted : length vs ≡ n = length-outputs (values signed every) ∙ ap (λ k. 2 * k) (length-map every (map (unshifted signed))) in
    let there : 0 < length vs = omega (arith, counted) in
    let sums = value_sums signed n c.p1 c.p2 c.p3 c.p4 samples_of (record { count = sym long; first = refl; second = refl; third = refl; fourth = refl }) in
    let variance = variance_from n c.p1 c.p2 samples_of (sym long) refl refl ∙ sym (variance_shifted signed samples_of) ∙ ap variance_top (sym same) in
    let third = third_from n c.p1 c.p2 c.p3 samples_of (sym long) refl refl refl ∙ sym (third_shifted signed samples_of) ∙ ap third_top (sym same) in
    let first_line = (λ i. power_words (sums.first i) (sums.second i) (sums.third i) (sums.fourth i)) ∙ ap (λ us. power_words (total us) (squares us) (cubes us) (fourths us)) (sym same) ∙ sym (power_line-some vs there) in
    let second_line = (λ i. variance_words (variance i) n) ∙ ap (variance_words (variance_top vs)) (sym counted) ∙ sym (variance_line-some vs there) in
    let last_line = (λ i. third_words (third i) n) ∙ ap (third_words (third_top vs)) (sym counted) ∙ sym (third_line-some vs there) in
    cond-false _ _ _ (ne_eqb c.rows 0 (λ none. absurd (omega (arith, none, some))))
    ∙ (λ i. first_line i ++ (second_line i ++ last_line i))

powers_said : (signed : Bool) (p : ℕ) (thresholds : List ℕ) (rows : List (List ℕ)) → Whole p rows → sums_powers signed (sums_of p thresholds rows) ≡ power_line (outputs (values signed rows)) ++ (variance_line (outputs (values signed rows)) ++ third_line (outputs (values signed rows)))
unfolding sums_powers
powers_said signed p thresholds [] all = refl
powers_said signed p thresholds (row ∷ rows) all = lines_of_values signed p thresholds (row ∷ rows) (omega arith) all

-- ---- extrema lines
extrema_said : (signed : Bool) (p : ℕ) (thresholds : List ℕ) (rows : List (List ℕ)) → Whole p rows → sums_extrema signed (sums_of p thresholds rows) ≡ extrema_line (outputs (values signed rows))
unfolding sums_extrema
extrema_said signed p thresholds [] all = refl
extrema_said signed p thresholds (row ∷ rows) all =
    let every = row ∷ rows in
    let c = sums_of p thresholds every in
    let samples_of = both every in
    let vs = outputs (values signed every) in
    let some : 0 < length samples_of = omega (arith, length-shifted_outputs every) in
    let some_values : 0 < length vs = omega (arith, length-outputs (values signed every), length-map every (map (unshifted signed))) in
    let low : pos c.least ≡ unwrap_or (least (map pos samples_of)) (pos 65535) = ap (λ z. pos (unsigned_abs z)) (least_is samples_of) ∙ sym (least_is samples_of) in
    let high : pos c.greatest ≡ unwrap_or (most (map pos samples_of)) (pos 0) = ap (λ z. pos (unsigned_abs z)) (most_is samples_of) ∙ sym (most_is samples_of) in
    ends_of_some signed c (omega arith)
    ∙ sym (ends_are vs (map (unshifted signed) samples_of) (unshifted signed c.least) (unshifted signed c.greatest) (outputs_are signed p every all) some_values (least_of_some c.least signed samples_of some low) (most_of_some c.greatest signed samples_of some high))

-- ---- exceed lines
counts_above : (signed : Bool) (ws thresholds : List ℕ) → map (λ threshold. above (pos threshold) (map pos ws)) thresholds ≡ map (λ threshold. above threshold (map (unshifted signed) ws)) (map (unshifted signed) thresholds)
counts_above signed ws [] = refl
counts_above signed ws (t ∷ ts) = λ i. (above-map false t ws ∙ sym (above-map signed t ws)) i ∷ counts_above signed ws ts i

exceed_said : (signed : Bool) (p : ℕ) (thresholds : List ℕ) (rows : List (List ℕ)) → Whole p rows → exceed_words (sums_of p thresholds rows).above ≡ exceed_line (map (unshifted signed) thresholds) (outputs (values signed rows))
unfolding exceed_line
exceed_said signed p thresholds rows all =
    ap exceed_words (counts_above signed (both rows) thresholds ∙ ap (λ vs. map (λ threshold. above threshold vs) (map (unshifted signed) thresholds)) (sym (outputs_are signed p rows all)))

-- ---- Sobol lines
module _ (signed : Bool) (p : ℕ) (thresholds : List ℕ) (rows : List (List ℕ)) (all : Whole p rows) where
  holds : HoldsSums p (sums_of p thresholds rows).products rows
  holds = holds_products p rows all

  line_said : (k : ℕ) (parameter : Parameter) → k < p → sums_sobol (sums_of p thresholds rows) k parameter ≡ sobol_line k parameter (values signed rows)
  unfolding sums_sobol sobol_line
  line_said k parameter in_p =
      let n = length rows in
      let own = holds.columns k in_p in
      let at_c : 2 + k < p + 2 = omega (arith, in_p) in
      let spread_a = (bounded_all rows (λ (row : List ℕ). get_or row 0 0) (λ row. get_or row 1 0)).left in
      let spread_b = (bounded_all rows (λ (row : List ℕ). get_or row 1 0) (λ row. get_or row 0 0)).left in
      let spread_c = (bounded_all rows (λ (row : List ℕ). get_or row (2 + k) 0) (λ row. get_or row 0 0)).left in
      let cb = read_covariance signed p n _ _ _ 1 (2 + k) rows all (omega arith) at_c refl holds.b own.first own.with_b in
      let ca = read_covariance signed p n _ _ _ 0 (2 + k) rows all (omega arith) at_c refl holds.a own.first own.with_a in
      let va = read_variance signed p n _ _ 0 rows all (omega arith) refl holds.a holds.aa spread_a in
      let vb = read_variance signed p n _ _ 1 rows all (omega arith) refl holds.b holds.bb spread_b in
      let vc = read_variance signed p n _ _ (2 + k) rows all at_c refl own.first own.second (rw (own.first, own.second) spread_c) in
      λ i. sobol_words parameter.name (rho6 (cb i) (vb i) (vc i)) (option_map (λ r. pos 1000000 -ℤ r) (rho6 (ca i) (va i) (vc i))) (cb i) (ca i) (va i) (vb i) (vc i)

  lines_said : (start : ℕ) (parameters : List Parameter) → start + length parameters ≡ p → flat_map (λ (q : ℕ × Parameter). sums_sobol (sums_of p thresholds rows) q.0 q.1) (enumerate_from start parameters) ≡ flat_map (λ (q : ℕ × Parameter). sobol_line q.0 q.1 (values signed rows)) (enumerate_from start parameters)
  lines_said start [] counted = refl
  lines_said start (parameter ∷ parameters) counted = λ i. line_said start parameter (omega (arith, counted)) i ++ lines_said (start + 1) parameters (omega (arith, counted)) i

-- ---- a cell
pub cell_said : (study : Study) (step field x : ℕ) (rows : List (List ℕ)) → length study.parameters ≡ study.sizes.parameters → Whole study.sizes.parameters rows → sums_text study step field x (sums_of study.sizes.parameters study.sizes.thresholds rows) ≡ cell_text study step field x (values study.sizes.signed rows)
unfolding cell_text power_lines extrema_lines exceed_lines index_lines sobol_lines sums_statistics sums_indices
cell_said study step field x rows counted all =
    let s = study.sizes in
    λ i. step_line study step field x (sym (length-map rows (map (unshifted s.signed))) i)
    ++ (cond (shows study Power) (powers_said s.signed s.parameters s.thresholds rows all i) []
    ++ (cond (shows study Extrema) (extrema_said s.signed s.parameters s.thresholds rows all i) []
    ++ (cond (shows study Exceed && nat_lt 0 (length s.thresholds)) (exceed_said s.signed s.parameters s.thresholds rows all i) []
    ++ cond (shows study Sobol) (lines_said s.signed s.parameters s.thresholds rows all 0 study.parameters (omega (arith, counted)) i) [])))
