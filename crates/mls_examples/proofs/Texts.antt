-- The result text over any way to find the millionths of an index.
use Rattle.std.specs.Prelude.{◌≡◌, ℕ, ◌+◌, ◌||◌, ◌==◌, cond, List, [], ◌∷◌, ◌++◌, length, Option, Some, None, ℤ, pos, ◌-ℤ◌, codes, decimal, flat_map, unsigned_abs}
use Rattle.std.specs.Fmt.{signed_decimal}
use Rattle.std.specs.List.{enumerate_from}
use Rattle.std.specs.Option.{option_map}
use Rattle.std.proofs.Common.{refl, ap, ◌∙◌}
use Rattle.mls_model.specs.declared.studies.Statistic.TheVariants.{Sobol}
use Rattle.mls_model.specs.declared.outcomes.Counts.{Counts}
use Rattle.mls_model.specs.declared.lanes.LaneLine.{LaneLine}
use Rattle.mls_model.specs.Numbers.{below, joined}
use Rattle.mls_model.specs.Studies.{Study, Parameter, plane_of, shows}
use Rattle.mls_model.specs.Lanes.{Lane}
use Rattle.mls_model.specs.Statistics.{column, covariance_top, spread_top}
use Rattle.mls_model.specs.Indices.{millionths, rho6, signed_as}
use Rattle.mls_model.specs.ResultText.{title, study_line, rank_lines, lane_lines, step_line, sobol_line, sobol_lines, index_lines, cell_text, field_text, step_text, cells_text, whole_text, lines_of, history_text, result_text, index_words, power_lines, extrema_lines, exceed_lines}
use Rattle.mls_examples.proofs.Indices.{millionths_sought, millionths_by_tests}
use Rattle.mls_examples.specs.Ranks.{counts_of, rows_of}

abbrev pub Finder : Type 0
Finder = ℕ → ℕ → ℕ → ℕ

abbrev pub rho_by : Finder → List ℤ → List ℤ → Option ℤ
rho_by find xs ys = cond ((spread_top xs == 0) || (spread_top ys == 0)) None (Some (signed_as (covariance_top xs ys) (find (unsigned_abs (covariance_top xs ys)) (spread_top xs) (spread_top ys))))

abbrev pub first_by : Finder → ℕ → List (List ℤ) → Option ℤ
first_by find k rows = rho_by find (column 1 rows) (column (2 + k) rows)

abbrev pub total_by : Finder → ℕ → List (List ℤ) → Option ℤ
total_by find k rows = option_map (λ r. pos 1000000 -ℤ r) (rho_by find (column 0 rows) (column (2 + k) rows))

abbrev pub sobol_by : Finder → ℕ → Parameter → List (List ℤ) → List ℕ
sobol_by find k parameter rs = joined (codes "sobol " ∷ parameter.name ∷ codes " " ∷ index_words (first_by find k rs) ∷ codes " " ∷ index_words (total_by find k rs) ∷ codes " " ∷ signed_decimal (covariance_top (column 1 rs) (column (2 + k) rs)) ∷ codes " " ∷ signed_decimal (covariance_top (column 0 rs) (column (2 + k) rs)) ∷ codes " " ∷ decimal (spread_top (column 0 rs)) ∷ codes " " ∷ decimal (spread_top (column 1 rs)) ∷ codes " " ∷ decimal (spread_top (column (2 + k) rs)) ∷ codes "\n" ∷ [])

abbrev pub index_lines_by : Finder → Study → List (List ℤ) → List ℕ
index_lines_by find study rs = cond (shows study Sobol) (flat_map (λ (p : ℕ × Parameter). sobol_by find p.0 p.1 rs) (enumerate_from 0 study.parameters)) []

abbrev pub cell_by : Finder → Study → ℕ → ℕ → ℕ → List (List ℤ) → List ℕ
cell_by find study step field x rs = step_line study step field x (length rs) ++ (power_lines study rs ++ (extrema_lines study rs ++ (exceed_lines study rs ++ index_lines_by find study rs)))

abbrev pub cells_by : Finder → Study → (ℕ → ℕ → List (List ℤ)) → List ℕ
cells_by find study table = flat_map (λ step. flat_map (λ field. flat_map (λ x. cell_by find study step field x (table (plane_of study.sizes step field) x)) (below study.sizes.cells)) (below study.sizes.fields)) (below study.sizes.steps)

abbrev pub text_by : Finder → Study → List Counts → List LaneLine → (ℕ → ℕ → List (List ℤ)) → List ℕ
text_by find study all lines table = title ++ (study_line study ++ (rank_lines all ++ (lane_lines lines ++ (cells_by find study table ++ codes "end\n"))))

abbrev pub result_by : Finder → Study → List Lane → List (List ℕ) → List ℕ
result_by find study lanes orders = text_by find study (counts_of study lanes orders) (lines_of lanes) (rows_of study lanes orders)

by_millionths : (study : Study) (lanes : List Lane) (orders : List (List ℕ)) → result_text study lanes orders ≡ result_by millionths study lanes orders
unfolding sobol_line sobol_lines index_lines cell_text field_text step_text cells_text whole_text rho6 history_text result_text
by_millionths study lanes orders = refl

pub by_tests : (study : Study) (lanes : List Lane) (orders : List (List ℕ)) → result_text study lanes orders ≡ result_by millionths_sought study lanes orders
by_tests study lanes orders = by_millionths study lanes orders ∙ ap (λ find. result_by find study lanes orders) millionths_by_tests
