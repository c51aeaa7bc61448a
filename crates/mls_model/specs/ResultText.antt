-- The result text, as a function of study, lanes and schedule.
use Rattle.std.specs.Prelude.{ℕ, ◌+◌, ◌-◌, ◌*◌, ◌/◌, ◌%◌, ◌&&◌, cond, List, [], ◌∷◌, ◌++◌, length, map, ℤ, pos, negsuc, Option, Some, None, nat_lt, codes, decimal, flat_map, unsigned_abs, unwrap_or}
use Rattle.std.specs.Fmt.{signed_decimal}
use Rattle.std.specs.List.{enumerate_from}
use Rattle.mls_model.specs.declared.lanes.LaneKind.{LaneKind}
use Rattle.mls_model.specs.declared.lanes.LaneKind.TheVariants.{Client, Control}
use Rattle.mls_model.specs.declared.lanes.LaneEnd.{LaneEnd}
use Rattle.mls_model.specs.declared.lanes.LaneEnd.TheVariants.{Clean, Cut, BadKind, BadLength, Fault, Full}
use Rattle.mls_model.specs.declared.lanes.LaneLine.{LaneLine}
use Rattle.mls_model.specs.declared.outcomes.Counts.{Counts}
use Rattle.mls_model.specs.declared.studies.Statistic.TheVariants.{Power, Extrema, Exceed, Sobol}
use Rattle.mls_model.specs.Numbers.{below, element, joined}
use Rattle.mls_model.specs.Studies.{Study, Sizes, Parameter, plane_of, shows}
use Rattle.mls_model.specs.Blocks.{rank_of}
use Rattle.mls_model.specs.Frames.{Piece}
use Rattle.mls_model.specs.Samples.{unshifted}
use Rattle.mls_model.specs.Lanes.{Lane, line_of}
use Rattle.mls_model.specs.Histories.{LaneEvent, history}
use Rattle.mls_model.specs.Survival.{surviving}
use Rattle.mls_model.specs.Fitting.{fitting}
use Rattle.mls_model.specs.Outcomes.{counts}
use Rattle.mls_model.specs.AcceptedRows.{rows}
use Rattle.mls_model.specs.Statistics.{column, outputs, total, squares, cubes, fourths, variance_top, third_top, least, most, above, covariance_top, spread_top}
use Rattle.mls_model.specs.Indices.{first_index, total_index}

-- melissa-result 1
abbrev pub title : List ℕ
title = codes "melissa-result 1\n"

-- the number of fields, said where the study names them
abbrev pub fields_words : Study → List ℕ
fields_words study = elim study.field_names [ None ↦ [] | Some names ↦ joined (codes " fields " ∷ decimal study.sizes.fields ∷ []) ]

-- study cells C steps T groups G parameters P ranks R clients K
unfoldable pub study_line : Study → List ℕ
study_line study = joined (codes "study cells " ∷ decimal study.sizes.cells ∷ codes " steps " ∷ decimal study.sizes.steps ∷ codes " groups " ∷ decimal study.sizes.groups ∷ codes " parameters " ∷ decimal study.sizes.parameters ∷ codes " ranks " ∷ decimal study.sizes.ranks ∷ codes " clients " ∷ decimal study.sizes.clients ∷ fields_words study ∷ codes "\n" ∷ [])

-- rank r accepted a kept k replay p stale s repeated q foreign f1 f2 f3 f4 f5 f6
unfoldable pub rank_line : ℕ → Counts → List ℕ
rank_line r n = joined (codes "rank " ∷ decimal r ∷ codes " accepted " ∷ decimal n.accepted ∷ codes " kept " ∷ decimal n.kept ∷ codes " replay " ∷ decimal n.replay ∷ codes " stale " ∷ decimal n.stale ∷ codes " repeated " ∷ decimal n.repeated ∷ codes " foreign " ∷ decimal n.f1 ∷ codes " " ∷ decimal n.f2 ∷ codes " " ∷ decimal n.f3 ∷ codes " " ∷ decimal n.f4 ∷ codes " " ∷ decimal n.f5 ∷ codes " " ∷ decimal n.f6 ∷ codes "\n" ∷ [])

unfoldable pub rank_lines : List Counts → List ℕ
rank_lines all = flat_map (λ (p : ℕ × Counts). rank_line p.0 p.1) (enumerate_from 0 all)

abbrev pub kind_word : LaneKind → List ℕ
kind_word Client = codes "client"
kind_word Control = codes "control"

abbrev pub end_words : LaneEnd → List ℕ
end_words Clean = codes "clean"
end_words (Cut at) = codes "cut at " ++ decimal at
end_words (BadKind at) = codes "bad-kind at " ++ decimal at
end_words (BadLength at) = codes "bad-length at " ++ decimal at
end_words (Fault at) = codes "fault at " ++ decimal at
end_words (Full at) = codes "full at " ++ decimal at

-- lane k rank r KIND events e END
unfoldable pub lane_line : LaneLine → List ℕ
lane_line l = joined (codes "lane " ∷ decimal l.lane ∷ codes " rank " ∷ decimal l.rank ∷ codes " " ∷ kind_word l.kind ∷ codes " events " ∷ decimal l.events ∷ codes " " ∷ end_words l.end ∷ codes "\n" ∷ [])

unfoldable pub lane_lines : List LaneLine → List ℕ
lane_lines lines = flat_map lane_line lines

-- the name of a field, said where the study names them
abbrev pub field_words : Study → ℕ → List ℕ
field_words study field = elim study.field_names [ None ↦ [] | Some names ↦ joined (codes " field " ∷ unwrap_or (element names field) [] ∷ []) ]

-- step t cell x groups n, or step t field NAME cell x groups n
unfoldable pub step_line : Study → ℕ → ℕ → ℕ → ℕ → List ℕ
step_line study step field x n = joined (codes "step " ∷ decimal step ∷ field_words study field ∷ codes " cell " ∷ decimal x ∷ codes " groups " ∷ decimal n ∷ codes "\n" ∷ [])

-- power P1 P2 P3 P4
abbrev pub power_words : ℤ → ℤ → ℤ → ℤ → List ℕ
power_words p1 p2 p3 p4 = joined (codes "power " ∷ signed_decimal p1 ∷ codes " " ∷ signed_decimal p2 ∷ codes " " ∷ signed_decimal p3 ∷ codes " " ∷ signed_decimal p4 ∷ codes "\n" ∷ [])

-- of values, or power -
unfoldable pub power_line : List ℤ → List ℕ
power_line [] = codes "power -\n"
power_line (w ∷ ws) = power_words (total (w ∷ ws)) (squares (w ∷ ws)) (cubes (w ∷ ws)) (fourths (w ∷ ws))

-- variance V/D of N values, with D = N · (N − 1)
abbrev pub variance_words : ℤ → ℕ → List ℕ
variance_words top n = joined (codes "variance " ∷ signed_decimal top ∷ codes "/" ∷ decimal (n * (n - 1)) ∷ codes "\n" ∷ [])

-- of values, or variance -
unfoldable pub variance_line : List ℤ → List ℕ
variance_line [] = codes "variance -\n"
variance_line (w ∷ ws) = variance_words (variance_top (w ∷ ws)) (length (w ∷ ws))

-- third U/E of N values, with E = N³
abbrev pub third_words : ℤ → ℕ → List ℕ
third_words top n = joined (codes "third " ∷ signed_decimal top ∷ codes "/" ∷ decimal (n * (n * n)) ∷ codes "\n" ∷ [])

-- of values, or third -
unfoldable pub third_line : List ℤ → List ℕ
third_line [] = codes "third -\n"
third_line (w ∷ ws) = third_words (third_top (w ∷ ws)) (length (w ∷ ws))

-- extrema LEAST GREATEST
abbrev pub extrema_words : ℤ → ℤ → List ℕ
extrema_words low high = joined (codes "extrema " ∷ signed_decimal low ∷ codes " " ∷ signed_decimal high ∷ codes "\n" ∷ [])

-- of values, or extrema -
unfoldable pub extrema_line : List ℤ → List ℕ
extrema_line [] = codes "extrema -\n"
extrema_line (w ∷ ws) = extrema_words (unwrap_or (least (w ∷ ws)) (pos 0)) (unwrap_or (most (w ∷ ws)) (pos 0))

-- exceed and the number above each threshold
unfoldable pub exceed_words : List ℕ → List ℕ
exceed_words numbers = joined (codes "exceed" ∷ flat_map (λ n. joined (codes " " ∷ decimal n ∷ [])) numbers ∷ codes "\n" ∷ [])

-- of values
unfoldable pub exceed_line : List ℤ → List ℤ → List ℕ
exceed_line thresholds ws = exceed_words (map (λ threshold. above threshold ws) thresholds)

-- n in six digits
abbrev pub six_digits : ℕ → List ℕ
six_digits n = (48 + (n / 100000) % 10) ∷ (48 + (n / 10000) % 10) ∷ (48 + (n / 1000) % 10) ∷ (48 + (n / 100) % 10) ∷ (48 + (n / 10) % 10) ∷ (48 + n % 10) ∷ []

abbrev pub sign_word : ℤ → List ℕ
sign_word (pos n) = []
sign_word (negsuc n) = codes "-"

-- a number of millionths: its sign, the whole part, a point and six digits
unfoldable pub millionths_words : ℤ → List ℕ
millionths_words m = joined (sign_word m ∷ decimal (unsigned_abs m / 1000000) ∷ codes "." ∷ six_digits (unsigned_abs m % 1000000) ∷ [])

abbrev pub index_words : Option ℤ → List ℕ
index_words None = codes "-"
index_words (Some m) = millionths_words m

-- sobol NAME FIRST TOTAL cB cA vA vB vC
abbrev pub sobol_words : List ℕ → Option ℤ → Option ℤ → ℤ → ℤ → ℕ → ℕ → ℕ → List ℕ
sobol_words name first rest cov_b cov_a var_a var_b var_c = joined (codes "sobol " ∷ name ∷ codes " " ∷ index_words first ∷ codes " " ∷ index_words rest ∷ codes " " ∷ signed_decimal cov_b ∷ codes " " ∷ signed_decimal cov_a ∷ codes " " ∷ decimal var_a ∷ codes " " ∷ decimal var_b ∷ codes " " ∷ decimal var_c ∷ codes "\n" ∷ [])

-- of a parameter, from rows of values
unfoldable pub sobol_line : ℕ → Parameter → List (List ℤ) → List ℕ
sobol_line k parameter rs = sobol_words parameter.name (first_index k rs) (total_index k rs) (covariance_top (column 1 rs) (column (2 + k) rs)) (covariance_top (column 0 rs) (column (2 + k) rs)) (spread_top (column 0 rs)) (spread_top (column 1 rs)) (spread_top (column (2 + k) rs))

unfoldable pub sobol_lines : Study → List (List ℤ) → List ℕ
sobol_lines study rs = flat_map (λ (p : ℕ × Parameter). sobol_line p.0 p.1 rs) (enumerate_from 0 study.parameters)

-- the thresholds as the study has them
abbrev pub threshold_values : Study → List ℤ
threshold_values study = map (unshifted study.sizes.signed) study.sizes.thresholds

unfoldable pub power_lines : Study → List (List ℤ) → List ℕ
power_lines study rs = cond (shows study Power) (power_line (outputs rs) ++ (variance_line (outputs rs) ++ third_line (outputs rs))) []

unfoldable pub extrema_lines : Study → List (List ℤ) → List ℕ
extrema_lines study rs = cond (shows study Extrema) (extrema_line (outputs rs)) []

unfoldable pub exceed_lines : Study → List (List ℤ) → List ℕ
exceed_lines study rs = cond (shows study Exceed && nat_lt 0 (length study.sizes.thresholds)) (exceed_line (threshold_values study) (outputs rs)) []

unfoldable pub index_lines : Study → List (List ℤ) → List ℕ
index_lines study rs = cond (shows study Sobol) (sobol_lines study rs) []

-- all that is said of a cell, from its rows
unfoldable pub cell_text : Study → ℕ → ℕ → ℕ → List (List ℤ) → List ℕ
cell_text study step field x rs = step_line study step field x (length rs) ++ (power_lines study rs ++ (extrema_lines study rs ++ (exceed_lines study rs ++ index_lines study rs)))

-- the texts of the cells of a step and field, in rising order
unfoldable pub field_text : Study → (ℕ → List ℕ) → List ℕ
field_text study cell = flat_map cell (below study.sizes.cells)

-- of the fields of a step
unfoldable pub step_text : Study → (ℕ → ℕ → List ℕ) → List ℕ
step_text study cell = flat_map (λ field. field_text study (cell field)) (below study.sizes.fields)

-- of all steps
unfoldable pub cells_text : Study → (ℕ → ℕ → ℕ → List ℕ) → List ℕ
cells_text study cell = flat_map (λ step. step_text study (cell step)) (below study.sizes.steps)

-- the whole text, from the ranks' counts, the lanes' lines and what is said of each step, field and cell
unfoldable pub whole_text : Study → List Counts → List LaneLine → (ℕ → ℕ → ℕ → List ℕ) → List ℕ
whole_text study all lines cell = title ++ (study_line study ++ (rank_lines all ++ (lane_lines lines ++ (cells_text study cell ++ codes "end\n"))))

-- what is said of a step, field and cell, from the rows of each plane and cell
abbrev pub rows_said : Study → (ℕ → ℕ → List (List ℤ)) → ℕ → ℕ → ℕ → List ℕ
rows_said study table step field x = cell_text study step field x (table (plane_of study.sizes step field) x)

-- the whole text, from the rows of each plane and cell
abbrev pub text_of : Study → List Counts → List LaneLine → (ℕ → ℕ → List (List ℤ)) → List ℕ
text_of study all lines table = whole_text study all lines (rows_said study table)

-- the fitting pieces that survive in a rank's history
abbrev pub pieces_of : Sizes → ℕ → List LaneEvent → List Piece
pieces_of s rank history = fitting s rank (surviving history)

-- the rows of a plane and cell, at the rank whose block holds the cell
abbrev pub history_rows : Sizes → (ℕ → List LaneEvent) → ℕ → ℕ → List (List ℤ)
history_rows s histories plane x = elim (rank_of s x) [ None ↦ [] | Some rank ↦ rows s rank plane x (pieces_of s rank (histories rank)) ]

abbrev pub history_counts : Sizes → (ℕ → List LaneEvent) → List Counts
history_counts s histories = map (λ rank. counts s rank (surviving (histories rank))) (below s.ranks)

-- the text of a study whose ranks have these histories, with these lane lines
unfoldable pub history_text : Study → (ℕ → List LaneEvent) → List LaneLine → List ℕ
history_text study histories lines = text_of study (history_counts study.sizes histories) lines (history_rows study.sizes histories)

-- a rank's list in a schedule, and its history
abbrev pub order_at : List (List ℕ) → ℕ → List ℕ
order_at orders rank = unwrap_or (element orders rank) []

abbrev pub histories_of : List Lane → List (List ℕ) → ℕ → List LaneEvent
histories_of lanes orders rank = history lanes (order_at orders rank)

unfoldable pub lines_of : List Lane → List LaneLine
lines_of lanes = map (λ (p : ℕ × Lane). line_of p.0 p.1) (enumerate_from 0 lanes)

-- The result text of a study, the lanes of a tape and a schedule.
unfoldable pub result_text : Study → List Lane → List (List ℕ) → List ℕ
result_text study lanes orders = history_text study (histories_of lanes orders) (lines_of lanes)
