-- The bins text, as a function of study, lanes and schedule.
use Rattle.std.specs.Prelude.{ℕ, ◌==◌, Bool, cond, List, [], ◌∷◌, ◌++◌, length, Option, Some, None, codes, decimal, flat_map}
use Rattle.std.specs.Fmt.{signed_decimal}
use Rattle.std.specs.List.{enumerate_from}
use Rattle.mls_model.specs.declared.lanes.LaneLine.{LaneLine}
use Rattle.mls_model.specs.declared.outcomes.Counts.{Counts}
use Rattle.mls_model.specs.Numbers.{joined}
use Rattle.mls_model.specs.Studies.{Study, Sizes, plane_of}
use Rattle.mls_model.specs.Blocks.{rank_of}
use Rattle.mls_model.specs.Samples.{unshifted}
use Rattle.mls_model.specs.Lanes.{Lane}
use Rattle.mls_model.specs.Histories.{LaneEvent}
use Rattle.mls_model.specs.CellSums.{both}
use Rattle.mls_model.specs.AcceptedRows.{shifted_rows}
use Rattle.mls_model.specs.ResultText.{study_line, rank_lines, lane_lines, step_line, cells_text, pieces_of, history_counts, histories_of, lines_of}
use Rattle.mls_hist.specs.Bins.{least_in, greatest_in, bins_of}
use Rattle.mls_hist.specs.Quartiles.{bracket}

-- melissa-bins 1
unfoldable pub bins_title : List ℕ
bins_title = codes "melissa-bins 1\n"

-- I:COUNT of a bin with a count
unfoldable pub bin_words : ℕ → ℕ → List ℕ
bin_words bin count = cond (count == 0) [] (joined (codes " " ∷ decimal bin ∷ codes ":" ∷ decimal count ∷ []))

unfoldable pub count_words : List ℕ → List ℕ
count_words counts = flat_map (λ (p : ℕ × ℕ). bin_words p.0 p.1) (enumerate_from 0 counts)

-- bins I:COUNT .., or bins - for no groups
unfoldable pub bins_line : ℕ → List ℕ → List ℕ
bins_line n counts = cond (n == 0) (codes "bins -\n") (joined (codes "bins" ∷ count_words counts ∷ codes "\n" ∷ []))

-- A..B, the least and the greatest value of a bin
unfoldable pub bracket_words : Bool → Option ℕ → List ℕ
bracket_words signed None = []
bracket_words signed (Some bin) = joined (codes " " ∷ signed_decimal (unshifted signed (least_in bin)) ∷ codes ".." ∷ signed_decimal (unshifted signed (greatest_in bin)) ∷ [])

-- quartiles A..B A..B A..B, or quartiles - for no groups
unfoldable pub quartiles_line : Bool → ℕ → (ℕ → Option ℕ) → List ℕ
quartiles_line signed n brackets = cond (n == 0) (codes "quartiles -\n") (joined (codes "quartiles" ∷ bracket_words signed (brackets 1) ∷ bracket_words signed (brackets 2) ∷ bracket_words signed (brackets 3) ∷ codes "\n" ∷ []))

-- what is said of a cell of n groups with these counts and brackets
unfoldable pub cell_bins : Study → ℕ → ℕ → ℕ → ℕ → List ℕ → (ℕ → Option ℕ) → List ℕ
cell_bins study step field x n counts brackets = step_line study step field x n ++ (bins_line n counts ++ quartiles_line study.sizes.signed n brackets)

-- the same from its rows of shifted values: W is the samples A and B of all rows
abbrev pub rows_bins : Study → ℕ → ℕ → ℕ → List (List ℕ) → List ℕ
rows_bins study step field x rows = cell_bins study step field x (length rows) (bins_of (both rows)) (bracket (both rows))

-- the whole text, from the ranks' counts, the lanes' lines and what is said of each step, field and cell
unfoldable pub whole_bins : Study → List Counts → List LaneLine → (ℕ → ℕ → ℕ → List ℕ) → List ℕ
whole_bins study all lines cell = bins_title ++ (study_line study ++ (rank_lines all ++ (lane_lines lines ++ (cells_text study cell ++ codes "end\n"))))

-- the rows of shifted values of a plane and cell, at the rank whose block holds the cell
abbrev pub history_shifted : Sizes → (ℕ → List LaneEvent) → ℕ → ℕ → List (List ℕ)
history_shifted s histories plane x = elim (rank_of s x) [ None ↦ [] | Some rank ↦ shifted_rows s rank plane x (pieces_of s rank (histories rank)) ]

-- the text of a study whose ranks have these histories, with these lane lines
unfoldable pub history_bins : Study → (ℕ → List LaneEvent) → List LaneLine → List ℕ
history_bins study histories lines = whole_bins study (history_counts study.sizes histories) lines (λ step field x. rows_bins study step field x (history_shifted study.sizes histories (plane_of study.sizes step field) x))

-- The bins text of a study, the lanes of a tape and a schedule.
unfoldable pub bins_text : Study → List Lane → List (List ℕ) → List ℕ
bins_text study lanes orders = history_bins study (histories_of lanes orders) (lines_of lanes)
