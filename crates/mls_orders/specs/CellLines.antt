-- The rows that a tape gives, and the lines that are printed of them.
use Rattle.std.specs.Prelude.{ℕ, ◌-◌, ◌&&◌, Bool, List, [], ◌++◌, ◌==◌, Some, None, codes}
use Rattle.std.specs.List.{find}
use Rattle.mls_model.specs.Studies.{Study, Sizes}
use Rattle.mls_model.specs.Blocks.{client_of}
use Rattle.mls_model.specs.Frames.{Piece}
use Rattle.mls_model.specs.declared.lanes.LaneLine.{LaneLine}
use Rattle.mls_model.specs.Lanes.{Lane}
use Rattle.mls_model.specs.Histories.{LaneEvent}
use Rattle.mls_model.specs.Schedules.{plain}
use Rattle.mls_model.specs.Completion.{Key, is_of_key}
use Rattle.mls_model.specs.AcceptedRows.{samples_at}
use Rattle.mls_model.specs.ResultText.{title, study_line, rank_lines, lane_lines, cells_text, rows_said, history_rows, history_counts, histories_of, lines_of}

-- a piece of the key from this client, whatever its life
abbrev pub is_from : Key → ℕ → Piece → Bool
is_from key client p = is_of_key key p && (p.client == client)

-- the samples of a cell in the first piece of a key from a client
abbrev pub part_row : Key → ℕ → ℕ → List Piece → List ℕ
part_row key x client pieces = elim (find (is_from key client) pieces) [ None ↦ [] | Some q ↦ samples_at q (x - q.first) ]

-- the samples of a cell and group of a plane, from the client whose part holds the cell
unfoldable pub group_row : Sizes → ℕ → ℕ → List Piece → ℕ → List ℕ
group_row s plane x pieces group = elim (client_of s x) [ None ↦ [] | Some client ↦ part_row (record { group = group; plane = plane }) x client pieces ]

-- the step and cell lines of the result text
unfoldable pub cell_lines : Study → (ℕ → List LaneEvent) → List ℕ
cell_lines study histories = cells_text study (rows_said study (history_rows study.sizes histories))

-- the lines before them
unfoldable pub first_lines : Study → (ℕ → List LaneEvent) → List LaneLine → List ℕ
first_lines study histories lines = title ++ (study_line study ++ (rank_lines (history_counts study.sizes histories) ++ lane_lines lines))

-- the lines of a schedule's result text before the step and cell lines, the step and cell lines of the plain schedule, and the
-- line `end`
unfoldable pub text_with_plain_lines : Study → List Lane → List (List ℕ) → List ℕ
text_with_plain_lines study lanes orders = first_lines study (histories_of lanes orders) (lines_of lanes) ++ (cell_lines study (histories_of lanes (plain study.sizes.ranks lanes)) ++ codes "end\n")
