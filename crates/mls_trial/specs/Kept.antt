-- The summary of trial, from what the cores of a study keep.
use Rattle.std.specs.Prelude.{ℕ, List, ◌++◌, map, pos, ℤ, unwrap_or, unsigned_abs}
use Rattle.std.specs.List.{flat_map}
use Rattle.mls_model.specs.Numbers.{below, sum_ints}
use Rattle.mls_model.specs.Studies.{Study, Sizes, planes}
use Rattle.mls_model.specs.Lanes.{Lane}
use Rattle.mls_model.specs.CellSums.{CellSums}
use Rattle.mls_model.specs.SumsText.{height, first_power, second_power}
use Rattle.mls_model.specs.Statistics.{least, most}
use Rattle.mls_model.specs.ResultText.{rank_lines}
use Rattle.mls_field.specs.declared.field.Field.{Field}
use Rattle.mls_field.specs.declared.fold.RowFold.{Ghosts}
use Rattle.mls_rank.specs.declared.rank_core.RankCore.{RankCore}
use Rattle.mls_rank.specs.Cores.{counts_of, mark_count}
use Rattle.mls_result.specs.Histories.{kept_sums}
use Rattle.mls_design.specs.TrialText.{trial_title, lanes_line, groups_text}
use Rattle.mls_trial.specs.Words.{sum_words, end_words}

-- the numbers of groups that a core has accepted, plane by plane, and those of all cores
abbrev pub core_groups : {T : Ghosts Field} → Sizes → RankCore Field T → List ℕ
core_groups s core = map (mark_count core) (below (planes s))

unfoldable pub kept_groups : {T : Ghosts Field} → Sizes → List (RankCore Field T) → List ℕ
kept_groups s cores = flat_map (core_groups s) cores

-- the line of the least and the greatest of some numbers
unfoldable pub ends_line : List ℕ → List ℕ
ends_line numbers = groups_text (unsigned_abs (unwrap_or (least (map pos numbers)) (pos 0))) (unsigned_abs (unwrap_or (most (map pos numbers)) (pos 0)))

-- what f gives of what the cores keep of each cell of a plane, added up, and that of all planes
abbrev pub kept_over_plane : {T : Ghosts Field} → Sizes → List (RankCore Field T) → (CellSums → ℤ) → ℕ → ℤ
kept_over_plane s cores f plane = sum_ints (λ x. f (kept_sums s cores plane x)) (below s.cells)

unfoldable pub kept_over_cells : {T : Ghosts Field} → Sizes → List (RankCore Field T) → (CellSums → ℤ) → ℤ
kept_over_cells s cores f = sum_ints (kept_over_plane s cores f) (below (planes s))

-- P1 and P2 of the values that are kept
abbrev pub first_of : Sizes → CellSums → ℤ
first_of s = first_power (height s.signed)

abbrev pub second_of : Sizes → CellSums → ℤ
second_of s = second_power (height s.signed)

unfoldable pub kept_sum_line : {T : Ghosts Field} → Sizes → List (RankCore Field T) → List ℕ
kept_sum_line s cores = sum_words (kept_over_cells s cores (first_of s)) (kept_over_cells s cores (second_of s))

-- The summary of what the cores keep, whether they stand for histories or not.
unfoldable pub trial_states_text : {T : Ghosts Field} → Study → (number : ℕ) → List Lane → List (RankCore Field T) → List ℕ
trial_states_text study number lanes cores = trial_title number ++ (lanes_line lanes ++ (rank_lines (map counts_of cores) ++ (ends_line (kept_groups study.sizes cores) ++ (kept_sum_line study.sizes cores ++ end_words))))
