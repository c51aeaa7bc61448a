-- The summary of trial.
use Rattle.std.specs.Prelude.{◌≡◌, ◌<◌, ℕ, List, ◌∷◌, [], ◌++◌, length, map, pos, ℤ, unwrap_or, unsigned_abs, codes, decimal}
use Rattle.std.specs.Fmt.{signed_decimal}
use Rattle.std.specs.List.{flat_map}
use Rattle.mls_model.specs.Numbers.{below, joined, sum_ints}
use Rattle.mls_model.specs.Studies.{Study, Sizes, planes}
use Rattle.mls_model.specs.Lanes.{Lane}
use Rattle.mls_model.specs.Histories.{LaneEvent}
use Rattle.mls_model.specs.AcceptedRows.{accepted}
use Rattle.mls_model.specs.Statistics.{outputs, total, squares, least, most}
use Rattle.mls_model.specs.ResultText.{rank_lines, history_counts, history_rows, histories_of, pieces_of}
use Rattle.mls_design.specs.Trial.{lane_events}

-- melissa-trial 1 and the number
unfoldable pub trial_title : ℕ → List ℕ
trial_title number = joined (codes "melissa-trial 1\nnumber " ∷ decimal number ∷ codes "\n" ∷ [])

-- lanes L events E
unfoldable pub lanes_line : List Lane → List ℕ
lanes_line lanes = joined (codes "lanes " ∷ decimal (length lanes) ∷ codes " events " ∷ decimal (lane_events lanes) ∷ codes "\n" ∷ [])

-- the numbers of accepted groups over all ranks and planes
unfoldable pub accepted_counts : Sizes → (ℕ → List LaneEvent) → List ℤ
accepted_counts s histories = flat_map (λ rank. map (λ plane. pos (length (accepted s rank plane (pieces_of s rank (histories rank))))) (below (planes s))) (below s.ranks)

-- groups LEAST GREATEST
unfoldable pub groups_text : (fewest most : ℕ) → List ℕ
groups_text fewest most = joined (codes "groups " ∷ decimal fewest ∷ codes " " ∷ decimal most ∷ codes "\n" ∷ [])

unfoldable pub groups_line : Sizes → (ℕ → List LaneEvent) → List ℕ
groups_line s histories = groups_text (unsigned_abs (unwrap_or (least (accepted_counts s histories)) (pos 0))) (unsigned_abs (unwrap_or (most (accepted_counts s histories)) (pos 0)))

-- what f gives of the values A and B of each plane and cell, added up
unfoldable pub over_cells : Sizes → (ℕ → List LaneEvent) → (List ℤ → ℤ) → ℤ
over_cells s histories f = sum_ints (λ plane. sum_ints (λ x. f (outputs (history_rows s histories plane x))) (below s.cells)) (below (planes s))

-- sum P1 P2
unfoldable pub sum_line : Sizes → (ℕ → List LaneEvent) → List ℕ
sum_line s histories = joined (codes "sum " ∷ signed_decimal (over_cells s histories total) ∷ codes " " ∷ signed_decimal (over_cells s histories squares) ∷ codes "\n" ∷ [])

-- the summary of ranks with these histories, after the lines on number and lanes
unfoldable pub histories_summary : Sizes → (ℕ → List LaneEvent) → List ℕ
histories_summary s histories = rank_lines (history_counts s histories) ++ (groups_line s histories ++ (sum_line s histories ++ codes "end\n"))

-- The summary of a trial, from the lanes and the lists of its schedule.
unfoldable pub trial_summary : Study → ℕ → List Lane → List (List ℕ) → List ℕ
trial_summary study number lanes orders = trial_title number ++ (lanes_line lanes ++ histories_summary study.sizes (histories_of lanes orders))

-- Under these lists each rank accepts all groups in each plane. No group is accepted twice.
abbrev pub AcceptsAll : Sizes → List Lane → List (List ℕ) → Type 0
AcceptsAll s lanes orders = (rank plane : ℕ) → rank < s.ranks → plane < planes s → length (accepted s rank plane (pieces_of s rank (histories_of lanes orders rank))) ≡ s.groups
