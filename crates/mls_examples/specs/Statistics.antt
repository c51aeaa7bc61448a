-- What the result text says of the samples of one cell.
use Rattle.std.specs.Prelude.{ℕ, List, [], ◌∷◌, codes}
use Rattle.mls_model.specs.declared.studies.Statistic.TheVariants.{Power, Extrema, Exceed, Sobol}
use Rattle.mls_model.specs.Numbers.{joined}
use Rattle.mls_model.specs.Studies.{Study}
use Rattle.mls_model.specs.Lanes.{Lane}
use Rattle.mls_examples.specs.Small.{one_cell, study_of, sent, client_lane}

-- the lines before the cells' lines, for two groups and one lane of two events
abbrev pub head_of_two : List ℕ
head_of_two = joined (codes "melissa-result 1\n" ∷ codes "study cells 1 steps 1 groups 2 parameters 1 ranks 1 clients 1\n" ∷ codes "rank 0 accepted 2 kept 0 replay 0 stale 0 repeated 0 foreign 0 0 0 0 0 0\n" ∷ codes "lane 0 rank 0 client events 2 clean\n" ∷ [])

-- two groups on one lane
abbrev pub two_groups_lanes : List Lane
two_groups_lanes = client_lane (sent 0 1 (1 ∷ 3 ∷ 3 ∷ []) ∷ sent 1 1 (5 ∷ 1 ∷ 1 ∷ []) ∷ []) ∷ []

-- the power lines of their samples 1, 3, 5, 1
abbrev pub two_groups_power : List ℕ
two_groups_power = joined (codes "power 10 36 154 708\n" ∷ codes "variance 44/12\n" ∷ codes "third 144/64\n" ∷ [])

abbrev pub two_groups_cell : List ℕ
two_groups_cell = joined (codes "step 0 cell 0 groups 2\n" ∷ two_groups_power ∷ codes "sobol x 1.000000 2.000000 4 -8 16 4 4\n" ∷ [])

abbrev pub two_groups_text : List ℕ
two_groups_text = joined (head_of_two ∷ two_groups_cell ∷ codes "end\n" ∷ [])

-- the same with all statistics and two thresholds
abbrev pub all_shown : Study
all_shown = study_of (record (one_cell 2) { thresholds = 1 ∷ 3 ∷ [] }) (Power ∷ Extrema ∷ Exceed ∷ Sobol ∷ [])

abbrev pub all_shown_text : List ℕ
all_shown_text = joined (head_of_two ∷ codes "step 0 cell 0 groups 2\n" ∷ two_groups_power ∷ codes "extrema 1 5\n" ∷ codes "exceed 2 1\n" ∷ codes "sobol x 1.000000 2.000000 4 -8 16 4 4\n" ∷ codes "end\n" ∷ [])

-- the same with the power lines alone
abbrev pub power_alone : Study
power_alone = study_of (one_cell 2) (Power ∷ [])

abbrev pub power_alone_text : List ℕ
power_alone_text = joined (head_of_two ∷ codes "step 0 cell 0 groups 2\n" ∷ two_groups_power ∷ codes "end\n" ∷ [])

-- one group sent twice
abbrev pub replay_lanes : List Lane
replay_lanes = client_lane (sent 0 1 (1 ∷ 3 ∷ 3 ∷ []) ∷ sent 0 1 (1 ∷ 3 ∷ 3 ∷ []) ∷ []) ∷ []

abbrev pub replay_text : List ℕ
replay_text = joined (codes "melissa-result 1\n" ∷ codes "study cells 1 steps 1 groups 2 parameters 1 ranks 1 clients 1\n" ∷ codes "rank 0 accepted 1 kept 0 replay 1 stale 0 repeated 0 foreign 0 0 0 0 0 0\n" ∷ codes "lane 0 rank 0 client events 2 clean\n" ∷ codes "step 0 cell 0 groups 1\n" ∷ codes "power 4 10 28 82\n" ∷ codes "variance 4/2\n" ∷ codes "third 0/8\n" ∷ codes "end\n" ∷ [])

abbrev pub no_lane_text : List ℕ
no_lane_text = joined (codes "melissa-result 1\n" ∷ codes "study cells 1 steps 1 groups 2 parameters 1 ranks 1 clients 1\n" ∷ codes "rank 0 accepted 0 kept 0 replay 0 stale 0 repeated 0 foreign 0 0 0 0 0 0\n" ∷ codes "step 0 cell 0 groups 0\n" ∷ codes "power -\n" ∷ codes "variance -\n" ∷ codes "third -\n" ∷ codes "sobol x - - 0 0 0 0 0\n" ∷ codes "end\n" ∷ [])

-- one group alone, whose columns do not vary
abbrev pub one_group_lanes : List Lane
one_group_lanes = client_lane (sent 0 1 (7 ∷ 9 ∷ 9 ∷ []) ∷ []) ∷ []

-- the lines of its samples 7, 9
abbrev pub one_group_lines : List ℕ
one_group_lines = joined (codes "power 16 130 1072 8962\n" ∷ codes "variance 4/2\n" ∷ codes "third 0/8\n" ∷ codes "sobol x - - 0 0 0 0 0\n" ∷ [])

abbrev pub one_group_text : List ℕ
one_group_text = joined (codes "melissa-result 1\n" ∷ codes "study cells 1 steps 1 groups 2 parameters 1 ranks 1 clients 1\n" ∷ codes "rank 0 accepted 1 kept 0 replay 0 stale 0 repeated 0 foreign 0 0 0 0 0 0\n" ∷ codes "lane 0 rank 0 client events 1 clean\n" ∷ codes "step 0 cell 0 groups 1\n" ∷ one_group_lines ∷ codes "end\n" ∷ [])

-- three groups, whose first index is cut off: c = 3, v · w = 12
abbrev pub three_groups : Study
three_groups = study_of (one_cell 3) (Power ∷ Sobol ∷ [])

abbrev pub three_groups_lanes : List Lane
three_groups_lanes = client_lane (sent 0 1 (2 ∷ 0 ∷ 0 ∷ []) ∷ sent 1 1 (1 ∷ 0 ∷ 1 ∷ []) ∷ sent 2 1 (0 ∷ 1 ∷ 2 ∷ []) ∷ []) ∷ []

abbrev pub head_of_three : List ℕ
head_of_three = joined (codes "melissa-result 1\n" ∷ codes "study cells 1 steps 1 groups 3 parameters 1 ranks 1 clients 1\n" ∷ codes "rank 0 accepted 3 kept 0 replay 0 stale 0 repeated 0 foreign 0 0 0 0 0 0\n" ∷ codes "lane 0 rank 0 client events 3 clean\n" ∷ codes "step 0 cell 0 groups 3\n" ∷ [])

abbrev pub three_groups_text : List ℕ
three_groups_text = joined (head_of_three ∷ codes "power 4 6 10 18\n" ∷ codes "variance 20/30\n" ∷ codes "third 56/216\n" ∷ codes "sobol x 0.866025 2.000000 3 -6 6 2 6\n" ∷ codes "end\n" ∷ [])

-- extrema and exceed lines alone, of the samples 2, 0, 1, 0, 0, 1
abbrev pub extrema_alone : Study
extrema_alone = study_of (record (one_cell 3) { thresholds = 0 ∷ 1 ∷ [] }) (Extrema ∷ Exceed ∷ [])

abbrev pub extrema_alone_text : List ℕ
extrema_alone_text = joined (head_of_three ∷ codes "extrema 0 2\n" ∷ codes "exceed 3 1\n" ∷ codes "end\n" ∷ [])
