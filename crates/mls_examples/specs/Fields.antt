-- Two fields over one mesh.
use Rattle.std.specs.Prelude.{ℕ, List, [], ◌∷◌, Some, codes}
use Rattle.mls_model.specs.Numbers.{joined}
use Rattle.mls_model.specs.Studies.{Study}
use Rattle.mls_model.specs.Frames.{piece}
use Rattle.mls_model.specs.Lanes.{Lane}
use Rattle.mls_examples.specs.Small.{one_cell, small_study, small_piece, sent, client_lane}
use Rattle.mls_examples.specs.Statistics.{two_groups_power, two_groups_cell, one_group_lines}

abbrev pub two_fields : Study
two_fields = record small_study { sizes = record (one_cell 2) { fields = 2 }; field_names = Some (codes "u" ∷ codes "v" ∷ []) }

-- two groups of the first field and one of the second
abbrev pub two_fields_lanes : List Lane
two_fields_lanes = client_lane (sent 0 1 (1 ∷ 3 ∷ 3 ∷ []) ∷ sent 1 1 (5 ∷ 1 ∷ 1 ∷ []) ∷ piece (record (small_piece 0 1 (7 ∷ 9 ∷ 9 ∷ [])) { plane = 1 }) ∷ []) ∷ []

abbrev pub two_fields_text : List ℕ
two_fields_text = joined (codes "melissa-result 1\n" ∷ codes "study cells 1 steps 1 groups 2 parameters 1 ranks 1 clients 1 fields 2\n" ∷ codes "rank 0 accepted 3 kept 0 replay 0 stale 0 repeated 0 foreign 0 0 0 0 0 0\n" ∷ codes "lane 0 rank 0 client events 3 clean\n" ∷ codes "step 0 field u cell 0 groups 2\n" ∷ two_groups_power ∷ codes "sobol x 1.000000 2.000000 4 -8 16 4 4\n" ∷ codes "step 0 field v cell 0 groups 1\n" ∷ one_group_lines ∷ codes "end\n" ∷ [])

-- the same lane where there is one field
abbrev pub one_field_text : List ℕ
one_field_text = joined (codes "melissa-result 1\n" ∷ codes "study cells 1 steps 1 groups 2 parameters 1 ranks 1 clients 1\n" ∷ codes "rank 0 accepted 2 kept 0 replay 0 stale 0 repeated 0 foreign 0 0 0 1 0 0\n" ∷ codes "lane 0 rank 0 client events 3 clean\n" ∷ two_groups_cell ∷ codes "end\n" ∷ [])
