-- Samples from −32,768 to 32,767.
use Rattle.std.specs.Prelude.{ℕ, List, [], ◌∷◌, true, codes}
use Rattle.mls_model.specs.Numbers.{joined}
use Rattle.mls_model.specs.Studies.{Study}
use Rattle.mls_model.specs.Lanes.{Lane}
use Rattle.mls_examples.specs.Small.{one_cell, small_study, sent, client_lane}
use Rattle.mls_examples.specs.Statistics.{head_of_two}

abbrev pub signed_study : Study
signed_study = record small_study { sizes = record (one_cell 2) { signed = true } }

-- 88 bytes: two pieces with the samples −1, 3, 3 and 5, −1, −1
abbrev pub signed_tape : List ℕ
signed_tape = 0x4d ∷ 0x54 ∷ 0x41 ∷ 0x50 ∷ 0 ∷ 2 ∷ 1 ∷ 0 ∷ 0 ∷ 0 ∷ 1 ∷ 0 ∷ 0 ∷ 0 ∷ 0 ∷ 0 ∷ 0 ∷ 0x46
    ∷ 0 ∷ 0 ∷ 0 ∷ 0x1f ∷ 1 ∷ 0 ∷ 0 ∷ 0 ∷ 1 ∷ 0 ∷ 0 ∷ 0 ∷ 0 ∷ 0 ∷ 0 ∷ 0 ∷ 0 ∷ 0 ∷ 0 ∷ 0 ∷ 3 ∷ 0 ∷ 0 ∷ 0 ∷ 0 ∷ 0 ∷ 0 ∷ 0 ∷ 1 ∷ 0xff ∷ 0xff ∷ 0 ∷ 3 ∷ 0 ∷ 3
    ∷ 0 ∷ 0 ∷ 0 ∷ 0x1f ∷ 1 ∷ 0 ∷ 0 ∷ 0 ∷ 1 ∷ 0 ∷ 0 ∷ 0 ∷ 1 ∷ 0 ∷ 0 ∷ 0 ∷ 0 ∷ 0 ∷ 0 ∷ 0 ∷ 3 ∷ 0 ∷ 0 ∷ 0 ∷ 0 ∷ 0 ∷ 0 ∷ 0 ∷ 1 ∷ 0 ∷ 5 ∷ 0xff ∷ 0xff ∷ 0xff ∷ 0xff ∷ []

abbrev pub signed_lanes : List Lane
signed_lanes = client_lane (sent 0 1 (65535 ∷ 3 ∷ 3 ∷ []) ∷ sent 1 1 (5 ∷ 65535 ∷ 65535 ∷ []) ∷ []) ∷ []

abbrev pub signed_text : List ℕ
signed_text = joined (head_of_two ∷ codes "step 0 cell 0 groups 2\n" ∷ codes "power 6 36 150 708\n" ∷ codes "variance 108/12\n" ∷ codes "third 240/64\n" ∷ codes "sobol x 1.000000 2.000000 16 -24 36 16 16\n" ∷ codes "end\n" ∷ [])
