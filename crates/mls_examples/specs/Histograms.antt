-- What the bins text says of the samples of one cell.
use Rattle.std.specs.Prelude.{ℕ, List, [], ◌∷◌, codes}
use Rattle.mls_model.specs.Numbers.{joined}
use Rattle.mls_model.specs.Lanes.{Lane}
use Rattle.mls_examples.specs.Small.{sent, client_lane}

-- the lines before the cell's lines, for two groups and one lane of two events
abbrev pub bins_head_of_two : List ℕ
bins_head_of_two = joined (codes "melissa-bins 1\n" ∷ codes "study cells 1 steps 1 groups 2 parameters 1 ranks 1 clients 1\n" ∷ codes "rank 0 accepted 2 kept 0 replay 0 stale 0 repeated 0 foreign 0 0 0 0 0 0\n" ∷ codes "lane 0 rank 0 client events 2 clean\n" ∷ [])

-- two groups whose samples 100, 3000, 1024 and 65535 lie in four bins
abbrev pub binned_lanes : List Lane
binned_lanes = client_lane (sent 0 1 (100 ∷ 3000 ∷ 0 ∷ []) ∷ sent 1 1 (1024 ∷ 65535 ∷ 0 ∷ []) ∷ []) ∷ []

abbrev pub binned_text : List ℕ
binned_text = joined (bins_head_of_two ∷ codes "step 0 cell 0 groups 2\n" ∷ codes "bins 0:1 1:1 2:1 63:1\n" ∷ codes "quartiles 0..1023 1024..2047 2048..3071\n" ∷ codes "end\n" ∷ [])

-- the same samples with a sign: 65535 is −1, so the sorted values are −1, 100, 1024, 3000, and 0 begins bin 32
abbrev pub signed_binned_text : List ℕ
signed_binned_text = joined (bins_head_of_two ∷ codes "step 0 cell 0 groups 2\n" ∷ codes "bins 31:1 32:1 33:1 34:1\n" ∷ codes "quartiles -1024..-1 0..1023 1024..2047\n" ∷ codes "end\n" ∷ [])

-- one group sent twice, with a save and a crash between
abbrev pub replayed_bins_text : List ℕ
replayed_bins_text = joined (codes "melissa-bins 1\n" ∷ codes "study cells 1 steps 1 groups 2 parameters 1 ranks 1 clients 1\n" ∷ codes "rank 0 accepted 1 kept 0 replay 1 stale 0 repeated 0 foreign 0 0 0 0 0 0\n" ∷ codes "lane 0 rank 0 client events 2 clean\n" ∷ codes "lane 1 rank 0 control events 2 clean\n" ∷ codes "step 0 cell 0 groups 1\n" ∷ codes "bins 0:2\n" ∷ codes "quartiles 0..1023 0..1023 0..1023\n" ∷ codes "end\n" ∷ [])

-- no sample
abbrev pub no_bins_text : List ℕ
no_bins_text = joined (codes "melissa-bins 1\n" ∷ codes "study cells 1 steps 1 groups 2 parameters 1 ranks 1 clients 1\n" ∷ codes "rank 0 accepted 0 kept 0 replay 0 stale 0 repeated 0 foreign 0 0 0 0 0 0\n" ∷ codes "step 0 cell 0 groups 0\n" ∷ codes "bins -\n" ∷ codes "quartiles -\n" ∷ codes "end\n" ∷ [])
