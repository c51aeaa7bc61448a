-- How a mesh is cut, and how a rank makes a group's timestep whole from its clients' pieces.
use Rattle.std.specs.Prelude.{ℕ, ◌+◌, ◌*◌, ℤ, pos, map, List, [], ◌∷◌, codes, cond}
use Rattle.std.specs.List.{flat_map}
use Rattle.mls_model.specs.declared.blocks.Span.{Span}
use Rattle.mls_model.specs.declared.studies.Statistic.TheVariants.{Power, Sobol}
use Rattle.mls_model.specs.Numbers.{joined, below}
use Rattle.mls_model.specs.Studies.{Sizes, Study}
use Rattle.mls_model.specs.Blocks.{overlap, overlaps, width}
use Rattle.mls_model.specs.Frames.{Frame, Piece, piece}
use Rattle.mls_model.specs.Lanes.{Lane}
use Rattle.mls_examples.specs.Small.{one_cell, study_of, small_piece, sent, client_lane}

-- ten cells for three ranks and two clients
abbrev pub ten_cells : Sizes
ten_cells = record (one_cell 2) { cells = 10; ranks = 3; clients = 2 }

abbrev pub cells_from : ℕ → ℕ → Span
cells_from first end = record { first = first; end = end }

-- the ranks with the clients that overlap them
abbrev pub pairs_of : Sizes → List (ℕ × ℕ)
pairs_of s = flat_map (λ rank. flat_map (λ client. cond (overlaps s rank client) ((rank, client) ∷ []) []) (below s.clients)) (below s.ranks)

-- two cells, each from its own client
abbrev pub two_clients : Study
two_clients = study_of (record (one_cell 2) { cells = 2; clients = 2 }) (Power ∷ Sobol ∷ [])

-- what a client sends of group 0: a life and the samples of its one cell
abbrev pub part_piece : ℕ → ℕ → List ℕ → Piece
part_piece client life samples = record (small_piece 0 life samples) { client = client; first = client }

abbrev pub part_sent : ℕ → ℕ → List ℕ → Frame
part_sent client life samples = piece (part_piece client life samples)

abbrev pub two_clients_lanes : List Lane
two_clients_lanes = client_lane (part_sent 0 1 (1 ∷ 3 ∷ 3 ∷ []) ∷ []) ∷ client_lane (part_sent 1 1 (5 ∷ 1 ∷ 1 ∷ []) ∷ []) ∷ []

-- the schedules in which the one and the other comes first
abbrev pub first_client_first : List (List ℕ)
first_client_first = (0 ∷ 1 ∷ []) ∷ []

abbrev pub second_client_first : List (List ℕ)
second_client_first = (1 ∷ 0 ∷ []) ∷ []

abbrev pub two_clients_text : List ℕ
two_clients_text = joined (codes "melissa-result 1\n" ∷ codes "study cells 2 steps 1 groups 2 parameters 1 ranks 1 clients 2\n" ∷ codes "rank 0 accepted 1 kept 1 replay 0 stale 0 repeated 0 foreign 0 0 0 0 0 0\n" ∷ codes "lane 0 rank 0 client events 1 clean\n" ∷ codes "lane 1 rank 0 client events 1 clean\n" ∷ codes "step 0 cell 0 groups 1\n" ∷ codes "power 4 10 28 82\n" ∷ codes "variance 4/2\n" ∷ codes "third 0/8\n" ∷ codes "sobol x - - 0 0 0 0 0\n" ∷ codes "step 0 cell 1 groups 1\n" ∷ codes "power 6 26 126 626\n" ∷ codes "variance 16/2\n" ∷ codes "third 0/8\n" ∷ codes "sobol x - - 0 0 0 0 0\n" ∷ codes "end\n" ∷ [])

-- two lives of one group, mixed on one lane
abbrev pub two_lives_lanes : List Lane
two_lives_lanes = client_lane (part_sent 0 1 (1 ∷ 2 ∷ 3 ∷ []) ∷ part_sent 1 2 (4 ∷ 5 ∷ 6 ∷ []) ∷ part_sent 1 1 (7 ∷ 8 ∷ 9 ∷ []) ∷ part_sent 0 2 (10 ∷ 11 ∷ 12 ∷ []) ∷ []) ∷ []

-- the lines of the samples of life 2: 10, 11 and 4, 5
abbrev pub two_lives_cells : List ℕ
two_lives_cells = joined (codes "step 0 cell 0 groups 1\n" ∷ codes "power 21 221 2331 24641\n" ∷ codes "variance 1/2\n" ∷ codes "third 0/8\n" ∷ codes "sobol x - - 0 0 0 0 0\n" ∷ codes "step 0 cell 1 groups 1\n" ∷ codes "power 9 41 189 881\n" ∷ codes "variance 1/2\n" ∷ codes "third 0/8\n" ∷ codes "sobol x - - 0 0 0 0 0\n" ∷ [])

abbrev pub two_lives_text : List ℕ
two_lives_text = joined (codes "melissa-result 1\n" ∷ codes "study cells 2 steps 1 groups 2 parameters 1 ranks 1 clients 2\n" ∷ codes "rank 0 accepted 1 kept 2 replay 0 stale 1 repeated 0 foreign 0 0 0 0 0 0\n" ∷ codes "lane 0 rank 0 client events 4 clean\n" ∷ two_lives_cells ∷ codes "end\n" ∷ [])

-- the same with client 1's piece of life 2 sent once more, with other samples
abbrev pub sent_again_lanes : List Lane
sent_again_lanes = client_lane (part_sent 0 1 (1 ∷ 2 ∷ 3 ∷ []) ∷ part_sent 1 2 (4 ∷ 5 ∷ 6 ∷ []) ∷ part_sent 1 2 (20 ∷ 21 ∷ 22 ∷ []) ∷ part_sent 1 1 (7 ∷ 8 ∷ 9 ∷ []) ∷ part_sent 0 2 (10 ∷ 11 ∷ 12 ∷ []) ∷ []) ∷ []

abbrev pub sent_again_text : List ℕ
sent_again_text = joined (codes "melissa-result 1\n" ∷ codes "study cells 2 steps 1 groups 2 parameters 1 ranks 1 clients 2\n" ∷ codes "rank 0 accepted 1 kept 2 replay 0 stale 1 repeated 1 foreign 0 0 0 0 0 0\n" ∷ codes "lane 0 rank 0 client events 5 clean\n" ∷ two_lives_cells ∷ codes "end\n" ∷ [])

-- pieces of group 0 for the one cell of a small study, after its timestep is whole
abbrev pub late_lanes : List Lane
late_lanes = client_lane (sent 0 2 (1 ∷ 3 ∷ 3 ∷ []) ∷ sent 0 1 (4 ∷ 4 ∷ 4 ∷ []) ∷ sent 0 2 (5 ∷ 5 ∷ 5 ∷ []) ∷ sent 0 3 (6 ∷ 6 ∷ 6 ∷ []) ∷ []) ∷ []

-- ten cells, two steps and three groups for three ranks and two clients
abbrev pub three_ranks : Study
three_ranks = study_of (record (one_cell 3) { cells = 10; steps = 2; ranks = 3; clients = 2 }) (Power ∷ Sobol ∷ [])

-- a sample that tells its group, plane, row and cell
abbrev pub telling : ℕ → ℕ → ℕ → ℕ → ℕ
telling group plane row x = 1000 * group + 100 * plane + 10 * row + x

-- the piece of a group and plane that a client sends to a rank
abbrev pub share_sent : ℕ → ℕ → ℕ → ℕ → Frame
share_sent group rank client plane = piece (record {
  life = 1;
  group = group;
  plane = plane;
  client = client;
  rows = 3;
  first = (overlap three_ranks.sizes rank client).first;
  count = width (overlap three_ranks.sizes rank client);
  samples = flat_map (λ row. map (λ place. telling group plane row ((overlap three_ranks.sizes rank client).first + place)) (below (width (overlap three_ranks.sizes rank client)))) (below 3);
})

-- for each group and each pair a lane with the pieces of both steps
abbrev pub twelve_lanes : List Lane
twelve_lanes = flat_map (λ group. map (λ (pair : ℕ × ℕ). record (client_lane (share_sent group pair.0 pair.1 0 ∷ share_sent group pair.0 pair.1 1 ∷ [])) { rank = pair.0 }) (pairs_of three_ranks.sizes)) (below 3)

-- the rows of a plane and cell that these pieces give
abbrev pub telling_rows : ℕ → ℕ → List (List ℤ)
telling_rows plane x = map (λ group. map (λ row. pos (telling group plane row x)) (below 3)) (below 3)

abbrev pub three_rank_lines : List ℕ
three_rank_lines = joined (codes "rank 0 accepted 6 kept 0 replay 0 stale 0 repeated 0 foreign 0 0 0 0 0 0\n" ∷ codes "rank 1 accepted 6 kept 6 replay 0 stale 0 repeated 0 foreign 0 0 0 0 0 0\n" ∷ codes "rank 2 accepted 6 kept 0 replay 0 stale 0 repeated 0 foreign 0 0 0 0 0 0\n" ∷ [])
