-- Bytes as frames, lanes and tapes.
use Rattle.std.specs.Prelude.{ℕ, List, [], ◌∷◌, ◌++◌, map, codes}
use Rattle.mls_model.specs.declared.lanes.LaneEnd.{LaneEnd}
use Rattle.mls_model.specs.Numbers.{joined}
use Rattle.mls_model.specs.declared.lanes.LaneKind.TheVariants.{Client}
use Rattle.mls_model.specs.Frames.{Frame, Piece, piece, beat, bye, save, crash, spelling}
use Rattle.mls_model.specs.Lanes.{Lane, SpelledLane}
use Rattle.mls_examples.specs.Small.{small_piece, sent, client_lane, control_lane}
use Rattle.mls_examples.specs.Statistics.{two_groups_cell}

-- the 35 bytes of the piece of group 0 and life 1 with the samples 1, 3, 3
abbrev pub piece_0_bytes : List ℕ
piece_0_bytes = 0 ∷ 0 ∷ 0 ∷ 0x1f ∷ 1 ∷ 0 ∷ 0 ∷ 0 ∷ 1 ∷ 0 ∷ 0 ∷ 0 ∷ 0 ∷ 0 ∷ 0 ∷ 0 ∷ 0 ∷ 0 ∷ 0 ∷ 0 ∷ 3 ∷ 0 ∷ 0 ∷ 0 ∷ 0 ∷ 0 ∷ 0 ∷ 0 ∷ 1 ∷ 0 ∷ 1 ∷ 0 ∷ 3 ∷ 0 ∷ 3 ∷ []

-- and of group 1 with the samples 5, 1, 1
abbrev pub piece_1_bytes : List ℕ
piece_1_bytes = 0 ∷ 0 ∷ 0 ∷ 0x1f ∷ 1 ∷ 0 ∷ 0 ∷ 0 ∷ 1 ∷ 0 ∷ 0 ∷ 0 ∷ 1 ∷ 0 ∷ 0 ∷ 0 ∷ 0 ∷ 0 ∷ 0 ∷ 0 ∷ 3 ∷ 0 ∷ 0 ∷ 0 ∷ 0 ∷ 0 ∷ 0 ∷ 0 ∷ 1 ∷ 0 ∷ 5 ∷ 0 ∷ 1 ∷ 0 ∷ 1 ∷ []

-- the tape of both on one client lane of rank 0, 87 bytes
abbrev pub two_groups_tape : List ℕ
two_groups_tape = 0x4d ∷ 0x54 ∷ 0x41 ∷ 0x50 ∷ 0 ∷ 1 ∷ 0 ∷ 0 ∷ 0 ∷ 1 ∷ 0 ∷ 0 ∷ 0 ∷ 0 ∷ 0 ∷ 0 ∷ 0x46 ∷ (piece_0_bytes ++ piece_1_bytes)

-- the tape with no lane
abbrev pub no_lane_tape : List ℕ
no_lane_tape = 0x4d ∷ 0x54 ∷ 0x41 ∷ 0x50 ∷ 0 ∷ 1 ∷ 0 ∷ 0 ∷ 0 ∷ 0 ∷ []

-- a tape that says it has one lane, and then these bytes
abbrev pub tape_with : List ℕ → List ℕ
tape_with bytes = 0x4d ∷ 0x54 ∷ 0x41 ∷ 0x50 ∷ 0 ∷ 1 ∷ 0 ∷ 0 ∷ 0 ∷ 1 ∷ bytes

-- both pieces and the first five bytes of a third, of which the last is its kind
abbrev pub cut_bytes : ℕ → List ℕ
cut_bytes kind = piece_0_bytes ++ (piece_1_bytes ++ 0 ∷ 0 ∷ 0 ∷ 0x1f ∷ kind ∷ [])

-- the lane of these bytes
abbrev pub ended : LaneEnd → Lane
ended end = record (client_lane (sent 0 1 (1 ∷ 3 ∷ 3 ∷ []) ∷ sent 1 1 (5 ∷ 1 ∷ 1 ∷ []) ∷ [])) { end = end }

abbrev pub head_before_lane : List ℕ
head_before_lane = joined (codes "melissa-result 1\n" ∷ codes "study cells 1 steps 1 groups 2 parameters 1 ranks 1 clients 1\n" ∷ codes "rank 0 accepted 2 kept 0 replay 0 stale 0 repeated 0 foreign 0 0 0 0 0 0\n" ∷ [])

abbrev pub cut_text : List ℕ
cut_text = joined (head_before_lane ∷ codes "lane 0 rank 0 client events 2 cut at 70\n" ∷ two_groups_cell ∷ codes "end\n" ∷ [])

abbrev pub bad_kind_text : List ℕ
bad_kind_text = joined (head_before_lane ∷ codes "lane 0 rank 0 client events 2 bad-kind at 70\n" ∷ two_groups_cell ∷ codes "end\n" ∷ [])

-- the lane that has no event and ends so
abbrev pub no_event : LaneEnd → Lane
no_event end = record (client_lane []) { end = end }

-- a piece of two cells, a piece of a group too many, and a save on a client lane
abbrev pub foreign_lanes : List Lane
foreign_lanes = client_lane (piece (record (small_piece 0 1 (1 ∷ 2 ∷ 3 ∷ 4 ∷ 5 ∷ 6 ∷ [])) { count = 2 }) ∷ sent 2 1 (1 ∷ 2 ∷ 3 ∷ []) ∷ save ∷ []) ∷ []

abbrev pub foreign_text : List ℕ
foreign_text = joined (codes "melissa-result 1\n" ∷ codes "study cells 1 steps 1 groups 2 parameters 1 ranks 1 clients 1\n" ∷ codes "rank 0 accepted 0 kept 0 replay 0 stale 0 repeated 0 foreign 1 0 1 0 0 1\n" ∷ codes "lane 0 rank 0 client events 3 clean\n" ∷ codes "step 0 cell 0 groups 0\n" ∷ codes "power -\n" ∷ codes "variance -\n" ∷ codes "third -\n" ∷ codes "sobol x - - 0 0 0 0 0\n" ∷ codes "end\n" ∷ [])

-- a piece with no rows and no cells, 29 bytes
abbrev pub empty_piece_bytes : List ℕ
empty_piece_bytes = 0 ∷ 0 ∷ 0 ∷ 0x19 ∷ 1 ∷ 0 ∷ 0 ∷ 0 ∷ 0 ∷ 0 ∷ 0 ∷ 0 ∷ 0 ∷ 0 ∷ 0 ∷ 0 ∷ 0 ∷ 0 ∷ 0 ∷ 0 ∷ 0 ∷ 0 ∷ 0 ∷ 0 ∷ 0 ∷ 0 ∷ 0 ∷ 0 ∷ 0 ∷ []

abbrev pub empty_piece : Piece
empty_piece = record { life = 0; group = 0; plane = 0; client = 0; rows = 0; first = 0; count = 0; samples = [] }

-- a piece that says 65,535 rows of 4,294,967,295 cells in a body of 27 bytes
abbrev pub huge_piece_bytes : List ℕ
huge_piece_bytes = 0 ∷ 0 ∷ 0 ∷ 0x1b ∷ 1 ∷ 0 ∷ 0 ∷ 0 ∷ 0 ∷ 0 ∷ 0 ∷ 0 ∷ 0 ∷ 0 ∷ 0 ∷ 0 ∷ 0 ∷ 0 ∷ 0 ∷ 0xff ∷ 0xff ∷ 0 ∷ 0 ∷ 0 ∷ 0 ∷ 0xff ∷ 0xff ∷ 0xff ∷ 0xff ∷ []

abbrev pub empty_piece_text : List ℕ
empty_piece_text = joined (codes "melissa-result 1\n" ∷ codes "study cells 1 steps 1 groups 2 parameters 1 ranks 1 clients 1\n" ∷ codes "rank 0 accepted 0 kept 0 replay 0 stale 0 repeated 0 foreign 0 1 0 0 0 0\n" ∷ codes "lane 0 rank 0 client events 1 clean\n" ∷ codes "step 0 cell 0 groups 0\n" ∷ codes "power -\n" ∷ codes "variance -\n" ∷ codes "third -\n" ∷ codes "sobol x - - 0 0 0 0 0\n" ∷ codes "end\n" ∷ [])

-- what a group sends after its greeting: a beat, its piece and a bye
abbrev pub group_frames : List Frame
group_frames = beat 0 1 ∷ sent 0 1 (670 ∷ 507 ∷ 507 ∷ []) ∷ bye 0 1 ∷ []

-- a piece and a crash on a client lane, and then the piece on a control lane
abbrev pub wrong_kinds : List Lane
wrong_kinds = client_lane (sent 0 1 (1 ∷ 3 ∷ 3 ∷ []) ∷ crash ∷ []) ∷ control_lane (sent 1 1 (5 ∷ 1 ∷ 1 ∷ []) ∷ []) ∷ []

-- pieces with fewer and fewer faults
abbrev pub faulty_lanes : List Lane
faulty_lanes = client_lane (
    piece (record { life = 1; group = 2; plane = 1; client = 1; rows = 2; first = 1; count = 1; samples = 1 ∷ 2 ∷ [] })
    ∷ piece (record { life = 1; group = 2; plane = 1; client = 1; rows = 3; first = 1; count = 1; samples = 1 ∷ 2 ∷ 3 ∷ [] })
    ∷ piece (record { life = 1; group = 1; plane = 1; client = 1; rows = 3; first = 1; count = 1; samples = 1 ∷ 2 ∷ 3 ∷ [] })
    ∷ piece (record { life = 1; group = 1; plane = 0; client = 1; rows = 3; first = 1; count = 1; samples = 1 ∷ 2 ∷ 3 ∷ [] })
    ∷ piece (record { life = 1; group = 1; plane = 0; client = 0; rows = 3; first = 1; count = 1; samples = 1 ∷ 2 ∷ 3 ∷ [] })
    ∷ piece (record { life = 1; group = 1; plane = 0; client = 0; rows = 3; first = 0; count = 1; samples = 1 ∷ 2 ∷ 3 ∷ [] })
    ∷ []) ∷ []

-- a tape of signed samples without a lane
abbrev pub signed_no_lane_tape : List ℕ
signed_no_lane_tape = 0x4d ∷ 0x54 ∷ 0x41 ∷ 0x50 ∷ 0 ∷ 2 ∷ 1 ∷ 0 ∷ 0 ∷ 0 ∷ 0 ∷ []

-- the lane of the two groups, with its bytes
abbrev pub two_groups_frames : List Frame
two_groups_frames = sent 0 1 (1 ∷ 3 ∷ 3 ∷ []) ∷ sent 1 1 (5 ∷ 1 ∷ 1 ∷ []) ∷ []

abbrev pub two_groups_lane : SpelledLane
two_groups_lane = record { rank = 0; kind = Client; bytes = joined (map spelling two_groups_frames) }

-- the five bytes of a save, and a client lane of it alone
abbrev pub save_bytes : List ℕ
save_bytes = 0 ∷ 0 ∷ 0 ∷ 1 ∷ 4 ∷ []

abbrev pub one_save : LaneEnd → Lane
one_save end = record (client_lane (save ∷ [])) { end = end }
