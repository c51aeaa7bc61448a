-- The small studies, pieces and lanes of which the examples are made.
use Rattle.std.specs.Prelude.{ℕ, List, [], ◌∷◌, false, None, pos, codes}
use Rattle.mls_model.specs.declared.lanes.LaneKind.TheVariants.{Client, Control}
use Rattle.mls_model.specs.declared.lanes.LaneEnd.TheVariants.{Clean}
use Rattle.mls_model.specs.declared.studies.Statistic.{Statistic}
use Rattle.mls_model.specs.declared.studies.Statistic.TheVariants.{Power, Sobol}
use Rattle.mls_model.specs.Studies.{Sizes, Study}
use Rattle.mls_model.specs.Frames.{Frame, Piece, piece}
use Rattle.mls_model.specs.Lanes.{Lane}

-- one cell and one step for so many groups, at one rank, with one client and one parameter
abbrev pub one_cell : ℕ → Sizes
one_cell groups = record { cells = 1; steps = 1; groups = groups; parameters = 1; ranks = 1; clients = 1; slots = 1; silence = 300; lives = 3; thresholds = []; signed = false; fields = 1 }

-- a study of these sizes with the parameter x from 0 to 9
abbrev pub study_of : Sizes → List Statistic → Study
study_of sizes statistics = record { sizes = sizes; seed = 0; field_names = None; statistics = statistics; parameters = record { name = codes "x"; low = pos 0; high = pos 9 } ∷ [] }

-- the study of most examples: two groups, the power and index lines
abbrev pub small_study : Study
small_study = study_of (one_cell 2) (Power ∷ Sobol ∷ [])

-- the piece of a group and life with the samples of A, B and C^0 in the one cell
abbrev pub small_piece : ℕ → ℕ → List ℕ → Piece
small_piece group life samples = record { life = life; group = group; plane = 0; client = 0; rows = 3; first = 0; count = 1; samples = samples }

abbrev pub sent : ℕ → ℕ → List ℕ → Frame
sent group life samples = piece (small_piece group life samples)

-- lanes of rank 0 whose bytes end with their last frame
abbrev pub client_lane : List Frame → Lane
client_lane frames = record { rank = 0; kind = Client; frames = frames; end = Clean }

abbrev pub control_lane : List Frame → Lane
control_lane frames = record { rank = 0; kind = Control; frames = frames; end = Clean }
