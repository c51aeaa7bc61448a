-- The tape of trial: what its groups plan to send, how often each planned piece is written, and its lanes.
use Rattle.std.specs.Prelude.{ℕ, ◌+◌, ◌/◌, ◌%◌, Bool, true, false, cond, List, [], ◌∷◌, ◌++◌, length, map, replicate, count_by, ◌==◌, sum_by}
use Rattle.std.specs.List.{flat_map}
use Rattle.mls_model.specs.declared.lanes.LaneKind.{LaneKind}
use Rattle.mls_model.specs.declared.lanes.LaneKind.TheVariants.{Client, Control}
use Rattle.mls_model.specs.declared.lanes.LaneEnd.TheVariants.{Clean}
use Rattle.mls_model.specs.Numbers.{below, joined}
use Rattle.mls_model.specs.Places.{gathered}
use Rattle.mls_model.specs.Studies.{Study, Sizes}
use Rattle.mls_model.specs.Blocks.{overlaps}
use Rattle.mls_model.specs.Frames.{Frame, piece, beat, save, crash, spelling}
use Rattle.mls_model.specs.Lanes.{Lane, SpelledLane, tape_bytes}
use Rattle.mls_model.specs.Designs.{word, solved_piece}
use Rattle.mls_design.specs.declared.trial.route.Route.{Route}

-- the route from a client to a rank, where the client overlaps its block
abbrev pub route_of : Sizes → ℕ → ℕ → List Route
route_of s rank client = cond (overlaps s rank client) (record { rank = rank; client = client } ∷ []) []

-- the routes to a rank, client by client
unfoldable pub rank_routes : Sizes → ℕ → List Route
rank_routes s rank = flat_map (route_of s rank) (below s.clients)

-- all routes, rank by rank
unfoldable pub routes : Sizes → List Route
routes s = flat_map (rank_routes s) (below s.ranks)

-- the first words of a number are those of the groups; a group is restarted where its word is 0 modulo 8
unfoldable pub is_restarted : ℕ → ℕ → Bool
is_restarted number group = word number group % 8 == 0

-- a group's pieces of a life for a step, field by field
abbrev pub step_pieces : Study → Route → (group life step : ℕ) → List Frame
step_pieces study p group life step = map (λ field. piece (solved_piece study group life step field p.rank p.client)) (below study.sizes.fields)

-- those for the first so many steps, step by step
unfoldable pub life_pieces : Study → Route → (group life steps : ℕ) → List Frame
life_pieces study p group life steps = flat_map (step_pieces study p group life) (below steps)

-- a life of a group: it says that it is there, and sends these pieces
unfoldable pub life_frames : Study → Route → (group life steps : ℕ) → List Frame
life_frames study p group life steps = beat group life ∷ life_pieces study p group life steps

-- What a group plans to send: life 1 with all steps; or, where it is restarted, life 1 with half of them and life 2 with all.
unfoldable pub group_frames : Study → ℕ → Route → ℕ → List Frame
group_frames study number p group =
    cond (is_restarted number group)
    (life_frames study p group 1 (study.sizes.steps / 2) ++ life_frames study p group 2 study.sizes.steps)
    (life_frames study p group 1 study.sizes.steps)

-- what all groups plan to send from a client to a rank, group by group
unfoldable pub planned : Study → ℕ → Route → List Frame
planned study number p = flat_map (group_frames study number p) (below study.sizes.groups)

abbrev pub is_piece : Frame → Bool
is_piece (piece p) = true
is_piece _ = false

abbrev pub piece_count : List Frame → ℕ
piece_count frames = count_by is_piece frames

-- how often a planned piece with this word is written
abbrev pub copies : ℕ → ℕ
copies w = cond (w % 16 == 0) 0 (cond (w % 16 == 1) 2 1)

-- A planned frame as it is written; number n of the words is that of a piece.
abbrev pub written : ℕ → ℕ → Frame → List Frame
written number n frame = cond (is_piece frame) (replicate (copies (word number n)) frame) (frame ∷ [])

-- The frames that are written of planned ones. Each planned piece takes a word, in order; the first takes word number n.
unfoldable pub sent : ℕ → ℕ → List Frame → List Frame
sent number n frames = gathered (λ before frame. written number (n + piece_count before) frame) [] frames

-- The number of the word that the first piece takes behind those of these routes: the groups' words stand before all.
unfoldable pub words_before : Study → ℕ → List Route → ℕ
words_before study number before = study.sizes.groups + piece_count (flat_map (planned study number) before)

abbrev pub lane_with : ℕ → LaneKind → List Frame → Lane
lane_with rank kind frames = record { rank = rank; kind = kind; frames = frames; end = Clean }

-- The first lanes: for each route what is written of its planned frames. All planned pieces, lane by lane, are one list.
unfoldable pub first_lane : Study → ℕ → List Route → Route → Lane
first_lane study number before p = lane_with p.rank Client (sent number (words_before study number before) (planned study number p))

unfoldable pub first_lanes : Study → ℕ → List Lane
first_lanes study number = gathered (λ before p. first_lane study number before p ∷ []) [] (routes study.sizes)

-- a control lane for each rank
abbrev pub control_lane : ℕ → Lane
control_lane rank = lane_with rank Control (save ∷ crash ∷ save ∷ crash ∷ [])

unfoldable pub control_lanes : Sizes → List Lane
control_lanes s = map control_lane (below s.ranks)

-- The resent lanes: for each route the pieces of life 3 of all groups.
unfoldable pub resent_frames : Study → Route → List Frame
resent_frames study p = flat_map (λ group. life_pieces study p group 3 study.sizes.steps) (below study.sizes.groups)

abbrev pub resent_lane : Study → Route → Lane
resent_lane study p = lane_with p.rank Client (resent_frames study p)

unfoldable pub resent_lanes : Study → List Lane
resent_lanes study = map (resent_lane study) (routes study.sizes)

-- the lanes before the resent ones, and all lanes in the order of their making
unfoldable pub earlier_lanes : Study → ℕ → List Lane
earlier_lanes study number = first_lanes study number ++ control_lanes study.sizes

unfoldable pub trial_lanes : Study → ℕ → List Lane
trial_lanes study number = earlier_lanes study number ++ resent_lanes study

-- a lane whose bytes are the spellings of its frames
abbrev pub frame_bytes : List Frame → List ℕ
frame_bytes frames = joined (map spelling frames)

abbrev pub spelled : Lane → SpelledLane
spelled lane = record { rank = lane.rank; kind = lane.kind; bytes = frame_bytes lane.frames }

-- version 1 of a tape under u16, and 2 under i16
abbrev pub version_of : Bool → ℕ
version_of signed = cond signed 2 1

-- The tape's bytes.
unfoldable pub trial_bytes : Study → ℕ → List ℕ
trial_bytes study number = tape_bytes study.sizes.signed (version_of study.sizes.signed) (map spelled (trial_lanes study number))

-- the number of all lanes' events
unfoldable pub lane_events : List Lane → ℕ
lane_events lanes = sum_by (λ (lane : Lane). length lane.frames) lanes
