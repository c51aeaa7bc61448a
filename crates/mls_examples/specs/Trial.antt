-- The small study of which a trial is made, with its lanes and its schedule.
use Rattle.std.specs.Prelude.{ℕ, List, [], ◌∷◌, true}
use Rattle.mls_model.specs.declared.lanes.LaneKind.TheVariants.{Client, Control}
use Rattle.mls_model.specs.Studies.{Study}
use Rattle.mls_model.specs.Frames.{Frame, beat, save, crash}
use Rattle.mls_model.specs.Lanes.{Lane}
use Rattle.mls_model.specs.Histories.{LaneEvent}
use Rattle.mls_examples.specs.Small.{one_cell, client_lane, control_lane, sent}
use Rattle.mls_examples.specs.Designs.{designed_study}

abbrev pub tried_study : Study
tried_study = record designed_study { sizes = one_cell 1 }

abbrev pub signed_study : Study
signed_study = record designed_study { sizes = record (one_cell 1) { signed = true } }

-- the one piece of a life
abbrev pub tried_piece : ℕ → Frame
tried_piece life = sent 0 life (670 ∷ 507 ∷ 507 ∷ [])

abbrev pub tried_lanes : List Lane
tried_lanes = client_lane (beat 0 1 ∷ tried_piece 1 ∷ []) ∷ control_lane (save ∷ crash ∷ save ∷ crash ∷ []) ∷ client_lane (tried_piece 3 ∷ []) ∷ []

abbrev pub tried_order : List (List ℕ)
tried_order = (0 ∷ 1 ∷ 1 ∷ 0 ∷ 1 ∷ 1 ∷ 2 ∷ []) ∷ []

abbrev pub from_control : Frame → LaneEvent
from_control frame = record { kind = Control; frame = frame }

abbrev pub from_group : Frame → LaneEvent
from_group frame = record { kind = Client; frame = frame }

-- Beat, Save, Crash, Piece, Save, Crash, Piece of life 3
abbrev pub tried_history : List LaneEvent
tried_history = from_group (beat 0 1) ∷ from_control save ∷ from_control crash ∷ from_group (tried_piece 1) ∷ from_control save ∷ from_control crash ∷ from_group (tried_piece 3) ∷ []
