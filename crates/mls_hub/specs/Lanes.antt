-- What happens at a rank of a hub: events of its control lanes, on which Saves alone stand, and of its connections' lanes.
use Rattle.std.specs.Prelude.{ℕ, Bool, cond, nat_lt, ◌==◌, List, [], Option, Some}
use Rattle.std.specs.Option.{option_to_list, option_map}
use Rattle.mls_model.specs.declared.lanes.LaneKind.TheVariants as kinds
use Rattle.mls_model.specs.Numbers.{element, times}
use Rattle.mls_model.specs.Places.{gathered}
use Rattle.mls_model.specs.Frames.{Frame, save}
use Rattle.mls_model.specs.Histories.{LaneEvent}

-- a Save of a control lane
abbrev pub save_event : LaneEvent
save_event = record { kind = kinds.Control; frame = save }

-- a frame of a client lane
abbrev pub client_event : Frame → LaneEvent
client_event frame = record { kind = kinds.Client; frame = frame }

-- event number i of lane k, where there is one: the lanes below the number of ranks are control lanes
abbrev pub hub_event : (ranks : ℕ) → (ℕ → List Frame) → (k i : ℕ) → Option LaneEvent
hub_event ranks frames k i = cond (nat_lt k ranks) (Some save_event) (option_map client_event (element (frames k) i))

-- For the i-th time (from 0) that lane k stands in the journal, event i of lane k.
unfoldable pub hub_history : (ranks : ℕ) → (ℕ → List Frame) → List ℕ → List LaneEvent
hub_history ranks frames journal = gathered (λ before k. option_to_list (hub_event ranks frames k (times k before))) [] journal

-- the frames of each lane, with one more list of frames behind those of lane k
abbrev pub with_frames : (ℕ → List Frame) → (k : ℕ) → List Frame → ℕ → List Frame
with_frames frames k own j = cond (j == k) own (frames j)
