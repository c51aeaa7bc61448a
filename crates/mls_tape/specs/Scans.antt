-- What a scan of a lane finds, and the tables that a tape keeps beside its bytes.
use Rattle.std.specs.Prelude.{◌≡◌, ℕ, ◌+◌, ◌<◌, ◌≤◌, Bool, List, [], ◌∷◌, length, map, slice_index, drop, Some, Ok, Err}
use Rattle.std.specs.List.{flat_map, AllByRecursion}
use Rattle.mls_model.specs.Numbers.{element}
use Rattle.mls_model.specs.Frames.{Frame, spelling, Sight, whole, more, bad, sight}
use Rattle.mls_model.specs.Lanes.{Lane, LaneBytes, lane_frames, lane_of, tape_of}
use Rattle.mls_tape.specs.declared.scanning.Entry.{Entry}

-- where the frames begin that stand one after another from a place on
abbrev pub starts_from : ℕ → List Frame → List ℕ
starts_from at [] = []
starts_from at (f ∷ fs) = at ∷ starts_from (at + length (spelling f)) fs

-- the same of all lanes
abbrev pub all_starts : List LaneBytes → List ℕ
all_starts parts = flat_map (λ (p : LaneBytes). starts_from p.at (lane_frames p.bytes)) parts

-- the lanes that have these bytes
abbrev pub lanes_made : List LaneBytes → List Lane
lanes_made parts = map (λ (p : LaneBytes). lane_of p.rank p.kind p.bytes) parts

-- what a tape keeps of a lane, with the number of events of earlier lanes
abbrev pub entry_of : ℕ → Lane → Entry
entry_of before lane = record { rank = lane.rank; kind = lane.kind; first = before; events = length lane.frames; end = lane.end }

-- it is an entry of the lane
pub record IsEntry (entry : Entry) (lane : Lane) : Type 0 where
  pub rank : entry.rank ≡ lane.rank
  pub kind : entry.kind ≡ lane.kind
  pub events : entry.events ≡ length lane.frames
  pub end : entry.end ≡ lane.end

abbrev pub entries_of : ℕ → List Lane → List Entry
entries_of before [] = []
entries_of before (lane ∷ lanes) = entry_of before lane ∷ entries_of (before + length lane.frames) lanes

-- From number before on, the starts are those of these frames in the tape's bytes.
abbrev pub AreStarts : List ℕ → List ℕ → ℕ → List Frame → Type 0
AreStarts starts bytes before frames = (i : ℕ) (f : Frame) → element frames i ≡ Some f → (before + i < length starts) × (sight (drop (slice_index starts (before + i)) bytes) ≡ whole f (length (spelling f)))

abbrev pub AreAllStarts : List ℕ → List ℕ → ℕ → List Lane → Type 0
AreAllStarts starts bytes before [] = Unit {0}
AreAllStarts starts bytes before (lane ∷ lanes) = AreStarts starts bytes before lane.frames × AreAllStarts starts bytes (before + length lane.frames) lanes

-- the lanes of a tape, and none of what is no tape
abbrev pub lanes_in : ℕ → Bool → List ℕ → List Lane
lanes_in ranks signed bytes = elim (tape_of ranks signed bytes) [ Ok lanes ↦ lanes | Err e ↦ [] ]

-- the tables are those of the tape
pub record TablesFit (ranks : ℕ) (signed : Bool) (bytes : List ℕ) (entries : List Entry) (starts : List ℕ) : Type 0 where
  pub read : tape_of ranks signed bytes ≡ Ok (lanes_in ranks signed bytes)
  pub table : entries ≡ entries_of 0 (lanes_in ranks signed bytes)
  pub begins : AreAllStarts starts bytes 0 (lanes_in ranks signed bytes)
  pub few : length (lanes_in ranks signed bytes) ≤ 65535
  pub known : AllByRecursion (λ (lane : Lane). lane.rank < ranks) (lanes_in ranks signed bytes)

-- a whole frame is seen
abbrev pub IsWholeSight : Sight → Type 0
IsWholeSight (whole f used) = Unit {0}
IsWholeSight more = ⊥
IsWholeSight (bad fault) = ⊥
