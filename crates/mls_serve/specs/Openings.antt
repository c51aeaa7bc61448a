-- How a connection begins: its first frame, and the answer.
use Rattle.std.specs.Prelude.{◌≡◌, ℕ, ◌+◌, ◌≤◌, List, ◌++◌, length, Option}
use Rattle.mls_model.specs.declared.lanes.LaneEnd.{LaneEnd}
use Rattle.mls_model.specs.Studies.{Sizes}
use Rattle.mls_model.specs.Frames.{Frame, spelling, welcome, refuse, Sight, whole, more, bad, sight}
use Rattle.mls_frame.specs.Feeding.{Fed, IsNoFrame}
use Rattle.mls_wire.specs.Links.{Talk}
use Rattle.mls_wire.specs.Sessions.{greeting}
use Rattle.mls_wire.specs.declared.greeting.Greeting.{Greeting}
use Rattle.mls_wire.specs.declared.greeting.Greeting.TheVariants as greetings
use Rattle.mls_serve.specs.Readings.{HasRead, EndsLane, most_bytes}
use Rattle.mls_serve.specs.declared.opening.First.{First}
use Rattle.mls_serve.specs.declared.opening.First.TheVariants as firsts
use Rattle.mls_serve.specs.declared.opening.Opening.{Opening}
use Rattle.mls_serve.specs.declared.opening.Opening.TheVariants as openings

-- a whole frame was seen, which is greeted so
pub record SawFirst (given : Greeting) (s : Sizes) (seen : Sight) : Type 0 where
  pub frame : Frame
  pub used : ℕ
  pub is_seen : seen ≡ whole frame used
  pub is_greeting : given ≡ greeting s frame

abbrev pub IsFirst : First → Sizes → Sight → Type 0
IsFirst (firsts.Greeted given) s seen = SawFirst given s seen
IsFirst firsts.More s seen = seen ≡ more
IsFirst (firsts.Bad fault) s seen = seen ≡ bad fault

-- Bytes were read that begin with a frame, and it is greeted so. What follows it is left.
pub record Greeted (given : Greeting) (s : Sizes) (old new : Option Talk) (fed : Fed) : Type 0 where
  pub frame : Frame
  pub is_greeting : given ≡ greeting s frame
  pub read : HasRead (spelling frame ++ fed.rest) old new
  pub offset : fed.offset ≡ length (spelling frame)
  pub few : fed.offset + length fed.rest ≤ most_bytes

-- Reading ended before a whole frame.
pub record EndedEarly (end : LaneEnd) (old new : Option Talk) (before after : ℕ) : Type 0 where
  pub bytes : List ℕ
  pub said : Option Talk
  pub read : HasRead bytes old said
  pub none : IsNoFrame (sight bytes)
  pub ended : EndsLane end bytes said new before after

-- the first frame, with the count of faults as before, or the end before it
abbrev pub HasOpened : Opening → Sizes → (old new : Option Talk) → (before after : ℕ) → Fed → Type 0
HasOpened (openings.Greeted given) s old new before after fed = Greeted given s old new fed × (after ≡ before)
HasOpened (openings.Ended end) s old new before after fed = EndedEarly end old new before after

-- the frame that answers: Welcome with the lane's number, or Refuse
abbrev pub answer_of : Greeting → ℕ → Frame
answer_of (greetings.Welcome group life client rank) lane = welcome lane
answer_of (greetings.Refuse reason value) lane = refuse reason value
