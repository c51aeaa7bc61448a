-- What a hub keeps of a connection.
use Rattle.std.specs.Prelude.{◌≡◌, ℕ, ◌+◌, ◌-◌, ◌<◌, ◌≤◌, Bool, true, false, List, [], ◌∷◌, ◌++◌, length, take, Option, Some, None, IfSome, ⊤, ◌⊎◌}
use Rattle.mls_model.specs.declared.lanes.LaneKind.TheVariants as kinds
use Rattle.mls_model.specs.declared.lanes.LaneEnd.{LaneEnd}
use Rattle.mls_model.specs.declared.lanes.LaneEnd.TheVariants as ends
use Rattle.mls_model.specs.declared.lanes.LaneLine.{LaneLine}
use Rattle.mls_model.specs.Studies.{Sizes}
use Rattle.mls_model.specs.Frames.{Frame, spelling, welcome, refuse}
use Rattle.mls_wire.specs.Sessions.{greeting}
use Rattle.mls_wire.specs.declared.greeting.Greeting.{Greeting}
use Rattle.mls_wire.specs.declared.greeting.Greeting.TheVariants as greetings
use Rattle.mls_poll.specs.declared.outside.PollLink as link
use Rattle.mls_poll.specs.Streams.{HasGiven, EndsBy, EndsLane, OfRead}
use Rattle.mls_hub.specs.declared.connection.Connection.{Connection}
use Rattle.mls_hub.specs.declared.connection.Stage.{Stage}
use Rattle.mls_hub.specs.declared.connection.Stage.TheVariants as stages
use Rattle.mls_base.specs.Told.{Rose}
use Rattle.mls_hub.specs.declared.settling.Settled.{Settled}
use Rattle.mls_hub.specs.declared.settling.Settled.TheVariants as settled
use Rattle.mls_hub.specs.declared.connection.Heard.{Heard}
use Rattle.mls_hub.specs.declared.connection.Heard.TheVariants as heard

-- the frame that answers: Welcome with the lane's number, or Refuse
abbrev pub answer_of : Greeting → ℕ → Frame
answer_of (greetings.Welcome group life client rank) lane = welcome lane
answer_of (greetings.Refuse reason value) lane = refuse reason value

-- a welcome is for one of so many ranks
abbrev pub WelcomesBelow : Greeting → ℕ → Type 0
WelcomesBelow (greetings.Welcome group life client rank) ranks = rank < ranks
WelcomesBelow (greetings.Refuse reason value) ranks = ⊤

-- an end whose place is counted from behind so many bytes
abbrev pub behind : ℕ → LaneEnd → LaneEnd
behind head ends.Clean = ends.Clean
behind head (ends.Cut at) = ends.Cut (at - head)
behind head (ends.BadKind at) = ends.BadKind (at - head)
behind head (ends.BadLength at) = ends.BadLength (at - head)
behind head (ends.Fault at) = ends.Fault (at - head)
behind head (ends.Full at) = ends.Full (at - head)

-- The end that the stream of a connection gave: it is the lane's of the bytes that were read, with these frames.
pub record EndsAs {L : Type 0} (U : link.Ghosts L) (end : LaneEnd) (given : List Frame) (c : Connection L) : Type 0 where
  pub before : ℕ
  pub ends : EndsBy end c.stream.offset c.stream.held (c.stream.offset + length c.stream.held) (U.told c.stream.link) before (U.faults c.stream.link)
  pub lane : OfRead (U.told c.stream.link) (λ bytes. EndsLane end given (U.told c.stream.link) before (U.faults c.stream.link) bytes)

-- Only frames came for which there is no answer yet.
pub record IsUnanswered (given frames lost : List Frame) (answer : List ℕ) : Type 0 where
  pub given_are : given ≡ lost
  pub none : frames ≡ []
  pub unsaid : answer ≡ []

-- The first frame is greeted so, and this is its answer.
pub record IsGreeted (s : Sizes) (lane : ℕ) (given_as : Greeting) (given frames lost : List Frame) (answer : List ℕ) : Type 0 where
  pub first : Frame
  pub greets : given_as ≡ greeting s first
  pub within : WelcomesBelow given_as s.ranks
  pub given_are : given ≡ first ∷ lost
  pub none : frames ≡ []
  pub answered : answer ≡ spelling (answer_of given_as lane)

-- The first frame is welcomed as a rank's, the answer was written whole, and the frames behind it are the lane's.
pub record IsWelcomed (s : Sizes) (lane rank head : ℕ) (given frames lost : List Frame) (answer : List ℕ) (written : ℕ) : Type 0 where
  pub first : Frame
  pub group : ℕ
  pub life : ℕ
  pub client : ℕ
  pub welcomed : greeting s first ≡ greetings.Welcome group life client rank
  pub within : rank < s.ranks
  pub given_are : given ≡ first ∷ (frames ++ lost)
  pub head_is : head ≡ length (spelling first)
  pub answered : answer ≡ spelling (welcome lane)
  pub whole : written ≡ length answer

-- A frame was lost at a fault of the hub: the frames of the lane are those that were taken before.
pub record IsStopped (s : Sizes) (lane : ℕ) (given frames : List Frame) (answer : List ℕ) : Type 0 where
  pub first : Frame
  pub lost : List Frame
  pub given_are : given ≡ first ∷ (frames ++ lost)
  pub answered : (answer ≡ []) ⊎ (answer ≡ spelling (answer_of (greeting s first) lane))

-- The connection ended with no lane: no whole frame came, or the first was refused, or its answer couldn't be written whole.
pub record EndedEarly (given frames : List Frame) (answer : List ℕ) : Type 0 where
  pub nothing : given ≡ []
  pub none : frames ≡ []
  pub unsaid : answer ≡ []

pub record EndedAnswered (s : Sizes) (lane : ℕ) (given frames : List Frame) (answer : List ℕ) (written : ℕ) : Type 0 where
  pub first : Frame
  pub given_are : given ≡ first ∷ []
  pub none : frames ≡ []
  pub answered : answer ≡ spelling (answer_of (greeting s first) lane)
  pub unwelcomed : (written < length answer) ⊎ ((reason : ℕ) × ((value : ℕ) × (greeting s first ≡ greetings.Refuse reason value)))

-- The line of a lane that ended.
pub record EndedLane {L : Type 0} (U : link.Ghosts L) (s : Sizes) (lane : ℕ) (line : LaneLine) (given frames : List Frame) (c : Connection L) : Type 0 where
  pub head : ℕ
  pub end : LaneEnd
  pub welcomed : IsWelcomed s lane line.rank head given frames [] c.answer.items c.written
  pub number : line.lane ≡ lane
  pub kind : line.kind ≡ kinds.Client
  pub events : line.events ≡ length frames
  pub ended : EndsAs U end given c
  pub end_is : line.end ≡ behind head end

-- What is known at each stage of a connection whose stream gave these frames, of which frames were taken as events of its lane
-- and lost ones weren't. going is false once the hub has an end.
abbrev pub IsAt : {L : Type 0} (U : link.Ghosts L) → Sizes → (going : Bool) → (lane : ℕ) → Stage → (given frames lost : List Frame) → Connection L → Type 0
IsAt U s going lane stages.Opening given frames lost c = IsUnanswered given frames lost c.answer.items
IsAt U s going lane (stages.Answering given_as) given frames lost c = IsGreeted s lane given_as given frames lost c.answer.items
IsAt U s going lane (stages.Lane rank head) given frames lost c = IsWelcomed s lane rank head given frames lost c.answer.items c.written
IsAt U s going lane stages.Stopped given frames lost c = (going ≡ false) × IsStopped s lane given frames c.answer.items
IsAt U s going lane (stages.Ended None) given frames lost c = EndedEarly given frames c.answer.items ⊎ EndedAnswered s lane given frames c.answer.items c.written
IsAt U s going lane (stages.Ended (Some line)) given frames lost c = EndedLane U s lane line given frames c

-- What was written is the first bytes of the answer, and the stage is as is said of it.
pub record Says {L : Type 0} (U : link.Ghosts L) (s : Sizes) (going : Bool) (lane : ℕ) (given frames lost : List Frame) (c : Connection L) : Type 0 where
  pub has : HasGiven (U.told c.stream.link) c.stream.offset c.stream.held given
  pub said : IfSome (U.told c.stream.link) (λ talk. talk.written ≡ take c.written c.answer.items)
  pub fits : c.written ≤ length c.answer.items
  pub stage : IsAt U s going lane c.stage given frames lost c

-- a connection that may still give something
abbrev pub is_live : Stage → Bool
is_live stages.Opening = true
is_live (stages.Answering given_as) = true
is_live (stages.Lane rank head) = true
is_live stages.Stopped = false
is_live (stages.Ended line) = false

-- What a hub keeps of a connection.
pub record IsConnected {L : Type 0} (U : link.Ghosts L) (s : Sizes) (going : Bool) (lane : ℕ) (frames : List Frame) (c : Connection L) : Type 0 where
  pub given : List Frame
  pub says : Says U s going lane given frames [] c
  pub live : is_live c.stage ≡ true → c.stream.ended ≡ false

-- a connection has its end
abbrev pub has_end : Stage → Bool
has_end stages.Opening = false
has_end (stages.Answering given_as) = false
has_end (stages.Lane rank head) = false
has_end stages.Stopped = false
has_end (stages.Ended line) = true

-- whether the stage waits for frames
abbrev pub listens : Stage → Bool
listens stages.Opening = true
listens (stages.Answering given_as) = false
listens (stages.Lane rank head) = true
listens stages.Stopped = false
listens (stages.Ended line) = false

-- the connection's lane is a rank's
abbrev pub IsOf : Stage → ℕ → Type 0
IsOf stages.Opening rank = ⊥
IsOf (stages.Answering given_as) rank = ⊥
IsOf (stages.Lane own head) rank = own ≡ rank
IsOf stages.Stopped rank = ⊥
IsOf (stages.Ended None) rank = ⊥
IsOf (stages.Ended (Some line)) rank = line.rank ≡ rank

-- the frames that were heard
abbrev pub frames_heard : Heard → List Frame
frames_heard heard.Waits = []
frames_heard (heard.Frame frame) = frame ∷ []
frames_heard (heard.End end) = []
frames_heard heard.Memory = []

-- whether the end was heard
abbrev pub is_end_heard : Heard → Bool
is_end_heard heard.Waits = false
is_end_heard (heard.Frame frame) = false
is_end_heard (heard.End end) = true
is_end_heard heard.Memory = false

abbrev pub IfEndHeard : Heard → (LaneEnd → Type 0) → Type 0
IfEndHeard heard.Waits P = ⊤
IfEndHeard (heard.Frame frame) P = ⊤
IfEndHeard (heard.End end) P = P end
IfEndHeard heard.Memory P = ⊤

-- where nothing came yet
abbrev pub OnWaits : Heard → Type 0 → Type 0
OnWaits heard.Waits P = P
OnWaits (heard.Frame frame) P = ⊤
OnWaits (heard.End end) P = ⊤
OnWaits heard.Memory P = ⊤

-- The stream of a connection gave so many frames more, and its link's count of pending calls didn't fall.
pub record Gave {L : Type 0} (U : link.Ghosts L) (many : ℕ) (old new : Connection L) : Type 0 where
  pub later : U.waits old.stream.link ≤ U.waits new.stream.link
  pub more : List Frame
  pub count : length more ≡ many
  pub gave : (given : List Frame) → HasGiven (U.told old.stream.link) old.stream.offset old.stream.held given → HasGiven (U.told new.stream.link) new.stream.offset new.stream.held (given ++ more)

-- what a first frame leaves: it is answered, or for want of memory it is lost
abbrev pub is_answering : Stage → Bool
is_answering stages.Opening = false
is_answering (stages.Answering given_as) = true
is_answering (stages.Lane rank head) = false
is_answering stages.Stopped = false
is_answering (stages.Ended line) = false

-- how far a connection has come once its answer was written, the bytes so far being those of its first frame
abbrev pub stage_after : Greeting → ℕ → Stage
stage_after (greetings.Welcome group life client rank) offset = stages.Lane rank offset
stage_after (greetings.Refuse reason value) offset = stages.Ended None

-- More of the answer was written, and nothing else changed. After a failed write the link may tell nothing any more.
pub record WroteMore {L : Type 0} (U : link.Ghosts L) (old new : Connection L) : Type 0 where
  pub stage : new.stage ≡ old.stage
  pub answer : new.answer.items ≡ old.answer.items
  pub fits : new.written ≤ length new.answer.items
  pub offset : new.stream.offset ≡ old.stream.offset
  pub ended : new.stream.ended ≡ old.stream.ended
  pub given : (given : List Frame) → HasGiven (U.told old.stream.link) old.stream.offset old.stream.held given → HasGiven (U.told new.stream.link) new.stream.offset new.stream.held given
  pub said : IfSome (U.told old.stream.link) (λ talk. talk.written ≡ take old.written old.answer.items) → IfSome (U.told new.stream.link) (λ talk. talk.written ≡ take new.written new.answer.items)

-- the stream gave what it gave before
abbrev pub GivesOn : {L : Type 0} (U : link.Ghosts L) → (old new : Connection L) → Type 0
GivesOn U old new = (given : List Frame) → HasGiven (U.told old.stream.link) old.stream.offset old.stream.held given → HasGiven (U.told new.stream.link) new.stream.offset new.stream.held given

-- The connection is a lane, and nothing was heard of it.
pub record IsLane {L : Type 0} (U : link.Ghosts L) (rank head : ℕ) (old new : Connection L) : Type 0 where
  pub stage : new.stage ≡ stages.Lane rank head
  pub given : GivesOn U old new
  pub waits : U.waits new.stream.link ≡ U.waits old.stream.link

-- what settling a connection leads to
abbrev pub IsSettled : {L : Type 0} (U : link.Ghosts L) → Settled → (old new : Connection L) → Type 0
IsSettled U settled.Took old new = Gave U 1 old new
IsSettled U settled.Waits old new = Rose (U.waits old.stream.link) (U.waits new.stream.link)
IsSettled U settled.Ended old new = has_end new.stage ≡ true
IsSettled U (settled.Lane rank head) old new = IsLane U rank head old new

abbrev pub OnSettledWaits : Settled → Type 0 → Type 0
OnSettledWaits settled.Took P = ⊤
OnSettledWaits settled.Waits P = P
OnSettledWaits settled.Ended P = ⊤
OnSettledWaits (settled.Lane rank head) P = ⊤

-- a lane that a connection has now was its own before, or nothing was taken of it
abbrev pub KeepsLane : (old new : Stage) → Type 0
KeepsLane old new = (rank : ℕ) → IsOf new rank → IsOf old rank ⊎ (is_answering old ≡ true)
