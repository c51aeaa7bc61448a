-- What a served connection leads to.
use Rattle.std.specs.Prelude.{◌≡◌, ℕ, ◌<◌, List, ◌++◌, length, take, Option, IfSome, ⊤, ◌⊎◌}
use Rattle.mls_base.specs.Told.{MayCease, Rose}
use Rattle.mls_model.specs.declared.lanes.LaneKind.TheVariants as kinds
use Rattle.mls_model.specs.declared.lanes.LaneEnd.{LaneEnd}
use Rattle.mls_model.specs.declared.lanes.LaneEnd.TheVariants as ends
use Rattle.mls_model.specs.declared.lanes.LaneLine.{LaneLine}
use Rattle.mls_model.specs.Studies.{Sizes}
use Rattle.mls_model.specs.Frames.{Frame, spelling, welcome, refuse}
use Rattle.mls_model.specs.Lanes.{lane_frames}
use Rattle.mls_book.specs.declared.faults.BookFault.TheVariants.{Memory}
use Rattle.mls_wire.specs.Links.{Talk, SentFront, after_read, after_write}
use Rattle.mls_wire.specs.Sessions.{greeting}
use Rattle.mls_wire.specs.declared.greeting.Greeting.{Greeting}
use Rattle.mls_wire.specs.declared.greeting.Greeting.TheVariants as greetings
use Rattle.mls_serve.specs.Posts.{Posted, posted, PostedFront, lane_posts}
use Rattle.mls_serve.specs.Readings.{HasRead, EndsLane}
use Rattle.mls_serve.specs.Steps.{Moving}
use Rattle.mls_serve.specs.Openings.{EndedEarly, answer_of}
use Rattle.mls_serve.specs.declared.served.Served.{Served}
use Rattle.mls_serve.specs.declared.served.Served.TheVariants as served
use Rattle.mls_serve.specs.declared.served.LaneFault.{LaneFault}

-- the line of a client lane with these bytes and this end
abbrev pub client_line : (rank lane : ℕ) → List ℕ → LaneEnd → LaneLine
client_line rank lane bytes end = record { lane = lane; rank = rank; kind = kinds.Client; events = length (lane_frames bytes); end = end }

-- A lane was served whole: more bytes were read after the first ones, and all posts of these bytes' frames were made.
pub record LaneServed (line : LaneLine) (group life rank lane : ℕ) (first : List ℕ) (old new : Moving) : Type 0 where
  pub bytes : List ℕ
  pub said : Option Talk
  pub read : HasRead bytes old.told said
  pub is_line : line ≡ client_line rank lane (first ++ bytes) line.end
  pub ended : EndsLane line.end (first ++ bytes) said new.told old.faults new.faults
  pub posts : new.posts ≡ posted old.posts (lane_posts group life rank lane (lane_frames (first ++ bytes)))

-- The same up to a fault: a front of the posts was made.
pub record LaneStopped (group life rank lane : ℕ) (first : List ℕ) (old new : Moving) : Type 0 where
  pub bytes : List ℕ
  pub said : Option Talk
  pub read : HasRead bytes old.told said
  pub ceased : MayCease said new.told
  pub part : PostedFront old.posts new.posts (lane_posts group life rank lane (lane_frames (first ++ bytes)))

-- the same after these bytes were written
abbrev pub written_to : List ℕ → Moving → Moving
written_to bytes m = record { told = after_write bytes m.told; faults = m.faults; posts = m.posts; fed = m.fed }

-- a welcome is for one of so many ranks
abbrev pub WelcomesBelow : Greeting → ℕ → Type 0
WelcomesBelow (greetings.Welcome group life client rank) ranks = rank < ranks
WelcomesBelow (greetings.Refuse reason value) ranks = ⊤

-- After a welcome the lane was served.
pub record GreetedLane (line : LaneLine) (given : Greeting) (lane : ℕ) (first : List ℕ) (old new : Moving) : Type 0 where
  pub group : ℕ
  pub life : ℕ
  pub client : ℕ
  pub rank : ℕ
  pub welcomed : given ≡ greetings.Welcome group life client rank
  pub lane_is : LaneServed line group life rank lane first (written_to (spelling (welcome lane)) old) new

-- The first frame was refused.
pub record GreetedRefused (reason value : ℕ) (given : Greeting) (old new : Moving) : Type 0 where
  pub refused : given ≡ greetings.Refuse reason value
  pub told : new.told ≡ after_write (spelling (refuse reason value)) old.told
  pub faultless : new.faults ≡ old.faults
  pub posts : new.posts ≡ old.posts

-- The answer couldn't be written whole.
pub record GreetedInVain (end : LaneEnd) (given : Greeting) (lane : ℕ) (old new : Moving) : Type 0 where
  pub is_end : end ≡ ends.Fault 0
  pub front : SentFront old.told new.told (spelling (answer_of given lane))
  pub rose : Rose old.faults new.faults
  pub posts : new.posts ≡ old.posts

abbrev pub GreetedServed : Served → Greeting → (lane : ℕ) → (first : List ℕ) → Moving → Moving → Type 0
GreetedServed (served.Lane line) given lane first old new = GreetedLane line given lane first old new
GreetedServed (served.Refused reason value) given lane first old new = GreetedRefused reason value given old new
GreetedServed (served.Early end) given lane first old new = GreetedInVain end given lane old new

-- Memory ran out before the answer was written.
pub record StoppedUnanswered (fault : LaneFault) (old new : Moving) : Type 0 where
  pub is_memory : fault ≡ record { rank = 0; fault = Memory }
  pub link : new.told ≡ old.told
  pub faultless : new.faults ≡ old.faults
  pub posts : new.posts ≡ old.posts

-- A lane that was welcomed was stopped.
pub record StoppedWelcomed (fault : LaneFault) (given : Greeting) (lane : ℕ) (first : List ℕ) (old new : Moving) : Type 0 where
  pub group : ℕ
  pub life : ℕ
  pub client : ℕ
  pub welcomed : given ≡ greetings.Welcome group life client fault.rank
  pub lane_is : LaneStopped group life fault.rank lane first (written_to (spelling (welcome lane)) old) new

abbrev pub GreetedStopped : LaneFault → Greeting → (lane : ℕ) → (first : List ℕ) → Moving → Moving → Type 0
GreetedStopped fault given lane first old new = StoppedUnanswered fault old new ⊎ StoppedWelcomed fault given lane first old new

-- What contracts of a connection speak of: what the link tells and its count of faults, and what the post tells.
pub record Talking : Type 0 where
  pub told : Option Talk
  pub faults : ℕ
  pub posts : Option (List Posted)

abbrev pub talking : Option Talk → ℕ → Option (List Posted) → Talking
talking told faults posts = record { told = told; faults = faults; posts = posts }

-- These bytes were read, the first of those that were left, and this was written meanwhile.
pub record Spoke (read written : List ℕ) (old now : Option Talk) : Type 0 where
  pub told : now ≡ after_write written (after_read (length read) old)
  pub front : IfSome old (λ talk. take (length read) talk.left ≡ read)

-- The connection was a lane: its first frame is welcomed, and the bytes after it are the lane's.
pub record WasLane (line : LaneLine) (s : Sizes) (lane : ℕ) (old new : Talking) : Type 0 where
  pub frame : Frame
  pub group : ℕ
  pub life : ℕ
  pub client : ℕ
  pub rank : ℕ
  pub bytes : List ℕ
  pub said : Option Talk
  pub welcomed : greeting s frame ≡ greetings.Welcome group life client rank
  pub spoke : Spoke (spelling frame ++ bytes) (spelling (welcome lane)) old.told said
  pub is_line : line ≡ client_line rank lane bytes line.end
  pub ended : EndsLane line.end bytes said new.told old.faults new.faults
  pub posts : new.posts ≡ posted old.posts (lane_posts group life rank lane (lane_frames bytes))

-- The connection was refused: its first frame is, and nothing was posted.
pub record WasRefused (reason value : ℕ) (s : Sizes) (old new : Talking) : Type 0 where
  pub frame : Frame
  pub bytes : List ℕ
  pub refused : greeting s frame ≡ greetings.Refuse reason value
  pub spoke : Spoke (spelling frame ++ bytes) (spelling (refuse reason value)) old.told new.told
  pub faultless : new.faults ≡ old.faults
  pub posts : new.posts ≡ old.posts

-- The answer to the first frame couldn't be written whole: a front of it was.
pub record WasUnanswered (end : LaneEnd) (s : Sizes) (lane : ℕ) (old new : Talking) : Type 0 where
  pub frame : Frame
  pub bytes : List ℕ
  pub said : Option Talk
  pub is_end : end ≡ ends.Fault 0
  pub read : HasRead (spelling frame ++ bytes) old.told said
  pub front : SentFront said new.told (spelling (answer_of (greeting s frame) lane))
  pub rose : Rose old.faults new.faults

-- No whole frame came, or the answer couldn't be written. Nothing was posted.
pub record WasEarly (end : LaneEnd) (s : Sizes) (lane : ℕ) (old new : Talking) : Type 0 where
  pub cause : EndedEarly end old.told new.told old.faults new.faults ⊎ WasUnanswered end s lane old new
  pub posts : new.posts ≡ old.posts

-- what each answer says of the connection
abbrev pub IsServed : Served → Sizes → (lane : ℕ) → Talking → Talking → Type 0
IsServed (served.Lane line) s lane old new = WasLane line s lane old new
IsServed (served.Refused reason value) s lane old new = WasRefused reason value s old new
IsServed (served.Early end) s lane old new = WasEarly end s lane old new

-- A fault before a welcome is want of memory: nothing was written or posted.
pub record StoppedEarly (fault : LaneFault) (old new : Talking) : Type 0 where
  pub is_memory : fault ≡ record { rank = 0; fault = Memory }
  pub bytes : List ℕ
  pub read : HasRead bytes old.told new.told
  pub faultless : new.faults ≡ old.faults
  pub posts : new.posts ≡ old.posts

-- A fault after a welcome is the rank's: a front of the lane's posts was made.
pub record StoppedLate (fault : LaneFault) (s : Sizes) (lane : ℕ) (old new : Talking) : Type 0 where
  pub frame : Frame
  pub group : ℕ
  pub life : ℕ
  pub client : ℕ
  pub bytes : List ℕ
  pub said : Option Talk
  pub welcomed : greeting s frame ≡ greetings.Welcome group life client fault.rank
  pub spoke : Spoke (spelling frame ++ bytes) (spelling (welcome lane)) old.told said
  pub ceased : MayCease said new.told
  pub part : PostedFront old.posts new.posts (lane_posts group life fault.rank lane (lane_frames bytes))

abbrev pub IsStopped : LaneFault → Sizes → (lane : ℕ) → Talking → Talking → Type 0
IsStopped fault s lane old new = StoppedEarly fault old new ⊎ StoppedLate fault s lane old new

-- an end that isn't for as many bytes as a lane may give
abbrev pub IsShort : LaneEnd → Type 0
IsShort ends.Clean = ⊤
IsShort (ends.Cut at) = ⊤
IsShort (ends.BadKind at) = ⊤
IsShort (ends.BadLength at) = ⊤
IsShort (ends.Fault at) = ⊤
IsShort (ends.Full at) = ⊥

-- a connection that has no lane line isn't ended for as many bytes
abbrev pub IsShortIfEarly : Served → Type 0
IsShortIfEarly (served.Lane line) = ⊤
IsShortIfEarly (served.Refused reason value) = ⊤
IsShortIfEarly (served.Early end) = IsShort end
