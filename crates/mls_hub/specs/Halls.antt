-- What a hub keeps of its books and connections together.
use Rattle.std.specs.Prelude.{◌≡◌, ◌≢◌, ℕ, ◌+◌, ◌^◌, ◌≤◌, ◌<◌, Bool, true, false, List, [], length, Some, Result, Ok, Err, ⊤, ◌⊎◌}
use Rattle.futures.specs.declared.task.Poll.{Poll}
use Rattle.futures.specs.declared.task.Poll.TheVariants.{Ready, Pending}
use Rattle.mls_base.specs.declared.outside.Keeper as keeper
use Rattle.mls_base.specs.Told.{Rose}
use Rattle.mls_model.specs.Studies.{Sizes}
use Rattle.mls_model.specs.Numbers.{element, times}
use Rattle.mls_model.specs.Frames.{Frame}
use Rattle.mls_tape.specs.Wires.{wire_of}
use Rattle.mls_field.specs.declared.fold.RowFold.{Ghosts}
use Rattle.mls_book.specs.Cores.{Stands}
use Rattle.mls_held.specs.declared.run.Run as run
use Rattle.mls_held.specs.Begun.{HasBegun}
use Rattle.mls_poll.specs.declared.outside.PollLink as link
use Rattle.mls_hub.specs.declared.connection.Connection.{Connection}
use Rattle.mls_hub.specs.declared.hall.Went.{Went}
use Rattle.mls_hub.specs.declared.hall.Went.TheVariants as went
use Rattle.mls_hub.specs.declared.connection.Stage.{Stage}
use Rattle.mls_hub.specs.Lanes.{hub_history}
use Rattle.mls_hub.specs.Books.{WireBook, GoOn, OneMoved}
use Rattle.mls_hub.specs.Connections.{IsConnected, IsOf, has_end, Gave}

-- A rank's book of the run, whose lanes gave these frames. The core stands for the history of its journal.
pub record IsSeated {F K R : Type 0} (T : Ghosts F) (W : keeper.Ghosts K) (N : run.Ghosts R) (frames : ℕ → List Frame) (rank : ℕ) (book : WireBook F K) : Type 0 where
  pub lanes : book.lanes ≡ wire_of N.lane_count
  pub sizes : book.core.sizes ≡ N.sizes
  pub of_rank : book.core.rank ≡ rank
  pub begun : HasBegun W (N.keepers rank) book
  pub stands : Stands T book.core (hub_history N.sizes.ranks frames book.journal)
  pub within : (k : ℕ) → N.sizes.ranks ≤ k → times k book.journal ≤ length (frames k)

-- What a hub keeps of its books and connections, whose lanes gave these frames: connection i is lane ranks + i. going is false
-- once the hub has an end.
pub record HallSays {L F K R : Type 0} (U : link.Ghosts L) (T : Ghosts F) (W : keeper.Ghosts K) (N : run.Ghosts R) (going : Bool) (books : List (WireBook F K)) (connections : List (Connection L)) (frames : ℕ → List Frame) : Type 0 where
  pub count : length books ≡ N.sizes.ranks
  pub room : N.sizes.ranks + length connections ≤ N.lane_count
  pub wide : N.lane_count < 2 ^ 32
  pub seated : (rank : ℕ) (book : WireBook F K) → element books rank ≡ Some book → IsSeated T W N frames rank book
  pub each : (i : ℕ) (c : Connection L) → element connections i ≡ Some c → IsConnected U N.sizes going (N.sizes.ranks + i) (frames (N.sizes.ranks + i)) c
  -- a lane stands in its rank's journal as often as frames were taken of it
  pub taken : (i : ℕ) (c : Connection L) (rank : ℕ) (book : WireBook F K) → element connections i ≡ Some c → IsOf c.stage rank → element books rank ≡ Some book → times (N.sizes.ranks + i) book.journal ≡ length (frames (N.sizes.ranks + i))
  pub unborn : (k : ℕ) → N.sizes.ranks + length connections ≤ k → frames k ≡ []

pub record HallKept {L F K R : Type 0} (U : link.Ghosts L) (T : Ghosts F) (W : keeper.Ghosts K) (N : run.Ghosts R) (going : Bool) (books : List (WireBook F K)) (connections : List (Connection L)) : Type 0 where
  pub frames : ℕ → List Frame
  pub says : HallSays U T W N going books connections frames

-- The stream of a connection gave so many frames more.
pub record GaveAt {L : Type 0} (U : link.Ghosts L) (many i : ℕ) (old new : List (Connection L)) : Type 0 where
  pub before : Connection L
  pub now : Connection L
  pub was : element old i ≡ Some before
  pub is : element new i ≡ Some now
  pub gave : Gave U many before now

-- A poll of a connection's link was pending.
pub record WaitedAt {L : Type 0} (U : link.Ghosts L) (i : ℕ) (old new : List (Connection L)) : Type 0 where
  pub before : Connection L
  pub now : Connection L
  pub was : element old i ≡ Some before
  pub is : element new i ≡ Some now
  pub rose : Rose (U.waits before.stream.link) (U.waits now.stream.link)

-- the connection at a place has its end
abbrev pub EndsAt : {L : Type 0} → ℕ → List (Connection L) → Type 0
EndsAt {L} i connections = (c : Connection L) → element connections i ≡ Some c → has_end c.stage ≡ true

-- the connection at a place has come so far
abbrev pub StageAt : {L : Type 0} → Stage → ℕ → List (Connection L) → Type 0
StageAt {L} stage i connections = (c : Connection L) → element connections i ≡ Some c → c.stage ≡ stage

-- what one step of a connection did
abbrev pub HasGone : {L : Type 0} (U : link.Ghosts L) → Went → (i : ℕ) → (old new : List (Connection L)) → Type 0
HasGone U went.Took i old new = GaveAt U 1 i old new
HasGone U went.Waits i old new = WaitedAt U i old new
HasGone U went.Ended i old new = EndsAt i new

abbrev pub OnGoneWaits : Went → Type 0 → Type 0
OnGoneWaits went.Took P = ⊤
OnGoneWaits went.Waits P = P
OnGoneWaits went.Ended P = ⊤

-- a connection was pending in this call: a poll of its link was, or its stream gave 64 frames
abbrev pub WasPending : {L : Type 0} (U : link.Ghosts L) → (i : ℕ) → (old new : List (Connection L)) → Type 0
WasPending U i old new = WaitedAt U i old new ⊎ GaveAt U 64 i old new

-- what a call that goes on or can't leaves of a hub: going tells which
pub record Leaves {L F K R : Type 0} (U : link.Ghosts L) (T : Ghosts F) (W : keeper.Ghosts K) (N : run.Ghosts R) (going : Bool) (i : ℕ) (old_books new_books : List (WireBook F K)) (old new : List (Connection L)) : Type 0 where
  pub kept : HallKept U T W N going new_books new
  pub go_on : GoOn W old_books new_books
  pub moved : OneMoved i old new
