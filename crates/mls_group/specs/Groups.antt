-- What a door's closed links say of a group: each had its pair's session, and at most the last a part of it.
use Rattle.std.specs.Prelude.{◌≡◌, ℕ, ◌≤◌, Bool, true, false, List, [], ◌∷◌, ◌++◌, length, Option, Some, IfSome, IsSomeAnd, IsTrue, ⊤, ◌⊎◌, Result, MatchResult}
use Rattle.std.specs.List.{AllByRecursion}
use Rattle.mls_base.specs.Told.{Rose}
use Rattle.mls_model.specs.Studies.{Study}
use Rattle.mls_wire.specs.Doors.{Closed, Awaited}
use Rattle.mls_wire.specs.Sessions.{reply_in, hello_bytes, session}
use Rattle.mls_wire.specs.declared.pairing.Pair.{Pair}
use Rattle.mls_wire.specs.declared.reply.Reply.TheVariants as replies
use Rattle.mls_group.specs.Pairs.{IsWelcome, IsPeer, IsFront, MayWrite}
use Rattle.mls_group.specs.declared.faults.GroupFault.{GroupFault}
use Rattle.mls_group.specs.declared.faults.GroupFault.TheVariants as group

-- whether no pair is left
abbrev pub is_last : List Pair → Bool
is_last [] = true
is_last (pair ∷ rest) = false

-- Of a closed link: the bytes read begin with a Welcome, and the whole session and nothing else was written.
pub record Served (study : Study) (group life : ℕ) (pair : Pair) (last : Bool) (c : Closed) : Type 0 where
  pub welcome : IsWelcome (reply_in c.talk.read)
  pub written : c.talk.written ≡ session study group life pair last
  pub faultless : c.faults ≡ 0

-- The bytes read begin with this Refuse, and Hello alone was written.
pub record WasRefused (group life reason value : ℕ) (pair : Pair) (c : Closed) : Type 0 where
  pub refusal : reply_in c.talk.read ≡ Some (replies.Refused reason value)
  pub written : c.talk.written ≡ hello_bytes group life pair
  pub faultless : c.faults ≡ 0

-- The bytes read begin with another frame or are bad, or there are no more and no whole frame came. Hello alone was written.
pub record HadPeer (group life : ℕ) (pair : Pair) (c : Closed) : Type 0 where
  pub peer : IsPeer (reply_in c.talk.read) c.talk.left
  pub written : c.talk.written ≡ hello_bytes group life pair
  pub faultless : c.faults ≡ 0

-- A front of the session was written, and of Hello as long as no Welcome was read.
pub record WasCut (study : Study) (group life : ℕ) (pair : Pair) (last : Bool) (c : Closed) : Type 0 where
  pub front : IsFront c.talk.written (session study group life pair last)
  pub may : MayWrite (reply_in c.talk.read) c.talk.written (hello_bytes group life pair) (session study group life pair last)

-- the same of a link with a fault
pub record Failed (study : Study) (group life : ℕ) (pair : Pair) (last : Bool) (c : Closed) : Type 0 where
  pub cut : WasCut study group life pair last c
  pub faulty : 1 ≤ c.faults

-- These links served the first pairs, one link each and in order, and these pairs are left.
abbrev pub Serves : Study → (group life : ℕ) → List Closed → (pairs left : List Pair) → Type 0
Serves study group life [] pairs left = pairs ≡ left
Serves study group life (c ∷ closed) [] left = ⊥
Serves study group life (c ∷ closed) (pair ∷ pairs) left = Served study group life pair (is_last pairs) c × Serves study group life closed pairs left

-- one link more was closed, and this holds of it
pub record LastOne (P : Closed → Type 0) (before after : List Closed) : Type 0 where
  pub last : Closed
  pub told : after ≡ before ++ last ∷ []
  pub is : P last

-- at most one link more was closed, and this holds of it
pub record AtMostOne (P : Closed → Type 0) (before after : List Closed) : Type 0 where
  pub more : List Closed
  pub told : after ≡ before ++ more
  pub few : length more ≤ 1
  pub each : AllByRecursion P more

-- what a fault on a pair's link leaves of the closed links
abbrev pub LeavesAt : GroupFault → Study → (group life : ℕ) → Pair → Bool → List Closed → List Closed → Type 0
LeavesAt group.DoorFault study g life pair last = λ before after. after ≡ before
LeavesAt group.LinkFault study g life pair last = LastOne (Failed study g life pair last)
LeavesAt (group.Refused reason value) study g life pair last = LastOne (WasRefused g life reason value pair)
LeavesAt group.Peer study g life pair last = LastOne (HadPeer g life pair)
LeavesAt group.Memory study g life pair last = AtMostOne (WasCut study g life pair last)

-- Links were closed that served the first pairs, and at the next one the fault came.
pub record StoppedAt (fault : GroupFault) (study : Study) (group life : ℕ) (pairs : List Pair) (before after : List Closed) : Type 0 where
  pub served : List Closed
  pub pair : Pair
  pub left : List Pair
  pub serves : Serves study group life served pairs (pair ∷ left)
  pub leaves : LeavesAt fault study group life pair (is_last left) (before ++ served) after

-- all pairs were served, one link each and in order
pub record ServedAll (study : Study) (group life : ℕ) (pairs : List Pair) (before after : List Closed) : Type 0 where
  pub served : List Closed
  pub told : after ≡ before ++ served
  pub serves : Serves study group life served pairs []

-- for want of memory it may have stopped before the first pair, too
abbrev pub Stops : GroupFault → Study → (group life : ℕ) → List Pair → List Closed → List Closed → Type 0
Stops group.Memory study g life pairs before after = (after ≡ before) ⊎ StoppedAt group.Memory study g life pairs before after
Stops group.DoorFault study g life pairs before after = StoppedAt group.DoorFault study g life pairs before after
Stops group.LinkFault study g life pairs before after = StoppedAt group.LinkFault study g life pairs before after
Stops (group.Refused reason value) study g life pairs before after = StoppedAt (group.Refused reason value) study g life pairs before after
Stops group.Peer study g life pairs before after = StoppedAt group.Peer study g life pairs before after

-- a door that tells tells still, and this holds of its closed links
abbrev pub TellsOn : (List Closed → List Closed → Type 0) → Option (List Closed) → Option (List Closed) → Type 0
TellsOn R old new = IfSome old (λ before. IsSomeAnd new (λ after. R before after))

-- where the door still tells, this holds of its closed links
abbrev pub MayTell : (List Closed → List Closed → Type 0) → Option (List Closed) → Option (List Closed) → Type 0
MayTell R old new = IfSome new (λ after. IsSomeAnd old (λ before. R before after))

-- after a fault of the door or of a link, and for want of memory, the door may have ceased to tell
abbrev pub WhereTold : GroupFault → (List Closed → List Closed → Type 0) → Option (List Closed) → Option (List Closed) → Type 0
WhereTold group.DoorFault R old new = MayTell R old new
WhereTold group.LinkFault R old new = MayTell R old new
WhereTold (group.Refused reason value) R old new = TellsOn R old new
WhereTold group.Peer R old new = TellsOn R old new
WhereTold group.Memory R old new = MayTell R old new

abbrev pub LinkLeft : GroupFault → Study → (group life : ℕ) → Pair → Bool → Option (List Closed) → Option (List Closed) → Type 0
LinkLeft fault study group life pair last old new = WhereTold fault (LeavesAt fault study group life pair last) old new

abbrev pub GroupLeft : GroupFault → Study → (group life : ℕ) → List Pair → Option (List Closed) → Option (List Closed) → Type 0
GroupLeft fault study group life pairs old new = WhereTold fault (Stops fault study group life pairs) old new

-- the door's count of faults rose where no connection could be made, and else stands
abbrev pub DoorCounts : GroupFault → ℕ → ℕ → Type 0
DoorCounts group.DoorFault before now = Rose before now
DoorCounts group.LinkFault before now = now ≡ before
DoorCounts (group.Refused reason value) before now = now ≡ before
DoorCounts group.Peer before now = now ≡ before
DoorCounts group.Memory before now = now ≡ before

abbrev pub CountsDoor : {A : Type 0} → Result A GroupFault → ℕ → ℕ → Type 0
CountsDoor result before now = MatchResult result (λ _. now ≡ before) (λ fault. DoorCounts fault before now)

-- the number of closed links with a fault rose where a link failed, and else stands
abbrev pub LinkCounts : GroupFault → ℕ → ℕ → Type 0
LinkCounts group.DoorFault before now = now ≡ before
LinkCounts group.LinkFault before now = Rose before now
LinkCounts (group.Refused reason value) before now = now ≡ before
LinkCounts group.Peer before now = now ≡ before
LinkCounts group.Memory before now = now ≡ before

abbrev pub CountsLinks : {A : Type 0} → Result A GroupFault → ℕ → ℕ → Type 0
CountsLinks result before now = MatchResult result (λ _. now ≡ before) (λ fault. LinkCounts fault before now)

-- for each pair there is a link that is handed out for sure, is sound, and takes the pair's session for sure
abbrev pub AreEnough : Study → (group life : ℕ) → List Pair → List Awaited → Type 0
AreEnough study group life [] awaited = ⊤
AreEnough study group life (pair ∷ left) [] = ⊥
AreEnough study group life (pair ∷ left) (first ∷ awaited) = IsTrue first.sound × (length (session study group life pair (is_last left)) ≤ first.sure) × AreEnough study group life left awaited

-- the fault isn't the door's or a link's
abbrev pub IsInner : GroupFault → Type 0
IsInner group.DoorFault = ⊥
IsInner group.LinkFault = ⊥
IsInner (group.Refused reason value) = ⊤
IsInner group.Peer = ⊤
IsInner group.Memory = ⊤
