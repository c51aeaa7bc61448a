-- How an answer and what stands outside agree with what is right.
use Rattle.std.specs.Prelude.{◌≡◌, ◌↔◌, ℕ, Bool, List, ◌++◌, Some, Result, Ok, Err, IsOkAnd, IsTrue, ◌⊎◌, ⊤}
use Rattle.std.specs.List.{AllByRecursion}
use Rattle.mls_base.specs.Told.{Names, Rose}
use Rattle.mls_result.specs.declared.status.Status.{Status}
use Rattle.mls_result.specs.declared.status.Status.TheVariants as status
use Rattle.mls_ckpt.specs.declared.faults.CkptWhy.{CkptWhy}
use Rattle.mls_load.specs.Refusals.{FileState}
use Rattle.mls_wire.specs.Doors.{Awaited, Closed}
use Rattle.mls_wire.specs.Sessions.{reply_in}
use Rattle.mls_wire.specs.declared.reply.Reply.TheVariants as replies
use Rattle.mls_group.specs.Pairs.{IsPeer, IsWelcome}
use Rattle.mls_group.specs.declared.faults.GroupFault.TheVariants as group
use Rattle.mls_live.specs.Doors.{LastClosed}
use Rattle.mls_served.specs.Doors.{DoorState}
use Rattle.mls_live.specs.Group.{Sending, Enough, Left, Sent}

-- After Done the group was sent whole, after a fault on the way as the fault says, where there is something to send. After every
-- other answer the door is as before. A failed read of sound files is the refusal that is right, and so is each other answer but
-- want of memory.
abbrev pub Answers : (sound : Bool) → Result Sending Status → DoorState → DoorState → Status → Type 0
Answers sound right old new status.Done = IsOkAnd right (λ s. Sent s old new)
Answers sound right old new status.DoorFault = IsOkAnd right (λ s. Left group.DoorFault s old new)
Answers sound right old new status.LinkFault = IsOkAnd right (λ s. Left group.LinkFault s old new)
Answers sound right old new (status.Refused reason value) = IsOkAnd right (λ s. Left (group.Refused reason value) s old new)
Answers sound right old new status.Peer = IsOkAnd right (λ s. Left group.Peer s old new)
Answers sound right old new status.Memory = (new ≡ old) ⊎ IsOkAnd right (λ s. Left group.Memory s old new)
Answers sound right old new status.ReadFault = (IsTrue sound → right ≡ Err status.ReadFault) × (new ≡ old)
Answers sound right old new status.WriteFault = ⊥
Answers sound right old new (status.KeeperFault rank) = ⊥
Answers sound right old new (status.CheckpointBad rank at why) = ⊥
Answers sound right old new answer = (right ≡ Err answer) × (new ≡ old)

-- what is sent is sure to find its links, if something is
abbrev pub HasEnough : Result Sending Status → List Awaited → Type 0
HasEnough (Ok s) awaited = Enough s awaited
HasEnough (Err refusal) awaited = ⊤

-- the answer is no fault of the door or of a link
abbrev pub IsUnbroken : Status → Type 0
IsUnbroken status.DoorFault = ⊥
IsUnbroken status.LinkFault = ⊥
IsUnbroken answer = ⊤

-- How a sending over what was loaded answers.
pub record Reaches (right : Result Sending Status) (old new : DoorState) (answer : Status) : Type 0 where
  pub answers : (sound : Bool) → Answers sound right old new answer
  pub surely : HasEnough right old.awaited → IsUnbroken answer
  pub no_read_fault : answer ≡ status.ReadFault → ⊥
  pub no_usage : answer ≡ status.Usage → ⊥
  pub door_fault : answer ≡ status.DoorFault → Rose old.faults new.faults
  pub link_fault : answer ≡ status.LinkFault → Rose old.link_faults new.link_faults
  pub accepts : new.accepts ≡ old.accepts

-- How a command answers that is to send what the held files ask for, or to be refused.
pub record Carries (asked : Names → Result Sending Status) (files files' : FileState) (door door' : DoorState) (answer : Status) : Type 0 where
  pub right : (held : Names) → files.held ≡ Some held → Answers files.sound (asked held) door door' answer
  pub surely : (held : Names) → files.held ≡ Some held → HasEnough (asked held) door.awaited → IsUnbroken answer
  pub read_fault : answer ≡ status.ReadFault → Rose files.load_faults files'.load_faults
  pub door_fault : answer ≡ status.DoorFault → Rose door.faults door'.faults
  pub link_fault : answer ≡ status.LinkFault → Rose door.link_faults door'.link_faults
  pub saves : files'.save_faults ≡ files.save_faults
  pub accepts : door'.accepts ≡ door.accepts
  pub no_write : answer ≡ status.WriteFault → ⊥
  pub no_keeper : (rank : ℕ) → answer ≡ status.KeeperFault rank → ⊥
  pub no_checkpoint : (rank at : ℕ) (why : CkptWhy) → answer ≡ status.CheckpointBad rank at why → ⊥

-- the statuses that are refusals of the words, of what was read, or of the group's number
abbrev pub IsRefusal : Status → Type 0
IsRefusal status.Done = ⊥
IsRefusal status.ReadFault = ⊥
IsRefusal status.WriteFault = ⊥
IsRefusal (status.KeeperFault rank) = ⊥
IsRefusal (status.CheckpointBad rank at why) = ⊥
IsRefusal status.Memory = ⊥
IsRefusal status.DoorFault = ⊥
IsRefusal status.LinkFault = ⊥
IsRefusal (status.Refused reason value) = ⊥
IsRefusal status.Peer = ⊥
IsRefusal answer = ⊤

-- the answer is this one, but that memory may be wanting and a read may fail before
abbrev pub IsAnswered : Status → Status → Type 0
IsAnswered refusal answer = (answer ≡ refusal) ⊎ ((answer ≡ status.Memory) ⊎ (answer ≡ status.ReadFault))

-- A refusal is answered exactly where it is the one that is right.
pub record Exactly {A : Type 0} (right : Result A Status) (refusal answer : Status) : Type 0 where
  pub only : answer ≡ refusal → right ≡ Err refusal
  pub wherever : right ≡ Err refusal → IsAnswered refusal answer

-- the bytes that were read of a link begin with a Welcome; with this Refuse; with another frame, or are bad, or are no whole frame
-- while nothing is left, and the link had no fault
abbrev pub WasWelcome : Closed → Type 0
WasWelcome c = IsWelcome (reply_in c.talk.read)

abbrev pub WasRefusal : (reason value : ℕ) → Closed → Type 0
WasRefusal reason value c = reply_in c.talk.read ≡ Some (replies.Refused reason value)

abbrev pub WasNoAnswer : Closed → Type 0
WasNoAnswer c = IsPeer (reply_in c.talk.read) c.talk.left × (c.faults ≡ 0)

-- What the server said on the last link that was closed is what is answered, and the other way round, but that memory may be
-- wanting before it is known that nothing more comes.
pub record SaysServer (before after : List Closed) (answer : Status) : Type 0 where
  pub refused : (reason value : ℕ) → (answer ≡ status.Refused reason value) ↔ LastClosed (WasRefusal reason value) before after
  pub peer : answer ≡ status.Peer → LastClosed WasNoAnswer before after
  pub wherever : LastClosed WasNoAnswer before after → (answer ≡ status.Peer) ⊎ (answer ≡ status.Memory)

-- the bytes that were read of each link that was closed begin with a Welcome
abbrev pub AllWelcome : (before after : List Closed) → Type 0
AllWelcome before after = (more : List Closed) → after ≡ before ++ more → AllByRecursion WasWelcome more

-- all was sent, or the server didn't welcome it, or memory is wanting
abbrev pub IsOutcome : Status → Type 0
IsOutcome status.Done = ⊤
IsOutcome (status.Refused reason value) = ⊤
IsOutcome status.Peer = ⊤
IsOutcome status.Memory = ⊤
IsOutcome answer = ⊥

-- the answer that is asked for, or memory is wanting
abbrev pub IsAsked : Result Sending Status → Status → Type 0
IsAsked (Ok s) answer = IsOutcome answer
IsAsked (Err refusal) answer = (answer ≡ refusal) ⊎ (answer ≡ status.Memory)

-- there is something to send
abbrev pub IsRight : Result Sending Status → Type 0
IsRight right = IsOkAnd right (λ s. ⊤)

-- all was sent, or memory is wanting
abbrev pub IsDoneOrMemory : Status → Type 0
IsDoneOrMemory answer = (answer ≡ status.Done) ⊎ (answer ≡ status.Memory)

-- a count of faults of the outside stood still
abbrev pub DidNotRise : ℕ → ℕ → Type 0
DidNotRise before now = Rose before now → ⊥

-- after these answers no keeper was called
abbrev pub IsUncalled : Status → Type 0
IsUncalled status.Done = ⊥
IsUncalled status.WriteFault = ⊥
IsUncalled (status.KeeperFault rank) = ⊥
IsUncalled (status.CheckpointBad rank at why) = ⊥
IsUncalled status.Memory = ⊥
IsUncalled status.DoorFault = ⊥
IsUncalled answer = ⊤
