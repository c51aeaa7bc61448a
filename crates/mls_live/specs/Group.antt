-- What is right of a group, and what sending it leaves of the door.
use Rattle.std.specs.Prelude.{◌≡◌, ℕ, cond, List, nat_lt, Result, Ok, Err, OnOk, IfErr}
use Rattle.mls_base.specs.Told.{Names}
use Rattle.mls_model.specs.Studies.{Study}
use Rattle.mls_result.specs.declared.status.Status.{Status}
use Rattle.mls_result.specs.declared.status.Status.TheVariants as status
use Rattle.mls_load.specs.Inputs.{◌>>=◌, right_study}
use Rattle.mls_wire.specs.Doors.{Awaited}
use Rattle.mls_wire.specs.Sessions.{pairs_of}
use Rattle.mls_group.specs.Groups.{AreEnough, CountsDoor, CountsLinks, GroupLeft, IsInner, ServedAll, TellsOn}
use Rattle.mls_group.specs.declared.faults.GroupFault.{GroupFault}
use Rattle.mls_group.specs.declared.faults.GroupFault.TheVariants as group
use Rattle.mls_served.specs.Doors.{DoorState}

-- what is sent: a life of a group of a study
pub record Sending : Type 0 where
  pub study : Study
  pub group : ℕ
  pub life : ℕ

-- the study has the group, or there is no such group
abbrev pub sending_in : (group life : ℕ) → Study → Result Sending Status
sending_in group life study = cond (nat_lt group study.sizes.groups) (Ok (record { study = study; group = group; life = life })) (Err (status.NoGroup group))

-- what is sent of the study of a name
unfoldable pub right_sending : (study : List ℕ) → (group life : ℕ) → Names → Result Sending Status
right_sending study_name group life held = right_study study_name held >>= sending_in group life

-- One link for each pair of a rank and a client was closed, in order; the bytes read of each begin with a Welcome, and the
-- session of the pair and nothing else was written to it.
abbrev pub Sent : Sending → DoorState → DoorState → Type 0
Sent s old new = TellsOn (ServedAll s.study s.group s.life (pairs_of s.study.sizes)) old.closed new.closed

-- what a fault leaves: this holds of the links that were closed but the last, and the fault says what the last was used for
abbrev pub Left : GroupFault → Sending → DoorState → DoorState → Type 0
Left fault s old new = GroupLeft fault s.study s.group s.life (pairs_of s.study.sizes) old.closed new.closed

-- a sound link that takes its pair's session for sure is handed out for sure, for each pair in order
abbrev pub Enough : Sending → List Awaited → Type 0
Enough s awaited = AreEnough s.study s.group s.life (pairs_of s.study.sizes) awaited

-- How a sending answers and what it leaves.
pub record Sends {A : Type 0} (s : Sending) (old new : DoorState) (result : Result A GroupFault) : Type 0 where
  pub sent : OnOk result (Sent s old new)
  pub left : IfErr result (λ fault. Left fault s old new)
  pub faults : CountsDoor result old.faults new.faults
  pub link_faults : CountsLinks result old.link_faults new.link_faults
  pub accepts : new.accepts ≡ old.accepts
  pub surely : Enough s old.awaited → IfErr result IsInner

-- what is answered after a sending
abbrev pub sent_status : {A : Type 0} → Result A GroupFault → Status
sent_status (Ok done) = status.Done
sent_status (Err group.DoorFault) = status.DoorFault
sent_status (Err group.LinkFault) = status.LinkFault
sent_status (Err (group.Refused reason value)) = status.Refused reason value
sent_status (Err group.Peer) = status.Peer
sent_status (Err group.Memory) = status.Memory
