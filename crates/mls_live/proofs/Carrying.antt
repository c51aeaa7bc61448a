-- What a command answers, from how its study was loaded and its group was sent.
use Rattle.std.proofs.Common.{◌≡◌, ℕ, nat_lt, Bool, true, false, List, Option, Some, None, Result, Ok, Err, IfErr, refl, sym, ap, subst, inl, inr}
use Rattle.mls_base.specs.Told.{Rose}
use Rattle.mls_model.specs.Studies.{Study}
use Rattle.mls_result.specs.declared.status.Status.{Status}
use Rattle.mls_result.specs.declared.status.Status.TheVariants as status
use Rattle.mls_load.specs.declared.refusal.Refusal.{Refusal}
use Rattle.mls_load.specs.declared.refusal.Refusal.TheVariants as refusal
use Rattle.mls_load.specs.Inputs.{◌>>=◌, right_study}
use Rattle.mls_load.specs.Refusals.{FileState, IsRefused, Counts, Loads, status_of}
use Rattle.mls_wire.specs.Doors.{Closed}
use Rattle.mls_wire.specs.Sessions.{pairs_of}
use Rattle.mls_group.specs.Groups.{CountsDoor, CountsLinks, IsInner, MayTell, Stops}
use Rattle.mls_group.specs.declared.faults.GroupFault.{GroupFault}
use Rattle.mls_group.specs.declared.faults.GroupFault.TheVariants as why
use Rattle.mls_served.specs.Doors.{DoorState}
use Rattle.mls_live.specs.Group.{Sending, Sends, right_sending, sending_in, sent_status}
use Rattle.mls_live.specs.Answers.{Answers, Carries, HasEnough, IsUnbroken, Reaches}

-- A refusal of the study is one of what is to be sent.
refused_next : {A B : Type 0} (sound : Bool) (r : Refusal) (right : Result A Status) (next : A → Result B Status) → IsRefused sound r right → IsRefused sound r (right >>= next)
refused_next sound refusal.ReadFault right next is = λ s. ap (λ o. o >>= next) (is s)
refused_next sound refusal.Memory right next is = tt
refused_next sound (refusal.Study fault) right next is = ap (λ o. o >>= next) is
refused_next sound (refusal.Tape at why) right next is = ap (λ o. o >>= next) is
refused_next sound (refusal.Schedule line why) right next is = ap (λ o. o >>= next) is
refused_next sound (refusal.TooLong file) right next is = ap (λ o. o >>= next) is
refused_next sound (refusal.Events line) right next is = ap (λ o. o >>= next) is

pub refused_answers : (sound : Bool) (r : Refusal) (right : Result Sending Status) (door : DoorState) → IsRefused sound r right → Answers sound right door door (status_of r)
refused_answers sound refusal.ReadFault right door is = (is, refl)
refused_answers sound refusal.Memory right door is = inl refl
refused_answers sound (refusal.Study fault) right door is = (is, refl)
refused_answers sound (refusal.Tape at why) right door is = (is, refl)
refused_answers sound (refusal.Schedule line why) right door is = (is, refl)
refused_answers sound (refusal.TooLong file) right door is = (is, refl)
refused_answers sound (refusal.Events line) right door is = (is, refl)

pub unbroken : (r : Refusal) → IsUnbroken (status_of r)
unbroken refusal.ReadFault = tt
unbroken refusal.Memory = tt
unbroken (refusal.Study fault) = tt
unbroken (refusal.Tape at why) = tt
unbroken (refusal.Schedule line why) = tt
unbroken (refusal.TooLong file) = tt
unbroken (refusal.Events line) = tt

-- a refusal is no fault of the sink or of a keeper
abbrev pub IsOwn : Status → Type 0
IsOwn status.WriteFault = ⊥
IsOwn (status.KeeperFault rank) = ⊥
IsOwn (status.CheckpointBad rank at why) = ⊥
IsOwn answer = Unit {0}

pub own_refusal : (r : Refusal) → IsOwn (status_of r)
own_refusal refusal.ReadFault = tt
own_refusal refusal.Memory = tt
own_refusal (refusal.Study fault) = tt
own_refusal (refusal.Tape at why) = tt
own_refusal (refusal.Schedule line why) = tt
own_refusal (refusal.TooLong file) = tt
own_refusal (refusal.Events line) = tt

-- a refusal is no fault of the door either, and it comes before anything is written
pub quiet_refusal : (r : Refusal) (s : Status) → status_of r ≡ s → IsOwn s × IsUnbroken s
quiet_refusal r s e = (subst IsOwn e (own_refusal r), subst IsUnbroken e (unbroken r))

-- an answer that is no fault of the door or of a link
pub no_door_fault : (s : Status) → IsUnbroken s → s ≡ status.DoorFault → ⊥
no_door_fault s is e = subst IsUnbroken e is

pub no_link_fault : (s : Status) → IsUnbroken s → s ≡ status.LinkFault → ⊥
no_link_fault s is e = subst IsUnbroken e is

pub read_failed : (r : Refusal) (before now : ℕ) → Counts r before now → status_of r ≡ status.ReadFault → Rose before now
read_failed refusal.ReadFault before now h e = h
read_failed refusal.Memory before now h e = absurd (cc)
read_failed (refusal.Study fault) before now h e = absurd (cc)
read_failed (refusal.Tape at why) before now h e = absurd (cc)
read_failed (refusal.Schedule line why) before now h e = absurd (cc)
read_failed (refusal.TooLong file) before now h e = absurd (cc)
read_failed (refusal.Events line) before now h e = absurd (cc)

-- a refusal is no wrong word
pub no_usage : (r : Refusal) → status_of r ≡ status.Usage → ⊥
no_usage refusal.ReadFault e = cc
no_usage refusal.Memory e = cc
no_usage (refusal.Study fault) e = cc
no_usage (refusal.Tape at why) e = cc
no_usage (refusal.Schedule line why) e = cc
no_usage (refusal.TooLong file) e = cc
no_usage (refusal.Events line) e = cc

-- a group whose study is refused
pub carried_refused : (name : List ℕ) (group life : ℕ) (old new : FileState) (door : DoorState) (r : Refusal) → Loads (λ (s : Study). s) (right_study name) old new (Err r) → Carries (right_sending name group life) old new door door (status_of r)
unfolding right_sending
carried_refused name group life old new door r h = record {
  right = λ held told. refused_answers old.sound r (right_study name held >>= sending_in group life) door (refused_next old.sound r (right_study name held) (sending_in group life) (h.right held told));
  surely = λ held told enough. unbroken r;
  read_fault = read_failed r old.load_faults new.load_faults h.loads;
  door_fault = λ e. absurd (no_door_fault (status_of r) (unbroken r) e);
  link_fault = λ e. absurd (no_link_fault (status_of r) (unbroken r) e);
  saves = h.saves;
  accepts = refl;
  no_write = λ e. subst IsOwn e (own_refusal r);
  no_keeper = λ rank e. subst IsOwn e (own_refusal r);
  no_checkpoint = λ rank at why e. subst IsOwn e (own_refusal r);
}

-- a group whose study was loaded
pub carried_loaded : (name : List ℕ) (group life : ℕ) (old new : FileState) (door door' : DoorState) (study : Study) (s : Status) → Loads (λ (x : Study). x) (right_study name) old new (Ok study) → Reaches (sending_in group life study) door door' s → Carries (right_sending name group life) old new door door' s
unfolding right_sending
carried_loaded name group life old new door door' study s h r = record {
  right = λ held told. subst (λ (o : Result Study Status). Answers old.sound (o >>= sending_in group life) door door' s) (sym (h.right held told)) (r.answers old.sound);
  surely = λ held told enough. r.surely (subst (λ (o : Result Study Status). HasEnough (o >>= sending_in group life) door.awaited) (h.right held told) enough);
  read_fault = λ e. absurd (r.no_read_fault e);
  door_fault = r.door_fault;
  link_fault = r.link_fault;
  saves = h.saves;
  accepts = r.accepts;
  no_write = λ e. subst (λ (x : Status). Answers true (sending_in group life study) door door' x) e (r.answers true);
  no_keeper = λ rank e. subst (λ (x : Status). Answers true (sending_in group life study) door door' x) e (r.answers true);
  no_checkpoint = λ rank at why e. subst (λ (x : Status). Answers true (sending_in group life study) door door' x) e (r.answers true);
}

-- of a sending, what is answered
sent_answers : {A : Type 0} (s : Sending) (old new : DoorState) (result : Result A GroupFault) (sound : Bool) → Sends s old new result → Answers sound (Ok s) old new (sent_status result)
sent_answers s old new (Ok done) sound h = h.sent
sent_answers s old new (Err why.DoorFault) sound h = h.left
sent_answers s old new (Err why.LinkFault) sound h = h.left
sent_answers s old new (Err (why.Refused reason value)) sound h = h.left
sent_answers s old new (Err why.Peer) sound h = h.left
sent_answers s old new (Err why.Memory) sound h = inr h.left

sent_unbroken : {A : Type 0} (result : Result A GroupFault) → IfErr result IsInner → IsUnbroken (sent_status result)
sent_unbroken (Ok done) is = tt
sent_unbroken (Err why.DoorFault) is = is
sent_unbroken (Err why.LinkFault) is = is
sent_unbroken (Err (why.Refused reason value)) is = tt
sent_unbroken (Err why.Peer) is = tt
sent_unbroken (Err why.Memory) is = tt

sent_reads : {A : Type 0} (result : Result A GroupFault) → sent_status result ≡ status.ReadFault → ⊥
sent_reads (Ok done) e = cc
sent_reads (Err why.DoorFault) e = cc
sent_reads (Err why.LinkFault) e = cc
sent_reads (Err (why.Refused reason value)) e = cc
sent_reads (Err why.Peer) e = cc
sent_reads (Err why.Memory) e = cc

sent_usage : {A : Type 0} (result : Result A GroupFault) → sent_status result ≡ status.Usage → ⊥
sent_usage (Ok done) e = cc
sent_usage (Err why.DoorFault) e = cc
sent_usage (Err why.LinkFault) e = cc
sent_usage (Err (why.Refused reason value)) e = cc
sent_usage (Err why.Peer) e = cc
sent_usage (Err why.Memory) e = cc

door_rose : {A : Type 0} (result : Result A GroupFault) (before now : ℕ) → CountsDoor result before now → sent_status result ≡ status.DoorFault → Rose before now
door_rose (Ok done) before now h e = absurd (cc)
door_rose (Err why.DoorFault) before now h e = h
door_rose (Err why.LinkFault) before now h e = absurd (cc)
door_rose (Err (why.Refused reason value)) before now h e = absurd (cc)
door_rose (Err why.Peer) before now h e = absurd (cc)
door_rose (Err why.Memory) before now h e = absurd (cc)

link_rose : {A : Type 0} (result : Result A GroupFault) (before now : ℕ) → CountsLinks result before now → sent_status result ≡ status.LinkFault → Rose before now
link_rose (Ok done) before now h e = absurd (cc)
link_rose (Err why.DoorFault) before now h e = absurd (cc)
link_rose (Err why.LinkFault) before now h e = h
link_rose (Err (why.Refused reason value)) before now h e = absurd (cc)
link_rose (Err why.Peer) before now h e = absurd (cc)
link_rose (Err why.Memory) before now h e = absurd (cc)

reaches_sent : {A : Type 0} (s : Sending) (old new : DoorState) (result : Result A GroupFault) → Sends s old new result → Reaches (Ok s) old new (sent_status result)
reaches_sent s old new result h = record {
  answers = λ sound. sent_answers s old new result sound h;
  surely = λ enough. sent_unbroken result (h.surely enough);
  no_read_fault = sent_reads result;
  no_usage = sent_usage result;
  door_fault = door_rose result old.faults new.faults h.faults;
  link_fault = link_rose result old.link_faults new.link_faults h.link_faults;
  accepts = h.accepts;
}

-- the study has the group
pub reaches_group : {A : Type 0} (study : Study) (group life : ℕ) (old new : DoorState) (result : Result A GroupFault) → nat_lt group study.sizes.groups ≡ true → Sends (record { study = study; group = group; life = life }) old new result → Reaches (sending_in group life study) old new (sent_status result)
reaches_group study group life old new result below h = rw (below) (reaches_sent (record { study = study; group = group; life = life }) old new result h)

-- the study has no such group
none_reached : (group : ℕ) (door : DoorState) → Reaches (Err (status.NoGroup group)) door door (status.NoGroup group)
none_reached group door = record {
  answers = λ sound. (refl, refl);
  surely = λ enough. tt;
  no_read_fault = λ e. cc;
  no_usage = λ e. cc;
  door_fault = λ e. absurd (cc);
  link_fault = λ e. absurd (cc);
  accepts = refl;
}

pub reaches_none : (study : Study) (group life : ℕ) (door : DoorState) → nat_lt group study.sizes.groups ≡ false → Reaches (sending_in group life study) door door (status.NoGroup group)
reaches_none study group life door above = rw (above) (none_reached group door)

-- nothing was sent for want of memory
still_told : (R : List Closed → List Closed → Type 0) (closed : Option (List Closed)) → ((xs : List Closed) → R xs xs) → MayTell R closed closed
still_told R None is = tt
still_told R (Some xs) is = is xs

pub nothing_sent : {A : Type 0} (s : Sending) (door : DoorState) → Sends {A = A} s door door (Err why.Memory)
nothing_sent s door = record {
  sent = tt;
  left = still_told (Stops why.Memory s.study s.group s.life (pairs_of s.study.sizes)) door.closed (λ xs. inl refl);
  faults = refl;
  link_faults = refl;
  accepts = refl;
  surely = λ enough. tt;
}
