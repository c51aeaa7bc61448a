-- An answer that agrees with what is right is exact and complete.
use Rattle.std.proofs.Common.{◌≡◌, IsTrue, Bool, List, Some, Result, Ok, Err, IsOkAnd, refl, sym, ◌∙◌, subst, inl, inr, ◌⊎◌}
use Rattle.mls_result.specs.declared.status.Status.{Status}
use Rattle.mls_result.specs.declared.status.Status.TheVariants as status
use Rattle.mls_wire.specs.Doors.{Closed}
use Rattle.mls_served.specs.Doors.{DoorState}
use Rattle.mls_live.specs.Group.{Sending}
use Rattle.mls_live.specs.Answers.{AllWelcome, Answers, Exactly, IsAnswered, IsAsked, IsOutcome, IsRefusal, IsRight, IsUnbroken}
use Rattle.mls_live.proofs.Server.{never_refused, never_peer}

-- what is right, where the answer is a refusal
told_right : (sound : Bool) (right : Result Sending Status) (old new : DoorState) (s : Status) → IsRefusal s → Answers sound right old new s → right ≡ Err s
told_right sound right old new status.Done is h = absurd is
told_right sound right old new status.ReadFault is h = absurd is
told_right sound right old new status.WriteFault is h = absurd is
told_right sound right old new (status.KeeperFault rank) is h = absurd is
told_right sound right old new (status.CheckpointBad rank at why) is h = absurd is
told_right sound right old new status.Memory is h = absurd is
told_right sound right old new status.DoorFault is h = absurd is
told_right sound right old new status.LinkFault is h = absurd is
told_right sound right old new (status.Refused reason value) is h = absurd is
told_right sound right old new status.Peer is h = absurd is
told_right sound right old new status.Usage is h = h.0
told_right sound right old new (status.Study fault) is h = h.0
told_right sound right old new (status.Tape at why) is h = h.0
told_right sound right old new (status.Schedule line why) is h = h.0
told_right sound right old new (status.NotBuilt part) is h = h.0
told_right sound right old new (status.TooLong file) is h = h.0
told_right sound right old new (status.Events line) is h = h.0
told_right sound right old new (status.NoGroup group) is h = h.0
told_right sound right old new status.TooLarge is h = h.0
told_right sound right old new status.RunnerFault is h = h.0
told_right sound right old new (status.MarksDiffer other plane group first_has) is h = h.0
told_right sound right old new (status.OldRanks ranks) is h = h.0

same_refusal : (a b : Status) → ◌≡◌ {A = Result Sending Status} (Err a) (Err b) → a ≡ b
same_refusal a b e = cc

nothing_right : (right : Result Sending Status) (refusal : Status) (P : Sending → Type 0) → IsOkAnd right P → right ≡ Err refusal → ⊥
nothing_right (Ok s) refusal P h e = cc
nothing_right (Err r) refusal P h e = h

by_refusal : (sound : Bool) (right : Result Sending Status) (old new : DoorState) (refusal s : Status) → IsRefusal s → Answers sound right old new s → right ≡ Err refusal → IsAnswered refusal s
by_refusal sound right old new refusal s is h e = inl (same_refusal s refusal (sym (told_right sound right old new s is h) ∙ e))

answered : (sound : Bool) (right : Result Sending Status) (old new : DoorState) (refusal s : Status) → Answers sound right old new s → right ≡ Err refusal → IsAnswered refusal s
answered sound right old new refusal status.Done h e = absurd (nothing_right right refusal _ h e)
answered sound right old new refusal status.DoorFault h e = absurd (nothing_right right refusal _ h e)
answered sound right old new refusal status.LinkFault h e = absurd (nothing_right right refusal _ h e)
answered sound right old new refusal (status.Refused reason value) h e = absurd (nothing_right right refusal _ h e)
answered sound right old new refusal status.Peer h e = absurd (nothing_right right refusal _ h e)
answered sound right old new refusal status.Memory h e = inr (inl refl)
answered sound right old new refusal status.ReadFault h e = inr (inr refl)
answered sound right old new refusal status.WriteFault h e = absurd h
answered sound right old new refusal (status.KeeperFault rank) h e = absurd h
answered sound right old new refusal (status.CheckpointBad rank at why) h e = absurd h
answered sound right old new refusal status.Usage h e = by_refusal sound right old new refusal status.Usage tt h e
answered sound right old new refusal (status.Study fault) h e = by_refusal sound right old new refusal (status.Study fault) tt h e
answered sound right old new refusal (status.Tape at why) h e = by_refusal sound right old new refusal (status.Tape at why) tt h e
answered sound right old new refusal (status.Schedule line why) h e = by_refusal sound right old new refusal (status.Schedule line why) tt h e
answered sound right old new refusal (status.NotBuilt part) h e = by_refusal sound right old new refusal (status.NotBuilt part) tt h e
answered sound right old new refusal (status.TooLong file) h e = by_refusal sound right old new refusal (status.TooLong file) tt h e
answered sound right old new refusal (status.Events line) h e = by_refusal sound right old new refusal (status.Events line) tt h e
answered sound right old new refusal (status.NoGroup group) h e = by_refusal sound right old new refusal (status.NoGroup group) tt h e
answered sound right old new refusal status.TooLarge h e = by_refusal sound right old new refusal status.TooLarge tt h e
answered sound right old new refusal status.RunnerFault h e = by_refusal sound right old new refusal status.RunnerFault tt h e
answered sound right old new refusal (status.MarksDiffer other plane group first_has) h e = by_refusal sound right old new refusal (status.MarksDiffer other plane group first_has) tt h e
answered sound right old new refusal (status.OldRanks ranks) h e = by_refusal sound right old new refusal (status.OldRanks ranks) tt h e

-- a refusal comes exactly where it is right
pub exact : (sound : Bool) (right : Result Sending Status) (old new : DoorState) (s refusal : Status) → IsRefusal refusal → Answers sound right old new s → Exactly right refusal s
exact sound right old new s refusal is h = record {
  only = λ e. told_right sound right old new refusal is (subst (λ (x : Status). Answers sound right old new x) e h);
  wherever = λ e. answered sound right old new refusal s h e;
}

asked_refusal : (right : Result Sending Status) (s : Status) → right ≡ Err s → IsAsked right s
asked_refusal right s e = subst (λ (r : Result Sending Status). IsAsked r s) (sym e) (inl refl)

asked_outcome : (right : Result Sending Status) (s : Status) (P : Sending → Type 0) → IsOutcome s → IsOkAnd right P → IsAsked right s
asked_outcome (Ok sending) s P is h = is
asked_outcome (Err r) s P is h = absurd h

asked_memory : (right : Result Sending Status) → IsAsked right status.Memory
asked_memory (Ok sending) = tt
asked_memory (Err r) = inr refl

-- over sound files and a door that hands out enough links for sure, the answer is the one that is asked for
pub asked : (sound : Bool) (right : Result Sending Status) (old new : DoorState) (s : Status) → IsTrue sound → IsUnbroken s → Answers sound right old new s → IsAsked right s
asked sound right old new status.Done is whole h = asked_outcome right status.Done _ tt h
asked sound right old new status.DoorFault is whole h = absurd whole
asked sound right old new status.LinkFault is whole h = absurd whole
asked sound right old new (status.Refused reason value) is whole h = asked_outcome right (status.Refused reason value) _ tt h
asked sound right old new status.Peer is whole h = asked_outcome right status.Peer _ tt h
asked sound right old new status.Memory is whole h = asked_memory right
asked sound right old new status.ReadFault is whole h = asked_refusal right status.ReadFault (h.0 is)
asked sound right old new status.WriteFault is whole h = absurd h
asked sound right old new (status.KeeperFault rank) is whole h = absurd h
asked sound right old new (status.CheckpointBad rank at why) is whole h = absurd h
asked sound right old new status.Usage is whole h = asked_refusal right status.Usage h.0
asked sound right old new (status.Study fault) is whole h = asked_refusal right (status.Study fault) h.0
asked sound right old new (status.Tape at why) is whole h = asked_refusal right (status.Tape at why) h.0
asked sound right old new (status.Schedule line why) is whole h = asked_refusal right (status.Schedule line why) h.0
asked sound right old new (status.NotBuilt part) is whole h = asked_refusal right (status.NotBuilt part) h.0
asked sound right old new (status.TooLong file) is whole h = asked_refusal right (status.TooLong file) h.0
asked sound right old new (status.Events line) is whole h = asked_refusal right (status.Events line) h.0
asked sound right old new (status.NoGroup group) is whole h = asked_refusal right (status.NoGroup group) h.0
asked sound right old new status.TooLarge is whole h = asked_refusal right status.TooLarge h.0
asked sound right old new status.RunnerFault is whole h = asked_refusal right status.RunnerFault h.0
asked sound right old new (status.MarksDiffer other plane group first_has) is whole h = asked_refusal right (status.MarksDiffer other plane group first_has) h.0
asked sound right old new (status.OldRanks ranks) is whole h = asked_refusal right (status.OldRanks ranks) h.0

refused_right : (right : Result Sending Status) (s : Status) → IsRight right → right ≡ Err s → ⊥
refused_right right s there e = nothing_right right s _ there e

-- where there is something to send, the server welcomed each link and no count rose, all was sent or memory is wanting
pub completed : (sound : Bool) (right : Result Sending Status) (old new : DoorState) (before : List Closed) (s : Status) → IsRight right → (s ≡ status.ReadFault → ⊥) → (s ≡ status.DoorFault → ⊥) → (s ≡ status.LinkFault → ⊥) → old.closed ≡ Some before → ((after : List Closed) → new.closed ≡ Some after → AllWelcome before after)
    → Answers sound right old new s → (s ≡ status.Done) ⊎ (s ≡ status.Memory)
completed sound right old new before status.Done there read door link was all h = inl refl
completed sound right old new before status.Memory there read door link was all h = inr refl
completed sound right old new before status.DoorFault there read door link was all h = absurd (door refl)
completed sound right old new before status.LinkFault there read door link was all h = absurd (link refl)
completed sound right old new before (status.Refused reason value) there read door link was all h = absurd (never_refused right old new before sound reason value was all h)
completed sound right old new before status.Peer there read door link was all h = absurd (never_peer right old new before sound was all h)
completed sound right old new before status.ReadFault there read door link was all h = absurd (read refl)
completed sound right old new before status.WriteFault there read door link was all h = absurd h
completed sound right old new before (status.KeeperFault rank) there read door link was all h = absurd h
completed sound right old new before (status.CheckpointBad rank at why) there read door link was all h = absurd h
completed sound right old new before status.Usage there read door link was all h = absurd (refused_right right status.Usage there h.0)
completed sound right old new before (status.Study fault) there read door link was all h = absurd (refused_right right (status.Study fault) there h.0)
completed sound right old new before (status.Tape at why) there read door link was all h = absurd (refused_right right (status.Tape at why) there h.0)
completed sound right old new before (status.Schedule line why) there read door link was all h = absurd (refused_right right (status.Schedule line why) there h.0)
completed sound right old new before (status.NotBuilt part) there read door link was all h = absurd (refused_right right (status.NotBuilt part) there h.0)
completed sound right old new before (status.TooLong file) there read door link was all h = absurd (refused_right right (status.TooLong file) there h.0)
completed sound right old new before (status.Events line) there read door link was all h = absurd (refused_right right (status.Events line) there h.0)
completed sound right old new before (status.NoGroup group) there read door link was all h = absurd (refused_right right (status.NoGroup group) there h.0)
completed sound right old new before status.TooLarge there read door link was all h = absurd (refused_right right status.TooLarge there h.0)
completed sound right old new before status.RunnerFault there read door link was all h = absurd (refused_right right status.RunnerFault there h.0)
completed sound right old new before (status.MarksDiffer other plane group first_has) there read door link was all h = absurd (refused_right right (status.MarksDiffer other plane group first_has) there h.0)
completed sound right old new before (status.OldRanks ranks) there read door link was all h = absurd (refused_right right (status.OldRanks ranks) there h.0)
