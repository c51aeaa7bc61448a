-- What the server said on the last link that was closed.
use Rattle.std.proofs.Common.{◌≡◌, ℕ, ◌≤◌, Bool, List, [], ◌∷◌, ◌++◌, length, Option, Some, None, Result, Ok, Err, IsOkAnd, refl, sym, ◌∙◌, ap, subst, append_assoc, append-nil, inl, inr, ◌⊎◌, ⊎_elim, arith}
use Rattle.std.specs.List.{AllByRecursion}
use Rattle.std.proofs.lemmas.List.{append_cancel_left, same_from_push}
use Rattle.mls_model.specs.Studies.{Study}
use Rattle.mls_result.specs.declared.status.Status.{Status}
use Rattle.mls_result.specs.declared.status.Status.TheVariants as status
use Rattle.mls_wire.specs.Doors.{Closed}
use Rattle.mls_wire.specs.Sessions.{reply_in, hello_bytes, session, pairs_of}
use Rattle.mls_wire.specs.declared.pairing.Pair.{Pair}
use Rattle.mls_wire.specs.declared.reply.Reply.{Reply}
use Rattle.mls_wire.specs.declared.reply.Reply.TheVariants as replies
use Rattle.mls_group.specs.Pairs.{IsPeer, IsWelcome, MayWrite}
use Rattle.mls_group.specs.Groups.{Failed, MayTell, ServedAll, Serves, StoppedAt, Stops, TellsOn, WasCut, is_last}
use Rattle.mls_group.specs.declared.faults.GroupFault.TheVariants as why
use Rattle.mls_live.specs.Doors.{LastClosed}
use Rattle.mls_served.specs.Doors.{DoorState}
use Rattle.mls_live.specs.Group.{Sending}
use Rattle.mls_live.specs.Answers.{AllWelcome, Answers, SaysServer, WasNoAnswer, WasRefusal, WasWelcome}

-- the last of the links that served was welcomed
served_last : (study : Study) (group life : ℕ) (earlier : List Closed) (last : Closed) (pairs left : List Pair) → Serves study group life (earlier ++ last ∷ []) pairs left → WasWelcome last
served_last study group life [] last [] left h = absurd h
served_last study group life [] last (pair ∷ pairs) left h = h.0.welcome
served_last study group life (c ∷ earlier) last [] left h = absurd h
served_last study group life (c ∷ earlier) last (pair ∷ pairs) left h = served_last study group life earlier last pairs left h.1

no_end : (xs : List Closed) (c : Closed) → [] ≡ xs ++ c ∷ [] → ⊥
no_end [] c e = cc
no_end (x ∷ xs) c e = cc

module _ (P : Closed → Type 0) (before after : List Closed) (l : LastClosed P before after) where
  after_served : (study : Study) (group life : ℕ) (served : List Closed) (pairs left : List Pair) → after ≡ before ++ served → Serves study group life served pairs left → WasWelcome l.last
  after_served study group life served pairs left told serves =
      let e : served ≡ l.earlier ++ l.last ∷ [] = append_cancel_left before served (l.earlier ++ l.last ∷ []) (sym told ∙ l.told) in
      served_last study group life l.earlier l.last pairs left (subst (λ (xs : List Closed). Serves study group life xs pairs left) e serves)

  after_one : (served : List Closed) (c : Closed) → after ≡ before ++ served ++ c ∷ [] → l.last ≡ c
  after_one served c told =
      let e : served ++ c ∷ [] ≡ l.earlier ++ l.last ∷ [] = append_cancel_left before (served ++ c ∷ []) (l.earlier ++ l.last ∷ []) (sym (told ∙ append_assoc before served (c ∷ [])) ∙ l.told) in
      sym (same_from_push served l.earlier c l.last e).1

  pub after_none : after ≡ before → ⊥
  after_none told =
      let e : before ++ [] ≡ before ++ (l.earlier ++ l.last ∷ []) = append-nil before ∙ sym told ∙ l.told in
      no_end l.earlier l.last (append_cancel_left before [] (l.earlier ++ l.last ∷ []) e)

-- no Refuse was read
abbrev NoRefusal : Closed → Type 0
NoRefusal c = (reason value : ℕ) → WasRefusal reason value c → ⊥

welcome_no_refusal : (c : Closed) → WasWelcome c → NoRefusal c
welcome_no_refusal c is reason value e = subst IsWelcome e is

cut_no_refusal : (study : Study) (group life : ℕ) (pair : Pair) (last : Bool) (c : Closed) → WasCut study group life pair last c → NoRefusal c
cut_no_refusal study group life pair last c cut reason value e = subst (λ r. MayWrite r c.talk.written (hello_bytes group life pair) (session study group life pair last)) e cut.may

welcome_no_peer : (reply : Option Reply) (left : List ℕ) → IsWelcome reply → IsPeer reply left → ⊥
welcome_no_peer None left is peer = is
welcome_no_peer (Some (replies.Welcome lane)) left is peer = peer
welcome_no_peer (Some (replies.Refused reason value)) left is peer = is
welcome_no_peer (Some replies.Other) left is peer = is

-- what each answer says of the last link that was closed
abbrev Says : Status → Closed → Type 0
Says status.Done c = WasWelcome c
Says status.DoorFault c = WasWelcome c
Says status.LinkFault c = NoRefusal c × (1 ≤ c.faults)
Says (status.Refused reason value) c = WasRefusal reason value c
Says status.Peer c = IsPeer (reply_in c.talk.read) c.talk.left
Says status.Memory c = NoRefusal c
Says s c = ⊥

-- what holds of what is sent, where something is
of_sending : {X : Type 0} (right : Result Sending Status) {P : Sending → Type 0} → IsOkAnd right P → ((s : Sending) → P s → X) → X
of_sending (Ok s) h f = f s h
of_sending (Err r) h f = absurd h

tells_is : (R : List Closed → List Closed → Type 0) (old new : Option (List Closed)) (before after : List Closed) → old ≡ Some before → new ≡ Some after → TellsOn R old new → R before after
tells_is R old new before after was is h = subst (λ o. TellsOn R (Some before) o) is (subst (λ o. TellsOn R o new) was h)

may_is : (R : List Closed → List Closed → Type 0) (old new : Option (List Closed)) (before after : List Closed) → old ≡ Some before → new ≡ Some after → MayTell R old new → R before after
may_is R old new before after was is h = subst (λ o. MayTell R (Some before) o) is (subst (λ o. MayTell R o new) was h)

same_list : (a b : List Closed) → ◌≡◌ {A = Option (List Closed)} (Some a) (Some b) → a ≡ b
same_list a b e = cc

module _ (old new : DoorState) (before after : List Closed) (was : old.closed ≡ Some before) (is : new.closed ≡ Some after) where
  same_closed : new ≡ old → after ≡ before
  same_closed e = same_list after before (sym is ∙ ap (λ (d : DoorState). d.closed) e ∙ was)

  module _ (P : Closed → Type 0) (l : LastClosed P before after) where
    refused_says : {X : Type 0} → new ≡ old → X
    refused_says e = absurd (after_none P before after l (same_closed e))

    done_says : (s : Sending) → TellsOn (ServedAll s.study s.group s.life (pairs_of s.study.sizes)) old.closed new.closed → WasWelcome l.last
    done_says s h =
        let all = tells_is (ServedAll s.study s.group s.life (pairs_of s.study.sizes)) old.closed new.closed before after was is h in
        after_served P before after l s.study s.group s.life all.served (pairs_of s.study.sizes) [] all.told all.serves

    door_says : (s : Sending) → MayTell (Stops why.DoorFault s.study s.group s.life (pairs_of s.study.sizes)) old.closed new.closed → WasWelcome l.last
    door_says s h =
        let at = may_is (Stops why.DoorFault s.study s.group s.life (pairs_of s.study.sizes)) old.closed new.closed before after was is h in
        after_served P before after l s.study s.group s.life at.served (pairs_of s.study.sizes) (at.pair ∷ at.left) at.leaves at.serves

    link_says : (s : Sending) → MayTell (Stops why.LinkFault s.study s.group s.life (pairs_of s.study.sizes)) old.closed new.closed → NoRefusal l.last × (1 ≤ l.last.faults)
    link_says s h =
        let at = may_is (Stops why.LinkFault s.study s.group s.life (pairs_of s.study.sizes)) old.closed new.closed before after was is h in
        let e : l.last ≡ at.leaves.last = after_one P before after l at.served at.leaves.last at.leaves.told in
        let own : Failed s.study s.group s.life at.pair (is_last at.left) l.last = subst (λ (c : Closed). Failed s.study s.group s.life at.pair (is_last at.left) c) (sym e) at.leaves.is in
        (cut_no_refusal s.study s.group s.life at.pair (is_last at.left) l.last own.cut, own.faulty)

    refuse_says : (s : Sending) (reason value : ℕ) → TellsOn (Stops (why.Refused reason value) s.study s.group s.life (pairs_of s.study.sizes)) old.closed new.closed → WasRefusal reason value l.last
    refuse_says s reason value h =
        let at = tells_is (Stops (why.Refused reason value) s.study s.group s.life (pairs_of s.study.sizes)) old.closed new.closed before after was is h in
        let e : l.last ≡ at.leaves.last = after_one P before after l at.served at.leaves.last at.leaves.told in
        subst (λ (c : Closed). WasRefusal reason value c) (sym e) at.leaves.is.refusal

    peer_says : (s : Sending) → TellsOn (Stops why.Peer s.study s.group s.life (pairs_of s.study.sizes)) old.closed new.closed → IsPeer (reply_in l.last.talk.read) l.last.talk.left
    peer_says s h =
        let at = tells_is (Stops why.Peer s.study s.group s.life (pairs_of s.study.sizes)) old.closed new.closed before after was is h in
        let e : l.last ≡ at.leaves.last = after_one P before after l at.served at.leaves.last at.leaves.told in
        subst (λ (c : Closed). IsPeer (reply_in c.talk.read) c.talk.left) (sym e) at.leaves.is.peer

    few_say : (study : Study) (group life : ℕ) (pair : Pair) (last : Bool) (served : List Closed) (pairs left : List Pair) (more : List Closed) → Serves study group life served pairs left → after ≡ before ++ served ++ more → length more ≤ 1 → AllByRecursion (WasCut study group life pair last) more → NoRefusal l.last
    few_say study group life pair last served pairs left [] serves told few each =
        welcome_no_refusal l.last (after_served P before after l study group life served pairs left (told ∙ append-nil (before ++ served)) serves)
    few_say study group life pair last served pairs left (c ∷ []) serves told few each =
        let e : l.last ≡ c = after_one P before after l served c told in
        cut_no_refusal study group life pair last l.last (subst (λ (x : Closed). WasCut study group life pair last x) (sym e) each.0)
    few_say study group life pair last served pairs left (c ∷ d ∷ more) serves told few each = absurd (omega (arith, few))

    memory_says : (s : Sending) → MayTell (Stops why.Memory s.study s.group s.life (pairs_of s.study.sizes)) old.closed new.closed → NoRefusal l.last
    memory_says s h =
        let stops = may_is (Stops why.Memory s.study s.group s.life (pairs_of s.study.sizes)) old.closed new.closed before after was is h in
        ⊎_elim (λ same. absurd (after_none P before after l same))
        (λ (at : StoppedAt why.Memory s.study s.group s.life (pairs_of s.study.sizes) before after). few_say s.study s.group s.life at.pair (is_last at.left) at.served (pairs_of s.study.sizes) (at.pair ∷ at.left) at.leaves.more at.serves at.leaves.told at.leaves.few at.leaves.each) stops

    says : (sound : Bool) (right : Result Sending Status) (s : Status) → Answers sound right old new s → Says s l.last
    says sound right status.Done h = of_sending right h done_says
    says sound right status.DoorFault h = of_sending right h door_says
    says sound right status.LinkFault h = of_sending right h link_says
    says sound right (status.Refused reason value) h = of_sending right h (λ s. refuse_says s reason value)
    says sound right status.Peer h = of_sending right h peer_says
    says sound right status.Memory h = ⊎_elim (λ (e : new ≡ old). refused_says e) (λ k. of_sending right k memory_says) h
    says sound right status.ReadFault h = refused_says h.1
    says sound right status.WriteFault h = absurd h
    says sound right (status.KeeperFault rank) h = absurd h
    says sound right (status.CheckpointBad rank at why) h = absurd h
    says sound right status.Usage h = refused_says h.1
    says sound right (status.Study fault) h = refused_says h.1
    says sound right (status.Tape at why) h = refused_says h.1
    says sound right (status.Schedule line why) h = refused_says h.1
    says sound right (status.NotBuilt part) h = refused_says h.1
    says sound right (status.TooLong file) h = refused_says h.1
    says sound right (status.Events line) h = refused_says h.1
    says sound right (status.NoGroup group) h = refused_says h.1
    says sound right status.TooLarge h = refused_says h.1
    says sound right status.RunnerFault h = refused_says h.1
    says sound right (status.MarksDiffer other plane group first_has) h = refused_says h.1
    says sound right (status.OldRanks ranks) h = refused_says h.1

same_refuse : (a b c d : ℕ) → ◌≡◌ {A = Option Reply} (Some (replies.Refused a b)) (Some (replies.Refused c d)) → status.Refused a b ≡ status.Refused c d
same_refuse a b c d e = cc

-- where the last link had this Refuse, it is answered
refusal_is : (s : Status) (c : Closed) (reason value : ℕ) → Says s c → WasRefusal reason value c → s ≡ status.Refused reason value
refusal_is status.Done c reason value h e = absurd (welcome_no_refusal c h reason value e)
refusal_is status.DoorFault c reason value h e = absurd (welcome_no_refusal c h reason value e)
refusal_is status.LinkFault c reason value h e = absurd (h.0 reason value e)
refusal_is (status.Refused r v) c reason value h e = same_refuse r v reason value (sym h ∙ e)
refusal_is status.Peer c reason value h e = absurd (subst (λ r. IsPeer r c.talk.left) e h)
refusal_is status.Memory c reason value h e = absurd (h reason value e)
refusal_is status.ReadFault c reason value h e = absurd h
refusal_is status.WriteFault c reason value h e = absurd h
refusal_is (status.KeeperFault rank) c reason value h e = absurd h
refusal_is (status.CheckpointBad rank at why) c reason value h e = absurd h
refusal_is status.Usage c reason value h e = absurd h
refusal_is (status.Study fault) c reason value h e = absurd h
refusal_is (status.Tape at why) c reason value h e = absurd h
refusal_is (status.Schedule line why) c reason value h e = absurd h
refusal_is (status.NotBuilt part) c reason value h e = absurd h
refusal_is (status.TooLong file) c reason value h e = absurd h
refusal_is (status.Events line) c reason value h e = absurd h
refusal_is (status.NoGroup group) c reason value h e = absurd h
refusal_is status.TooLarge c reason value h e = absurd h
refusal_is status.RunnerFault c reason value h e = absurd h
refusal_is (status.MarksDiffer other plane group first_has) c reason value h e = absurd h
refusal_is (status.OldRanks ranks) c reason value h e = absurd h

-- where it had no answer, that is answered, or memory is wanting
peer_is : (s : Status) (c : Closed) → Says s c → WasNoAnswer c → (s ≡ status.Peer) ⊎ (s ≡ status.Memory)
peer_is status.Done c h e = absurd (welcome_no_peer (reply_in c.talk.read) c.talk.left h e.0)
peer_is status.DoorFault c h e = absurd (welcome_no_peer (reply_in c.talk.read) c.talk.left h e.0)
peer_is status.LinkFault c h e = let some = h.1 in let none = e.1 in absurd (omega (arith, some, none))
peer_is (status.Refused r v) c h e = absurd (subst (λ x. IsPeer x c.talk.left) h e.0)
peer_is status.Peer c h e = inl refl
peer_is status.Memory c h e = inr refl
peer_is status.ReadFault c h e = absurd h
peer_is status.WriteFault c h e = absurd h
peer_is (status.KeeperFault rank) c h e = absurd h
peer_is (status.CheckpointBad rank at why) c h e = absurd h
peer_is status.Usage c h e = absurd h
peer_is (status.Study fault) c h e = absurd h
peer_is (status.Tape at why) c h e = absurd h
peer_is (status.Schedule line why) c h e = absurd h
peer_is (status.NotBuilt part) c h e = absurd h
peer_is (status.TooLong file) c h e = absurd h
peer_is (status.Events line) c h e = absurd h
peer_is (status.NoGroup group) c h e = absurd h
peer_is status.TooLarge c h e = absurd h
peer_is status.RunnerFault c h e = absurd h
peer_is (status.MarksDiffer other plane group first_has) c h e = absurd h
peer_is (status.OldRanks ranks) c h e = absurd h

-- the last link of a refused sending
refused_last : (s : Sending) (reason value : ℕ) (before after : List Closed) → StoppedAt (why.Refused reason value) s.study s.group s.life (pairs_of s.study.sizes) before after → LastClosed (WasRefusal reason value) before after
refused_last s reason value before after at = record {
  earlier = at.served;
  last = at.leaves.last;
  told = at.leaves.told ∙ append_assoc before at.served (at.leaves.last ∷ []);
  is = at.leaves.is.refusal;
}

peer_last : (s : Sending) (before after : List Closed) → StoppedAt why.Peer s.study s.group s.life (pairs_of s.study.sizes) before after → LastClosed WasNoAnswer before after
peer_last s before after at = record {
  earlier = at.served;
  last = at.leaves.last;
  told = at.leaves.told ∙ append_assoc before at.served (at.leaves.last ∷ []);
  is = (at.leaves.is.peer, at.leaves.is.faultless);
}

-- Refused and Peer come exactly where the server said so
pub says_server : (sound : Bool) (right : Result Sending Status) (old new : DoorState) (before after : List Closed) (s : Status) → old.closed ≡ Some before → new.closed ≡ Some after → Answers sound right old new s → SaysServer before after s
says_server sound right old new before after s was is h = record {
  refused = λ reason value. (
    (λ e. of_sending right (subst (λ (x : Status). Answers sound right old new x) e h)
        (λ sending k. refused_last sending reason value before after (tells_is (Stops (why.Refused reason value) sending.study sending.group sending.life (pairs_of sending.study.sizes)) old.closed new.closed before after was is k))),
    (λ l. refusal_is s l.last reason value (says old new before after was is (WasRefusal reason value) l sound right s h) l.is),
  );
  peer = λ e. of_sending right (subst (λ (x : Status). Answers sound right old new x) e h)
      (λ sending k. peer_last sending before after (tells_is (Stops why.Peer sending.study sending.group sending.life (pairs_of sending.study.sizes)) old.closed new.closed before after was is k));
  wherever = λ l. peer_is s l.last (says old new before after was is WasNoAnswer l sound right s h) l.is;
}

-- where the server welcomed each link it refused none and answered nothing else
all_last : (earlier : List Closed) (c : Closed) → AllByRecursion WasWelcome (earlier ++ c ∷ []) → WasWelcome c
all_last [] c each = each.0
all_last (x ∷ earlier) c each = all_last earlier c each.1

last_welcome : (P : Closed → Type 0) (before after : List Closed) (l : LastClosed P before after) → AllWelcome before after → WasWelcome l.last
last_welcome P before after l all = all_last l.earlier l.last (all (l.earlier ++ l.last ∷ []) l.told)

-- a door that told before tells after
record TellsAfter (R : List Closed → List Closed → Type 0) (before : List Closed) (new : Option (List Closed)) : Type 0 where
  pub after : List Closed
  pub is : new ≡ Some after
  pub holds : R before after

tells_after : (R : List Closed → List Closed → Type 0) (before : List Closed) (new : Option (List Closed)) → TellsOn R (Some before) new → TellsAfter R before new
tells_after R before None h = absurd h
tells_after R before (Some after) h = record { after = after; is = refl; holds = h }

pub never_refused : (right : Result Sending Status) (old new : DoorState) (before : List Closed) (sound : Bool) (reason value : ℕ) → old.closed ≡ Some before → ((after : List Closed) → new.closed ≡ Some after → AllWelcome before after) → Answers sound right old new (status.Refused reason value) → ⊥
never_refused right old new before sound reason value was all h = of_sending right h (λ s k.
    let R : List Closed → List Closed → Type 0 = Stops (why.Refused reason value) s.study s.group s.life (pairs_of s.study.sizes) in
    let t = tells_after R before new.closed (subst (λ o. TellsOn R o new.closed) was k) in
    let l = refused_last s reason value before t.after t.holds in
    welcome_no_refusal l.last (last_welcome (WasRefusal reason value) before t.after l (all t.after t.is)) reason value l.is)

pub never_peer : (right : Result Sending Status) (old new : DoorState) (before : List Closed) (sound : Bool) → old.closed ≡ Some before → ((after : List Closed) → new.closed ≡ Some after → AllWelcome before after) → Answers sound right old new status.Peer → ⊥
never_peer right old new before sound was all h = of_sending right h (λ s k.
    let R : List Closed → List Closed → Type 0 = Stops why.Peer s.study s.group s.life (pairs_of s.study.sizes) in
    let t = tells_after R before new.closed (subst (λ o. TellsOn R o new.closed) was k) in
    let l = peer_last s before t.after t.holds in
    welcome_no_peer (reply_in l.last.talk.read) l.last.talk.left (last_welcome WasNoAnswer before t.after l (all t.after t.is)) l.is.0)
