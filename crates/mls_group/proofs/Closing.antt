-- What a closed link tells of the pair that it was used for.
use Rattle.std.proofs.Common.{◌≡◌, ℕ, ◌≤◌, Bool, List, [], ◌∷◌, ◌++◌, take, drop, Option, Some, None, IfSome, refl, sym, ◌∙◌, ap, subst, arith}
use Rattle.std.proofs.lemmas.Bool.{false≢true}
use Rattle.mls_base.specs.Told.{MayCease}
use Rattle.mls_model.specs.Studies.{Study}
use Rattle.mls_wire.specs.Links.{Talk, after_read, after_write, IsFresh}
use Rattle.mls_wire.specs.Doors.{Closed, Tells, after_close}
use Rattle.mls_wire.specs.Sessions.{reply_in, hello_bytes, session}
use Rattle.mls_wire.specs.declared.pairing.Pair.{Pair}
use Rattle.mls_group.specs.Faults.{ended, PairCounts}
use Rattle.mls_group.specs.Pairs.{IsWelcome, IsPeer, IsFront, MayWrite, PairSent, PairRefused, PairAnswered, PairPart, PairLeft}
use Rattle.mls_group.specs.Groups.{Served, WasRefused, HadPeer, WasCut, Failed, LastOne, AtMostOne, TellsOn, MayTell, LinkLeft}
use Rattle.mls_group.specs.declared.faults.PairFault.{PairFault}
use Rattle.mls_group.specs.declared.faults.PairFault.TheVariants as why

-- what became of a fresh link
record Spoken (read : ℕ) (front : List ℕ) (old new : Talk) : Type 0 where
  pub was_read : new.read ≡ take read old.left
  pub is_left : new.left ≡ drop read old.left
  pub was_written : new.written ≡ front

abbrev talk_or : Talk → Option Talk → Talk
talk_or other None = other
talk_or other (Some talk) = talk

spoken : (faults read : ℕ) (front : List ℕ) (old new : Talk) → IsFresh faults (Some old) → ◌≡◌ {A = Option Talk} (Some new) (after_write front (after_read read (Some old))) → Spoken read front old new
spoken faults read front old new fresh told = record {
  was_read = ap (λ o. (talk_or new o).read) told ∙ ap (λ xs. xs ++ take read old.left) fresh.unread;
  is_left = ap (λ o. (talk_or new o).left) told;
  was_written = ap (λ o. (talk_or new o).written) told ∙ ap (λ xs. xs ++ front) fresh.unwritten;
}

tells_last : (P : Closed → Type 0) (door new : Option (List Closed)) (old now : Option Talk) (before faults read : ℕ) (front : List ℕ) → IsFresh before old → Tells door old → now ≡ after_write front (after_read read old) → new ≡ after_close door now faults → IfSome old (λ o. (n : Talk) → Spoken read front o n → P (record { talk = n; faults = faults })) → TellsOn (LastOne P) door new
tells_last P None new old now before faults read front fresh tells told close is = tt
tells_last P (Some list) new None now before faults read front fresh tells told close is = absurd (false≢true tells)
tells_last P (Some list) new (Some o) None before faults read front fresh tells told close is = cc
tells_last P (Some list) new (Some o) (Some n) before faults read front fresh tells told close is =
    subst (λ (d : Option (List Closed)). TellsOn (LastOne P) (Some list) d) (sym close)
    (record { last = record { talk = n; faults = faults }; told = refl; is = is n (spoken before read front o n fresh told) })

may_last : (P : Closed → Type 0) (door new : Option (List Closed)) (old cut now : Option Talk) (before faults read : ℕ) (front : List ℕ) → IsFresh before old → Tells door old → cut ≡ after_write front (after_read read old) → MayCease cut now → new ≡ after_close door now faults → IfSome old (λ o. (n : Talk) → Spoken read front o n → P (record { talk = n; faults = faults })) → MayTell (LastOne P) door new
may_last P None new old cut now before faults read front fresh tells told ceased close is = subst (λ (d : Option (List Closed)). MayTell (LastOne P) None d) (sym close) tt
may_last P (Some list) new None cut now before faults read front fresh tells told ceased close is = absurd (false≢true tells)
may_last P (Some list) new (Some o) cut None before faults read front fresh tells told ceased close is = subst (λ (d : Option (List Closed)). MayTell (LastOne P) (Some list) d) (sym close) tt
may_last P (Some list) new (Some o) cut (Some n) before faults read front fresh tells told ceased close is =
    subst (λ (d : Option (List Closed)). MayTell (LastOne P) (Some list) d) (sym close)
    (record { last = record { talk = n; faults = faults }; told = refl; is = is n (spoken before read front o n fresh (sym ceased ∙ told)) })

one_at_most : (P : Closed → Type 0) (door new : Option (List Closed)) → MayTell (LastOne P) door new → MayTell (AtMostOne P) door new
one_at_most P door None may = tt
one_at_most P None (Some after) may = absurd may
one_at_most P (Some before) (Some after) may = record { more = may.last ∷ []; told = may.told; few = omega arith; each = (may.is, tt) }

cut_of : (study : Study) (g life : ℕ) (pair : Pair) (last : Bool) (o : Talk) (cut : Option Talk) (part : PairPart (hello_bytes g life pair) (session study g life pair last) (Some o) cut) (n : Talk) (faults : ℕ) → Spoken part.read part.front o n → WasCut study g life pair last (record { talk = n; faults = faults })
cut_of study g life pair last o cut part n faults s = record {
  front = subst (λ xs. IsFront xs (session study g life pair last)) (sym s.was_written) part.is_front;
  may = subst (λ xs. MayWrite (reply_in xs) n.written (hello_bytes g life pair) (session study g life pair last)) (sym s.was_read)
      (subst (λ xs. MayWrite (reply_in (take part.read o.left)) xs (hello_bytes g life pair) (session study g life pair last)) (sym s.was_written) part.may);
}

cuts : (study : Study) (g life : ℕ) (pair : Pair) (last : Bool) (old cut : Option Talk) (part : PairPart (hello_bytes g life pair) (session study g life pair last) old cut) (faults : ℕ) → IfSome old (λ o. (n : Talk) → Spoken part.read part.front o n → WasCut study g life pair last (record { talk = n; faults = faults }))
cuts study g life pair last None cut part faults = tt
cuts study g life pair last (Some o) cut part faults = λ n s. cut_of study g life pair last o cut part n faults s

failed : (study : Study) (g life : ℕ) (pair : Pair) (last : Bool) (old cut : Option Talk) (part : PairPart (hello_bytes g life pair) (session study g life pair last) old cut) (faults : ℕ) → 1 ≤ faults → IfSome old (λ o. (n : Talk) → Spoken part.read part.front o n → Failed study g life pair last (record { talk = n; faults = faults }))
failed study g life pair last None cut part faults some = tt
failed study g life pair last (Some o) cut part faults some = λ n s. record { cut = cut_of study g life pair last o cut part n faults s; faulty = some }

refused : (g life reason value : ℕ) (pair : Pair) (old now : Option Talk) (r : PairRefused (hello_bytes g life pair) reason value old now) (faults : ℕ) → faults ≡ 0 → IfSome old (λ o. (n : Talk) → Spoken r.read (hello_bytes g life pair) o n → WasRefused g life reason value pair (record { talk = n; faults = faults }))
refused g life reason value pair None now r faults none = tt
refused g life reason value pair (Some o) now r faults none = λ n s. record {
  refusal = ap (λ xs. reply_in xs) s.was_read ∙ r.refusal;
  written = s.was_written;
  faultless = none;
}

answered : (g life : ℕ) (pair : Pair) (old now : Option Talk) (r : PairAnswered (hello_bytes g life pair) old now) (faults : ℕ) → faults ≡ 0 → IfSome old (λ o. (n : Talk) → Spoken r.read (hello_bytes g life pair) o n → HadPeer g life pair (record { talk = n; faults = faults }))
answered g life pair None now r faults none = tt
answered g life pair (Some o) now r faults none = λ n s. record {
  peer = subst (λ xs. IsPeer (reply_in xs) n.left) (sym s.was_read) (subst (λ xs. IsPeer (reply_in (take r.read o.left)) xs) (sym s.is_left) r.peer);
  written = s.was_written;
  faultless = none;
}

served : (study : Study) (g life : ℕ) (pair : Pair) (last : Bool) (old now : Option Talk) (r : PairSent (session study g life pair last) old now) (faults : ℕ) → faults ≡ 0 → IfSome old (λ o. (n : Talk) → Spoken r.read (session study g life pair last) o n → Served study g life pair last (record { talk = n; faults = faults }))
served study g life pair last None now r faults none = tt
served study g life pair last (Some o) now r faults none = λ n s. record {
  welcome = subst (λ xs. IsWelcome (reply_in xs)) (sym s.was_read) r.welcome;
  written = s.was_written;
  faultless = none;
}

-- after a fault
pub link_left : (fault : PairFault) (study : Study) (g life : ℕ) (pair : Pair) (last : Bool) (door new : Option (List Closed)) (old now : Option Talk) (before faults : ℕ) → IsFresh before old → Tells door old → PairLeft fault (hello_bytes g life pair) (session study g life pair last) old now → PairCounts fault before faults → new ≡ after_close door now faults → LinkLeft (ended fault) study g life pair last door new
link_left why.LinkFault study g life pair last door new old now before faults fresh tells left counts close =
    may_last (Failed study g life pair last) door new old left.cut now before faults left.part.read left.part.front fresh tells left.part.told left.ceased close
    (failed study g life pair last old left.cut left.part faults (omega (arith, counts.higher, fresh.faultless)))
link_left (why.Refused reason value) study g life pair last door new old now before faults fresh tells left counts close =
    tells_last (WasRefused g life reason value pair) door new old now before faults left.read (hello_bytes g life pair) fresh tells left.told close
    (refused g life reason value pair old now left faults (counts ∙ fresh.faultless))
link_left why.Peer study g life pair last door new old now before faults fresh tells left counts close =
    tells_last (HadPeer g life pair) door new old now before faults left.read (hello_bytes g life pair) fresh tells left.told close
    (answered g life pair old now left faults (counts ∙ fresh.faultless))
link_left why.Memory study g life pair last door new old now before faults fresh tells left counts close =
    one_at_most (WasCut study g life pair last) door new
    (may_last (WasCut study g life pair last) door new old left.cut now before faults left.part.read left.part.front fresh tells left.part.told left.ceased close
    (cuts study g life pair last old left.cut left.part faults))

-- after the whole session
pub link_served : (study : Study) (g life : ℕ) (pair : Pair) (last : Bool) (door new : Option (List Closed)) (old now : Option Talk) (before faults : ℕ) → IsFresh before old → Tells door old → PairSent (session study g life pair last) old now → faults ≡ before → new ≡ after_close door now faults → TellsOn (LastOne (Served study g life pair last)) door new
link_served study g life pair last door new old now before faults fresh tells sent counts close =
    tells_last (Served study g life pair last) door new old now before faults sent.read (session study g life pair last) fresh tells sent.told close
    (served study g life pair last old now sent faults (counts ∙ fresh.faultless))
