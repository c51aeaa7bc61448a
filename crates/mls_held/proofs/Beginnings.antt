-- What has begun goes on: a book of a run after an offer.
use Rattle.std.proofs.Common.{◌≡◌, ◌≢◌, ℕ, ◌≤◌, Bool, true, false, Option, None, Some, Result, Ok, Err, refl, sym, ap, ◌∙◌, subst, inl, inr, ⊎_elim, arith}
use Rattle.std.specs.Prelude.{is_some, IsSome, IfOk, IfErr, IsTrue, slice_index}
use Rattle.std.proofs.lemmas.Bool.{or_parts, true≢false}
use Rattle.mls_base.specs.declared.outside.Keeper as keeper
use Rattle.mls_base.specs.Told.{Rose, MayCease, replaced}
use Rattle.mls_model.specs.declared.outcomes.Outcome.{Outcome}
use Rattle.mls_model.specs.Survival.{is_save}
use Rattle.mls_tape.specs.declared.decoded.Lanes as lanes
use Rattle.mls_tape.specs.Events.{DecodedEvent}
use Rattle.mls_field.specs.declared.fold.RowFold.{Ghosts}
use Rattle.mls_book.specs.declared.faults.BookFault.{BookFault}
use Rattle.mls_book.specs.declared.faults.BookFault.TheVariants.{KeeperFault, CheckpointBad, Memory}
use Rattle.mls_book.specs.declared.offered.Offered.{Offered}
use Rattle.mls_book.specs.declared.offered.Offered.TheVariants.{Taken, Stale}
use Rattle.mls_book.specs.Books.{BookView}
use Rattle.mls_book.specs.Offers.{IfTaken, WasTaken, IsNext, IsTaken, IsRefused, SameBook, lane_event}
use Rattle.mls_book.specs.Keepers.{KeeperState, keeper_seen}
use Rattle.mls_held.specs.declared.run.Run as run
use Rattle.mls_held.specs.Begun.{HasBegun, IsOfRun}

-- ---- what is told

-- what was put is told where something was told before
some_put : {A : Type 0} (old : Option A) (value : A) → is_some (replaced old value) ≡ is_some old
some_put None value = refl
some_put (Some v) value = refl

-- an event that is taken leaves whether the keeper tells
tells_as_before : {A : Type 0} (saves : Bool) (old new : Option A) (value : A) → (saves ≡ true → new ≡ replaced old value) → (saves ≡ false → new ≡ old) → is_some new ≡ is_some old
tells_as_before true old new value put held = ap is_some (put refl) ∙ some_put old value
tells_as_before false old new value put held = ap is_some (held refl)

-- what is told was told before
may_tell : {A : Type 0} (old new : Option A) → MayCease old new → IsSome new → IsSome old
may_tell old None may some = absurd (true≢false (sym some))
may_tell old (Some v) may some = ap is_some may

may_more : {A : Type 0} (start old new : Option A) → MayCease start old → MayCease old new → MayCease start new
may_more start old None first then_ = tt
may_more start old (Some v) first then_ = subst (λ o. MayCease start o) then_ first

-- a count that rose once more
rise : (start before now : ℕ) → start ≤ before → Rose before now → Rose start now
rise start before now from r =
    let later = r.later in
    let higher = r.higher in
    record { later = omega (arith, from, later); higher = omega (arith, from, later, higher) }

-- ---- the keeper since the beginning

-- what is told is as it was told
same_may : {A : Type 0} (o : Option A) → MayCease o o
same_may None = tt
same_may (Some v) = refl

full : (n : ℕ) → n ≤ n
full n = omega arith

pub begins_with : {T F K : Type 0} {U : keeper.Ghosts K} (book : BookView T F K) → book.fault ≡ None → book.saved ≡ false → HasBegun U (keeper_seen U book.keeper) book
begins_with {T} {F} {K} {U} book none unsaved = record {
  counted = full (U.faults book.keeper);
  caused = λ c. let clash : None ≡ Some KeeperFault = sym none ∙ c in absurd cc;
  tells = λ some. inl some;
  sure = λ _ some. some;
  untold = λ some. some;
  kept = λ _. same_may (U.held book.keeper);
  sound = λ sound. sound;
  tells_on = λ _ some. some;
  faultless = λ _. refl;
  blameless = λ _ c. let clash : None ≡ Some KeeperFault = sym none ∙ c in absurd cc;
}

pub taken_on : {T F K : Type 0} {R : Ghosts F} {U : keeper.Ghosts K} (start : KeeperState) (old new : BookView T F K) (event : DecodedEvent T) (place : ℕ) (o : Outcome) → IsTaken R U old new event place o → HasBegun U start old → HasBegun U start new
taken_on {T} {F} {K} {R} {U} start old new event place o t b =
    let e = lane_event event in
    let faults = t.store.faults in
    let same : is_some (U.held new.keeper) ≡ is_some (U.held old.keeper) = tells_as_before (is_save e) (U.held old.keeper) (U.held new.keeper) (Some (Rattle.mls_book.specs.Cores.parts_bytes R new.core)) t.store.put t.store.held in
    record {
      counted = let from = b.counted in omega (arith, faults, from);
      caused = λ c. subst (λ (n : ℕ). Rose start.faults n) (sym faults) (b.caused (sym t.fault ∙ c));
      tells = λ some. ⊎_elim (λ still. inl (same ∙ still)) (λ rose. inr (subst (λ (n : ℕ). Rose start.faults n) (sym faults) rose)) (b.tells some);
      sure = λ none some. same ∙ b.sure (sym t.fault ∙ none) some;
      untold = λ some. b.untold (sym same ∙ some);
      kept = λ unsaved.
          let parts = or_parts old.saved (is_save e) (sym t.saved ∙ unsaved) in
          subst (λ held. MayCease start.held held) (sym (t.store.held parts.1)) (b.kept parts.0);
      sound = λ sound. t.same.sound (b.sound sound);
      tells_on = λ sound some. same ∙ b.tells_on sound some;
      faultless = λ sound. faults ∙ b.faultless sound;
      blameless = λ sound c. b.blameless sound (sym t.fault ∙ c);
    }

pub refused_on : {T F K : Type 0} {R : Ghosts F} {U : keeper.Ghosts K} (start : KeeperState) (old new : BookView T F K) (event : DecodedEvent T) (fault : BookFault) → IsRefused R U old new event fault → HasBegun U start old → HasBegun U start new
refused_on {T} {F} {K} {R} {U} start old new event KeeperFault r b =
    let rose : Rose start.faults (U.faults new.keeper) = rise start.faults (U.faults old.keeper) (U.faults new.keeper) b.counted r.faults in
    let unsound : IsTrue start.sound → ⊥ = λ sound. true≢false (sym (b.sound sound) ∙ r.surely) in
    record {
      counted = rose.later;
      caused = λ _. rose;
      tells = λ _. inr rose;
      sure = λ none some. let clash : Some KeeperFault ≡ None = sym r.noted ∙ none in absurd cc;
      untold = λ some. b.untold (may_tell (U.held old.keeper) (U.held new.keeper) r.leaves some);
      kept = λ unsaved. may_more start.held (U.held old.keeper) (U.held new.keeper) (b.kept (sym r.saved ∙ unsaved)) r.leaves;
      sound = λ sound. absurd (unsound sound);
      tells_on = λ sound _. absurd (unsound sound);
      faultless = λ sound. absurd (unsound sound);
      blameless = λ sound _. unsound sound;
    }
refused_on {T} {F} {K} {R} {U} start old new event (CheckpointBad at why) r b =
    let faults : U.faults new.keeper ≡ U.faults old.keeper = r.faults in
    let held : U.held new.keeper ≡ U.held old.keeper = r.leaves in
    let noted : new.fault ≡ Some (CheckpointBad at why) = r.noted in
    let same : is_some (U.held new.keeper) ≡ is_some (U.held old.keeper) = ap is_some held in
    record {
      counted = let from = b.counted in omega (arith, faults, from);
      caused = λ c. let clash : Some (CheckpointBad at why) ≡ Some KeeperFault = sym noted ∙ c in absurd cc;
      tells = λ some. ⊎_elim (λ still. inl (same ∙ still)) (λ rose. inr (subst (λ (n : ℕ). Rose start.faults n) (sym faults) rose)) (b.tells some);
      sure = λ none some. let clash : Some (CheckpointBad at why) ≡ None = sym noted ∙ none in absurd cc;
      untold = λ some. b.untold (sym same ∙ some);
      kept = λ unsaved. subst (λ h. MayCease start.held h) (sym held) (b.kept (sym r.saved ∙ unsaved));
      sound = λ sound. r.same.sound (b.sound sound);
      tells_on = λ sound some. same ∙ b.tells_on sound some;
      faultless = λ sound. faults ∙ b.faultless sound;
      blameless = λ sound c. let clash : Some (CheckpointBad at why) ≡ Some KeeperFault = sym noted ∙ c in absurd cc;
    }
refused_on {T} {F} {K} {R} {U} start old new event Memory r b =
    let faults : U.faults new.keeper ≡ U.faults old.keeper = r.faults in
    let held : U.held new.keeper ≡ U.held old.keeper = r.leaves in
    let noted : new.fault ≡ old.fault = r.noted in
    let same : is_some (U.held new.keeper) ≡ is_some (U.held old.keeper) = ap is_some held in
    record {
      counted = let from = b.counted in omega (arith, faults, from);
      caused = λ c. subst (λ (n : ℕ). Rose start.faults n) (sym faults) (b.caused (sym noted ∙ c));
      tells = λ some. ⊎_elim (λ still. inl (same ∙ still)) (λ rose. inr (subst (λ (n : ℕ). Rose start.faults n) (sym faults) rose)) (b.tells some);
      sure = λ none some. same ∙ b.sure (sym noted ∙ none) some;
      untold = λ some. b.untold (sym same ∙ some);
      kept = λ unsaved. subst (λ h. MayCease start.held h) (sym held) (b.kept (sym r.saved ∙ unsaved));
      sound = λ sound. r.same.sound (b.sound sound);
      tells_on = λ sound some. same ∙ b.tells_on sound some;
      faultless = λ sound. faults ∙ b.faultless sound;
      blameless = λ sound c. b.blameless sound (sym noted ∙ c);
    }

-- ---- an answer of an offer

-- After an offer each fact that a taken and a refused event keep holds still.
pub answered : {T F K : Type 0} (P : BookView T F K → Type 0) {R : Ghosts F} {U : keeper.Ghosts K} (old new : BookView T F K) (event : DecodedEvent T) (answer : Result Offered BookFault)
    → ((place : ℕ) (o : Outcome) → IsTaken R U old new event place o → P new)
    → ((fault : BookFault) → IsRefused R U old new event fault → P new)
    → P old
    → (event.number ≢ slice_index old.taken event.lane → (answer ≡ Ok (Stale (slice_index old.taken event.lane))) × (new ≡ old))
    → (IsNext old event → IfOk answer WasTaken)
    → IfOk answer (λ a. IfTaken a (IsTaken R U old new event))
    → IfErr answer (IsRefused R U old new event)
    → P new
answered P old new event (Ok (Taken place o)) on_taken on_refused before stale next taken refused = on_taken place o taken
answered P old new event (Ok (Stale n)) on_taken on_refused before stale next taken refused =
    let other : event.number ≢ slice_index old.taken event.lane = λ is. next is in
    subst P (sym (stale other).1) before
answered P old new event (Err fault) on_taken on_refused before stale next taken refused = on_refused fault refused

-- the book stays one of the run
same_run : {T F K S : Type 0} {L : lanes.Ghosts T} {U : keeper.Ghosts K} {N : run.Ghosts S} (old new : BookView T F K) → SameBook U old new → IsOfRun L U N old → HasBegun U (N.keepers old.core.rank) new → IsOfRun L U N new
same_run {T} {F} {K} {S} {L} {U} {N} old new same is begun = record {
  count = ap L.lane_count same.lanes ∙ is.count;
  told = ap L.told same.lanes ∙ is.told;
  belongs = ap L.belongs_to same.lanes ∙ is.belongs;
  sizes = same.sizes ∙ is.sizes;
  begun = subst (λ (rank : ℕ). HasBegun U (N.keepers rank) new) (sym same.rank) begun;
}

pub offered_of_run : {T F K S : Type 0} (R : Ghosts F) {L : lanes.Ghosts T} {U : keeper.Ghosts K} {N : run.Ghosts S} (old new : BookView T F K) (event : DecodedEvent T) (answer : Result Offered BookFault)
    → IsOfRun L U N old
    → (event.number ≢ slice_index old.taken event.lane → (answer ≡ Ok (Stale (slice_index old.taken event.lane))) × (new ≡ old))
    → (IsNext old event → IfOk answer WasTaken)
    → IfOk answer (λ a. IfTaken a (IsTaken R U old new event))
    → IfErr answer (IsRefused R U old new event)
    → IsOfRun L U N new
offered_of_run {T} {F} {K} {S} R {L} {U} {N} old new event answer is stale next taken refused =
    answered (IsOfRun L U N) {R = R} {U = U} old new event answer
    (λ place o t. same_run {L = L} {U = U} {N = N} old new t.same is (taken_on {R = R} {U = U} (N.keepers old.core.rank) old new event place o t is.begun))
    (λ fault r. same_run {L = L} {U = U} {N = N} old new r.same is (refused_on {R = R} {U = U} (N.keepers old.core.rank) old new event fault r is.begun))
    is stale next taken refused
