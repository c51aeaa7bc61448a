-- What becomes of a book by an offer.
use Rattle.std.specs.Prelude.{◌≡◌, ℕ, ◌+◌, ◌<◌, Bool, true, false, ◌||◌, [], ◌∷◌, ◌++◌, length, slice_index, slice_set, Option, None, Some, Ok, IfSome, ⊤, ◌⊎◌}
use Rattle.mls_model.specs.declared.outcomes.Outcome.{Outcome}
use Rattle.mls_model.specs.Studies.{Sizes}
use Rattle.mls_model.specs.Histories.{LaneEvent}
use Rattle.mls_model.specs.Survival.{is_save, is_crash}
use Rattle.mls_base.specs.declared.outside.Keeper as keeper
use Rattle.mls_base.specs.Told.{raised, replaced, StaysSound}
use Rattle.mls_tape.specs.Events.{DecodedEvent}
use Rattle.mls_field.specs.declared.fold.RowFold.{Ghosts}
use Rattle.mls_rank.specs.Standing.{as_event, IsPart}
use Rattle.mls_book.specs.declared.faults.BookFault.{BookFault}
use Rattle.mls_book.specs.declared.faults.BookFault.TheVariants.{KeeperFault, CheckpointBad, Memory}
use Rattle.mls_book.specs.declared.offered.Offered.{Offered}
use Rattle.mls_book.specs.declared.offered.Offered.TheVariants.{Taken, Stale}
use Rattle.mls_book.specs.Faults.{Leaves, CountsFault, SoundFault, HasCause, IfBad, IsRefusal}
use Rattle.mls_book.specs.Backups.{given_state, gets_after}
use Rattle.mls_book.specs.SavedRanks.{reads_keeper, calls_keeper}
use Rattle.mls_book.specs.Cores.{Stands, StandsAlso, StandsAfter, IsRightOutcome, parts_state, parts_bytes, SameParts}
use Rattle.mls_book.specs.Books.{BookView}

-- what holds where an event is taken at a place with an outcome
abbrev pub IfTaken : Offered → (ℕ → Outcome → Type 0) → Type 0
IfTaken (Taken place outcome) fact = fact place outcome
IfTaken (Stale taken) fact = ⊤

abbrev pub WasTaken : Offered → Type 0
WasTaken (Taken place outcome) = ⊤
WasTaken (Stale taken) = ⊥

-- the event of a lane, without its place
abbrev pub lane_event : {T : Type 0} → DecodedEvent T → LaneEvent
lane_event event = as_event event.kind event.frame

-- the event is the next of its lane
abbrev pub IsNext : {T F K : Type 0} → BookView T F K → DecodedEvent T → Type 0
IsNext book event = event.number ≡ slice_index book.taken event.lane

-- the lanes, the study and the rank of a book never change, and a sound keeper stays sound
pub record SameBook {T F K : Type 0} (U : keeper.Ghosts K) (old new : BookView T F K) : Type 0 where
  pub lanes : new.lanes ≡ old.lanes
  pub sizes : new.core.sizes ≡ old.core.sizes
  pub rank : new.core.rank ≡ old.core.rank
  pub sound : StaysSound (U.sound old.keeper) (U.sound new.keeper)

-- what a taken event asks of the keeper, and what the keeper then holds
pub record IsKept {T F K : Type 0} (R : Ghosts F) (U : keeper.Ghosts K) (old new : BookView T F K) (e : LaneEvent) : Type 0 where
  pub untouched : calls_keeper old.saved e ≡ false → new.keeper ≡ old.keeper
  pub put : is_save e ≡ true → U.held new.keeper ≡ replaced (U.held old.keeper) (Some (parts_bytes R new.core))
  pub held : is_save e ≡ false → U.held new.keeper ≡ U.held old.keeper
  pub gets : U.gets new.keeper ≡ gets_after (reads_keeper old.saved e) (U.gets old.keeper)
  pub given : reads_keeper old.saved e ≡ true → IfSome (U.last_get new.keeper) (λ given. given_state R.part_at old.core.sizes old.core.rank given ≡ Ok (parts_state R new.core))
  pub faults : U.faults new.keeper ≡ U.faults old.keeper

-- The event is taken at a place: its lane stands at the end of the journal, the core goes on with the event, and the outcome is
-- right. A crash before any save of this run leads to no events.
pub record IsTaken {T F K : Type 0} (R : Ghosts F) (U : keeper.Ghosts K) (old new : BookView T F K) (event : DecodedEvent T) (place : ℕ) (o : Outcome) : Type 0 where
  pub next : IsNext old event
  pub here : place ≡ length old.journal
  pub journal : new.journal ≡ old.journal ++ event.lane ∷ []
  pub taken : new.taken ≡ slice_set old.taken event.lane (event.number + 1)
  pub same : SameBook U old new
  pub outcome : IsRightOutcome R old.core (lane_event event) o
  pub stands : StandsAfter R old.core new.core (lane_event event)
  pub begins : is_crash (lane_event event) ≡ true → old.saved ≡ false → Stands R new.core []
  pub saved : new.saved ≡ (old.saved || is_save (lane_event event))
  pub store : IsKept R U old new (lane_event event)
  pub fault : new.fault ≡ old.fault
  pub spare : 0 < old.spare → new.spare + 1 ≡ old.spare

-- the record of store faults after a fault
abbrev pub recorded : BookFault → Option BookFault → Option BookFault
recorded KeeperFault before = Some KeeperFault
recorded (CheckpointBad at why) before = Some (CheckpointBad at why)
recorded Memory before = before

-- where an event needs memory beside the journal's, or calls the keeper
abbrev pub NeedsMore : Sizes → (rank : ℕ) → (saved : Bool) → LaneEvent → Type 0
NeedsMore s rank saved e = IsPart s rank e.kind e.frame ⊎ (calls_keeper saved e ≡ true)

-- The event isn't taken for a fault: the book is as before but for the record of store faults. The fault has its cause.
pub record IsRefused {T F K : Type 0} (R : Ghosts F) (U : keeper.Ghosts K) (old new : BookView T F K) (event : DecodedEvent T) (fault : BookFault) : Type 0 where
  pub next : IsNext old event
  pub journal : new.journal ≡ old.journal
  pub taken : new.taken ≡ old.taken
  pub same : SameBook U old new
  pub core : SameParts old.core new.core
  pub stands : StandsAlso R old.core new.core
  pub saved : new.saved ≡ old.saved
  pub leaves : Leaves fault (U.held old.keeper) (U.held new.keeper)
  pub untouched : calls_keeper old.saved (lane_event event) ≡ false → new.keeper ≡ old.keeper
  pub noted : new.fault ≡ recorded fault old.fault
  pub cause : HasCause fault (calls_keeper old.saved (lane_event event)) (reads_keeper old.saved (lane_event event))
  pub faults : CountsFault fault (U.faults old.keeper) (U.faults new.keeper)
  pub surely : SoundFault fault (U.sound old.keeper)
  pub untold : IfBad fault (U.held old.keeper ≡ None)
  pub got : IfBad fault (U.gets new.keeper ≡ raised (U.gets old.keeper))
  pub read : IfBad fault (IfSome (U.last_get new.keeper) (λ given. IsRefusal fault (given_state R.part_at old.core.sizes old.core.rank given)))
  pub needs : 0 < old.spare → NeedsMore old.core.sizes old.core.rank old.saved (lane_event event)
  pub spare : 0 < old.spare → new.spare ≡ old.spare
