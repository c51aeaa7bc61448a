-- What an offer makes of a rank's book.
use Rattle.std.proofs.Common.{◌≡◌, ℕ, ◌≤◌, ◌<◌, true, false, List, [], ◌∷◌, ◌++◌, length, get_or, set, Option, Some, refl, sym, ap, subst, ◌∙◌, arith}
use Rattle.mls_base.specs.declared.outside.Keeper as keeper
use Rattle.mls_base.specs.Told.{replaced}
use Rattle.mls_model.specs.declared.lanes.LaneKind.{LaneKind}
use Rattle.mls_model.specs.declared.outcomes.Outcome.{Outcome}
use Rattle.mls_model.specs.Frames.{Frame}
use Rattle.mls_model.specs.Numbers.{element}
use Rattle.mls_model.specs.Histories.{LaneEvent}
use Rattle.mls_model.specs.Survival.{is_save}
use Rattle.mls_rank.specs.Standing.{as_event}
use Rattle.mls_tape.specs.Events.{DecodedEvent}
use Rattle.mls_tape.specs.declared.wire.Wire.{Wire}
use Rattle.mls_field.specs.declared.fold.RowFold.{Ghosts}
use Rattle.mls_book.specs.Cores.{StandsAfter, parts_bytes}
use Rattle.mls_book.specs.Keepers.{KeeperState}
use Rattle.mls_book.specs.Offers.{IsTaken, lane_event}
use Rattle.mls_held.specs.Begun.{HasBegun}
use Rattle.mls_hub.specs.declared.faults.Refusal.{Refusal}
use Rattle.mls_hub.specs.declared.faults.Fault.{Fault}
use Rattle.mls_hub.specs.Books.{WireBook, Took, Refused, TookAt, RefusedAt, fault_of}
use Rattle.mls_hub.proofs.Elements.{given_at, element_set_same, one_set}

same_event : (k k' : LaneKind) (f f' : Frame) → k ≡ k' → f ≡ f' → as_event k f ≡ as_event k' f'
same_event k k' f f' p q = ap (λ (x : LaneKind). as_event x f) p ∙ ap (λ (x : Frame). as_event k' x) q

pub took_of : {F K : Type 0} (T : Ghosts F) (U : keeper.Ghosts K) (old new : WireBook F K) (event : DecodedEvent Wire) (place : ℕ) (o : Outcome) (lane : ℕ) (kind : LaneKind) (frame : Frame) → event.lane ≡ lane → event.kind ≡ kind → event.frame ≡ frame
    → ((start : KeeperState) → HasBegun U start old → HasBegun U start new) → IsTaken T U old new event place o → Took T U lane (as_event kind frame) old new
took_of T U old new event place o lane kind frame number same_kind same_frame begun t =
    let e : lane_event event ≡ as_event kind frame = same_event event.kind kind event.frame frame same_kind same_frame in
    let count = t.store.faults in
    record {
      goes_on = record { lanes = t.same.lanes; sizes = t.same.sizes; rank = t.same.rank; begun = begun; later = omega (arith, count) };
      journal = subst (λ (n : ℕ). new.journal ≡ old.journal ++ n ∷ []) number t.journal;
      stands = subst (λ (x : LaneEvent). StandsAfter T old.core new.core x) e t.stands;
      put = subst (λ (x : LaneEvent). is_save x ≡ true → U.held new.keeper ≡ replaced (U.held old.keeper) (Some (parts_bytes T new.core))) e t.store.put;
    }

pub took_at : {F K : Type 0} (T : Ghosts F) (U : keeper.Ghosts K) (books : List (WireBook F K)) (rank lane : ℕ) (e : LaneEvent) (before now : WireBook F K) → rank < length books → before ≡ get_or books rank before → Took T U lane e before now → TookAt T U rank lane e books (set books rank now)
took_at T U books rank lane e before now here is took = record {
  moved = one_set books rank now;
  before = before;
  now = now;
  was = given_at books rank before here is;
  is = element_set_same books rank now here;
  took = took;
}

pub refused_at : {F K : Type 0} (T : Ghosts F) (U : keeper.Ghosts K) (books : List (WireBook F K)) (rank : ℕ) (fault : Fault) (refusal : Refusal) (before now : WireBook F K) → rank < length books → before ≡ get_or books rank before → fault ≡ fault_of rank refusal → Refused T U refusal before now → RefusedAt T U rank fault books (set books rank now)
refused_at T U books rank fault refusal before now here is cause refused = record {
  moved = one_set books rank now;
  before = before;
  now = now;
  was = given_at books rank before here is;
  is = element_set_same books rank now here;
  refusal = refusal;
  is_fault = cause;
  refused = refused;
}
