-- Books that take their last save.
use Rattle.std.proofs.Common.{◌≡◌, ◌≢◌, ℕ, zero, suc, ◌+◌, ◌<◌, ◌≤◌, true, List, [], ◌∷◌, ◌++◌, length, get_or, set, Option, Some, None, refl, sym, ap, subst, ◌∙◌, inl, inr, arith, length-set}
use Rattle.std.specs.Prelude.{IfSome}
use Rattle.mls_base.specs.declared.outside.Keeper as keeper
use Rattle.mls_base.specs.Told.{replaced}
use Rattle.mls_model.specs.Numbers.{element}
use Rattle.mls_model.specs.declared.lanes.LaneKind.{LaneKind}
use Rattle.mls_model.specs.declared.lanes.LaneKind.TheVariants as kinds
use Rattle.mls_model.specs.declared.outcomes.Outcome.{Outcome}
use Rattle.mls_model.specs.Frames.{Frame, save}
use Rattle.mls_model.specs.Survival.{is_save}
use Rattle.mls_tape.specs.declared.wire.Wire.{Wire}
use Rattle.mls_tape.specs.Events.{DecodedEvent}
use Rattle.mls_tape.specs.Wires.{wire_lanes}
use Rattle.mls_field.specs.contracts.field.FieldRowFold.TheImpl.{ghosts as field_ghosts}
use Rattle.mls_rank.specs.Standing.{as_event}
use Rattle.mls_book.specs.Cores.{parts_bytes}
use Rattle.mls_book.specs.declared.offered.Offered.{Offered}
use Rattle.mls_book.specs.declared.offered.Offered.TheVariants.{Taken}
use Rattle.mls_book.specs.Keepers.{KeeperState}
use Rattle.mls_book.specs.Offers.{IfTaken, IsTaken, SameBook}
use Rattle.mls_held.specs.declared.run.Run as run
use Rattle.mls_held.specs.Begun.{HasBegun}
use Rattle.mls_serve.specs.declared.served.LaneFault.{LaneFault}
use Rattle.mls_desk.specs.Desks.{takes_below}
use Rattle.mls_desk.specs.Books.{WireBook, IsNamed, AreSeated, IsShown, HoldsOwn, HasSaved, HaveSaved, StoppedAt, AreClean, AreSaved}
use Rattle.mls_desk.proofs.Elements.{within, same_or, at_element, element_set_same, element_set_other}

-- what an answer says of a taken event
pub taken_of : {K : Type 0} {U : keeper.Ghosts K} (old new : WireBook K) (event : DecodedEvent Wire) (place : ℕ) (o : Outcome) (a : Offered) → a ≡ Taken place o → IfTaken a (IsTaken field_ghosts U old new event) → IsTaken field_ghosts U old new event place o
taken_of {K} {U} old new event place o a is t = subst (λ (b : Offered). IfTaken b (IsTaken field_ghosts U old new event)) is t

-- the book stays one of the run
pub same_named : {K R : Type 0} {U : keeper.Ghosts K} {N : run.Ghosts R} (old new : WireBook K) → SameBook U old new → IsNamed U N old → ((start : KeeperState) → HasBegun U start old → HasBegun U start new) → IsNamed U N new
same_named {K} {R} {U} {N} old new same is goes = record {
  count = ap (λ (w : Wire). wire_lanes w) same.lanes ∙ is.count;
  told = is.told;
  belongs = ap (λ (w : Wire). takes_below (wire_lanes w)) same.lanes ∙ is.belongs;
  sizes = same.sizes ∙ is.sizes;
  begun = subst (λ (rank : ℕ). HasBegun U (N.keepers rank) new) (sym same.rank) (goes (N.keepers old.core.rank) is.begun);
}

-- what was put is held, where the keeper tells
pub put_holds : (old new : Option (Option (List ℕ))) (bytes : List ℕ) → new ≡ replaced old (Some bytes) → IfSome new (λ kept. kept ≡ Some bytes)
put_holds None new bytes is = subst (λ (o : Option (Option (List ℕ))). IfSome o (λ kept. kept ≡ Some bytes)) (sym is) tt
put_holds (Some before) new bytes is = subst (λ (o : Option (Option (List ℕ))). IfSome o (λ kept. kept ≡ Some bytes)) (sym is) refl

-- an event that is a Save on a control lane
is_saving : (kind : LaneKind) (frame : Frame) → kind ≡ kinds.Control → frame ≡ save → is_save (as_event kind frame) ≡ true
is_saving kind frame of_control of_save = ap (λ (k : LaneKind). is_save (as_event k frame)) of_control ∙ ap (λ (f : Frame). is_save (as_event kinds.Control f)) of_save

-- after it the keeper holds what was put
pub save_put : {K : Type 0} {U : keeper.Ghosts K} (old new : WireBook K) (event : DecodedEvent Wire) (place : ℕ) (o : Outcome) → IsTaken field_ghosts U old new event place o → event.kind ≡ kinds.Control → event.frame ≡ save
    → U.held new.keeper ≡ replaced (U.held old.keeper) (Some (parts_bytes field_ghosts new.core))
save_put old new event place o t of_control of_save = t.store.put (is_saving event.kind event.frame of_control of_save)

less : (r n : ℕ) → r < n + 1 → r ≢ n → r < n
less zero zero lt ne = absurd (ne refl)
less zero (suc n) lt ne = omega arith
less (suc r) zero lt ne = absurd (omega (arith, lt))
less (suc r) (suc n) lt ne = let h = less r n (omega (arith, lt)) (λ e. ne (ap suc e)) in omega (arith, h)

-- ---- the books so far

-- The books while they take their saves: those below a rank have taken theirs, and from the rank on they are as before.
pub record SavesSo {K R : Type 0} (U : keeper.Ghosts K) (N : run.Ghosts R) (old new : List (WireBook K)) (n : ℕ) : Type 0 where
  pub seated : AreSeated U N new
  pub below : (rank : ℕ) (book : WireBook K) → rank < n → element new rank ≡ Some book → HasSaved U old rank book
  pub above : (rank : ℕ) → n ≤ rank → element new rank ≡ element old rank

pub saves_none : {K R : Type 0} {U : keeper.Ghosts K} {N : run.Ghosts R} (books : List (WireBook K)) → AreSeated U N books → SavesSo U N books books 0
saves_none books seated = record { seated = seated; below = λ rank book lt e. absurd (omega (arith, lt)); above = λ rank le. refl }

-- the book at a rank, before the rank's save
here_of : {K R : Type 0} {U : keeper.Ghosts K} {N : run.Ghosts R} (old mid : List (WireBook K)) (n : ℕ) (book : WireBook K) → SavesSo U N old mid n → n < length mid → book ≡ get_or mid n book → element old n ≡ Some book
here_of {K} old mid n book so here is = sym (so.above n (omega arith)) ∙ at_element mid n book here ∙ ap Some (sym is)

pub seated_at : {K R : Type 0} {U : keeper.Ghosts K} {N : run.Ghosts R} (mid : List (WireBook K)) (n : ℕ) (book : WireBook K) → AreSeated U N mid → n < length mid → book ≡ get_or mid n book → IsNamed U N book × (book.core.rank ≡ n)
seated_at {K} mid n book seated here is = seated n book (at_element mid n book here ∙ ap Some (sym is))

-- a book that stays of its rank keeps the others' places
pub seated_set : {K R : Type 0} {U : keeper.Ghosts K} {N : run.Ghosts R} (mid : List (WireBook K)) (n : ℕ) (new : WireBook K) → AreSeated U N mid → IsNamed U N new → new.core.rank ≡ n → AreSeated U N (set mid n new)
seated_set {K} {R} {U} {N} mid n new seated named own = λ rank x e. elim (same_or rank n) [
  | inl h ↦ (
      let same : new ≡ x = element_set_same mid n new x (ap (λ i. element (set mid n new) i) (sym h) ∙ e) in
      (subst (λ (b : WireBook K). IsNamed U N b) same named, ap (λ (b : WireBook K). b.core.rank) (sym same) ∙ own ∙ sym h))
  | inr h ↦ seated rank x (sym (element_set_other mid n rank new h) ∙ e)
]

above_set : {K R : Type 0} {U : keeper.Ghosts K} {N : run.Ghosts R} (old mid : List (WireBook K)) (n : ℕ) (new : WireBook K) → SavesSo U N old mid n → (rank : ℕ) → n < rank → element (set mid n new) rank ≡ element old rank
above_set old mid n new so rank lt = element_set_other mid n rank new (λ e. omega (arith, lt, e)) ∙ so.above rank (omega (arith, lt))

below_set : {K R : Type 0} {U : keeper.Ghosts K} {N : run.Ghosts R} (old mid : List (WireBook K)) (n : ℕ) (new : WireBook K) → SavesSo U N old mid n → (rank : ℕ) (book : WireBook K) → rank < n → element (set mid n new) rank ≡ Some book → HasSaved U old rank book
below_set old mid n new so rank book lt e = so.below rank book lt (sym (element_set_other mid n rank new (λ c. omega (arith, lt, c))) ∙ e)

-- one more book took its save
pub saves_more : {K R : Type 0} {U : keeper.Ghosts K} {N : run.Ghosts R} (old mid : List (WireBook K)) (n : ℕ) (book new : WireBook K) → SavesSo U N old mid n → n < length mid → book ≡ get_or mid n book
    → IsNamed U N new → new.core.rank ≡ book.core.rank → new.journal ≡ book.journal ++ book.core.rank ∷ [] → new.fault ≡ book.fault → HoldsOwn U new → SavesSo U N old (set mid n new) (n + 1)
saves_more {K} {R} {U} {N} old mid n book new so here is named rank journal fault holds =
    let own = (seated_at {U = U} {N = N} mid n book so.seated here is).1 in
    record {
      seated = seated_set {U = U} {N = N} mid n new so.seated named (rank ∙ own);
      below = λ r x lt e. elim (same_or r n) [
        | inl h ↦ (
            let same : new ≡ x = element_set_same mid n new x (ap (λ i. element (set mid n new) i) (sym h) ∙ e) in
            subst (λ (b : WireBook K). HasSaved U old r b) same (record {
              before = book;
              was = ap (λ i. element old i) h ∙ here_of {U = U} {N = N} old mid n book so here is;
              journal = journal ∙ ap (λ (i : ℕ). book.journal ++ i ∷ []) (own ∙ sym h);
              fault = fault;
              holds = holds;
            }))
        | inr h ↦ below_set {U = U} {N = N} old mid n new so r x (less r n lt h) e
      ];
      above = λ r le. above_set {U = U} {N = N} old mid n new so r (omega (arith, le));
    }

-- all took theirs
pub saves_all : {K R : Type 0} {U : keeper.Ghosts K} {N : run.Ghosts R} (old new : List (WireBook K)) (n : ℕ) → SavesSo U N old new n → length new ≤ n → HaveSaved U old new
saves_all old new n so all = λ rank book e. so.below rank book (let h = within new rank book e in omega (arith, h, all)) e

-- a rank's book was refused its save
pub saves_stopped : {K R : Type 0} {U : keeper.Ghosts K} {N : run.Ghosts R} (old mid : List (WireBook K)) (n : ℕ) (new : WireBook K) (fault : LaneFault) → SavesSo U N old mid n → n < length mid → fault.rank ≡ n → IsShown fault.fault new.fault → StoppedAt U old (set mid n new) fault
saves_stopped {K} {R} {U} {N} old mid n new fault so here at shown = record {
  reported = record {
    here = let len = length-set mid n new in omega (arith, at, here, len);
    shown = λ book e. subst (λ (b : WireBook K). IsShown fault.fault b.fault) (element_set_same mid n new book (ap (λ i. element (set mid n new) i) (sym at) ∙ e)) shown;
  };
  below = λ rank book lt e. below_set {U = U} {N = N} old mid n new so rank book (omega (arith, lt, at)) e;
  above = λ rank lt. above_set {U = U} {N = N} old mid n new so rank (omega (arith, lt, at));
}

-- no book showed a fault before, so none does
pub saves_kept : {K : Type 0} {U : keeper.Ghosts K} (old new : List (WireBook K)) → HaveSaved U old new → AreClean old → AreSaved U new
saves_kept old new saved clean = λ rank book e.
    let s = saved rank book e in
    (s.fault ∙ clean rank s.before s.was, s.holds)
