-- A book that goes on.
use Rattle.std.proofs.Common.{◌≡◌, ◌≢◌, ℕ, zero, suc, ◌+◌, ◌<◌, ◌≤◌, true, List, [], ◌∷◌, length, get_or, set, slice_index, Some, refl, sym, ap, subst, ◌∙◌, arith, length-set, inl, inr, ◌⊎◌}
use Rattle.std.proofs.lemmas.Bool.{true≢false}
use Rattle.mls_base.specs.declared.outside.Keeper as keeper
use Rattle.mls_model.specs.declared.outcomes.Outcome.{Outcome}
use Rattle.mls_model.specs.Lanes.{Lane}
use Rattle.mls_model.specs.Numbers.{element, times}
use Rattle.mls_model.specs.Schedules.{is_lane_of, is_legal_order, event_count}
use Rattle.mls_tape.specs.Events.{DecodedEvent}
use Rattle.mls_tape.specs.Tapes.{TapeView}
use Rattle.mls_field.specs.declared.fold.RowFold.{Ghosts}
use Rattle.mls_field.specs.declared.field.Field.{Field}
use Rattle.std.specs.Borrow.{Bor}
use Rattle.mls_book.specs.declared.offered.Offered.{Offered}
use Rattle.mls_book.specs.declared.offered.Offered.TheVariants.{Taken}
use Rattle.mls_book.specs.Books.{with_spare}
use Rattle.mls_book.specs.Offers.{IfTaken, IsTaken}
use Rattle.mls_book.specs.Keepers.{KeeperState}
use Rattle.mls_held.specs.Begun.{HasBegun}
use Rattle.mls_pool.specs.declared.faults.PoolFault.{PoolFault}
use Rattle.mls_pool.specs.Pools.{TapeBook, lanes_of, AreClean, IsShown, IsReported}
use Rattle.mls_pool.specs.Moving.{GoesOn, GoOn, IsDrained}
use Rattle.mls_pool.proofs.Elements.{at_element, element_set_same, element_set_other}

-- what an answer says of a taken event
pub taken_of : {R : Ghosts Field} {K : Type 0} {U : keeper.Ghosts K} (old new : TapeBook K) (event : DecodedEvent (Bor TapeView)) (place : ℕ) (o : Outcome) (a : Offered) → a ≡ Taken place o → IfTaken a (IsTaken R U old new event) → IsTaken R U old new event place o
taken_of {R} {K} {U} old new event place o a is t = subst (λ (b : Offered). IfTaken b (IsTaken R U old new event)) is t

pub goes_on : {R : Ghosts Field} {K : Type 0} {U : keeper.Ghosts K} (old new : TapeBook K) (event : DecodedEvent (Bor TapeView)) (place : ℕ) (o : Outcome)
    → ((start : KeeperState) → HasBegun U start old → HasBegun U start new) → IsTaken R U old new event place o → GoesOn U old new
goes_on old new event place o begun t = record { lanes = t.same.lanes; sizes = t.same.sizes; rank = t.same.rank; begun = begun }

pub goes_same : {K : Type 0} {U : keeper.Ghosts K} (old : TapeBook K) → GoesOn U old old
goes_same old = record { lanes = refl; sizes = refl; rank = refl; begun = λ start b. b }

pub goes_further : {K : Type 0} {U : keeper.Ghosts K} (old mid new : TapeBook K) → GoesOn U old mid → GoesOn U mid new → GoesOn U old new
goes_further old mid new a b = record {
  lanes = b.lanes ∙ a.lanes;
  sizes = b.sizes ∙ a.sizes;
  rank = b.rank ∙ a.rank;
  begun = λ start h. b.begun start (a.begun start h);
}

-- more places of the journal change nothing else
pub goes_with_spare : {K : Type 0} {U : keeper.Ghosts K} (old new : TapeBook K) (places : ℕ) → new ≡ with_spare old places → GoesOn U old new
goes_with_spare {K} {U} old new places is = subst (λ (b : TapeBook K). GoesOn U old b) (sym is) (record {
  lanes = refl;
  sizes = refl;
  rank = refl;
  begun = λ start b. record {
    counted = b.counted;
    caused = b.caused;
    tells = b.tells;
    sure = b.sure;
    untold = b.untold;
    kept = b.kept;
    sound = b.sound;
    tells_on = b.tells_on;
    faultless = b.faultless;
    blameless = b.blameless;
  };
})

pub lane_there : (lanes : List Lane) (rank k : ℕ) → is_lane_of lanes rank k ≡ true → k < length lanes
lane_there [] rank k e = absurd (true≢false (sym e))
lane_there (lane ∷ lanes) rank zero e = omega arith
lane_there (lane ∷ lanes) rank (suc k) e = let h = lane_there lanes rank k e in omega (arith, h)

-- each lane below the last was taken whole
pub drained : {K : Type 0} {U : keeper.Ghosts K} (old new : TapeBook K) (lane end : ℕ) → GoesOn U old new
    → ((k : ℕ) → k < lane → is_lane_of (lanes_of old) old.core.rank k ≡ true → slice_index new.taken k ≡ event_count (lanes_of old) k) → end ≡ length (lanes_of old) → end ≤ lane
    → ((k : ℕ) → k < length (lanes_of new) → slice_index new.taken k ≡ times k new.journal) → is_legal_order (lanes_of new) new.core.rank new.journal ≡ true → IsDrained new
drained old new lane end on whole all last each legal = record {
  legal = legal;
  whole = λ k own.
      let same : lanes_of new ≡ lanes_of old = ap (λ (t : Bor TapeView). t.now.lanes) on.lanes in
      let ours : is_lane_of (lanes_of old) old.core.rank k ≡ true = ap (λ (ls : List Lane). is_lane_of ls old.core.rank k) (sym same) ∙ ap (λ (r : ℕ). is_lane_of (lanes_of new) r k) (sym on.rank) ∙ own in
      let there = lane_there (lanes_of old) old.core.rank k ours in
      sym (each k (lane_there (lanes_of new) new.core.rank k own)) ∙ whole k (omega (arith, there, all, last)) ours ∙ ap (λ (ls : List Lane). event_count ls k) (sym same);
}

less : (r n : ℕ) → r < n + 1 → r ≢ n → r < n
less zero zero lt ne = absurd (ne refl)
less zero (suc n) lt ne = omega arith
less (suc r) zero lt ne = absurd (omega (arith, lt))
less (suc r) (suc n) lt ne = let h = less r n (omega (arith, lt)) (λ e. ne (ap suc e)) in omega (arith, h)

same_or : (r n : ℕ) → (r ≡ n) ⊎ (r ≢ n)
same_or zero zero = inl refl
same_or zero (suc n) = inr (λ e. cc)
same_or (suc r) zero = inr (λ e. cc)
same_or (suc r) (suc n) = elim (same_or r n) [ inl h ↦ inl (ap suc h) | inr h ↦ inr (λ e. h (cc)) ]

pub all_same : {K : Type 0} {U : keeper.Ghosts K} (books : List (TapeBook K)) → GoOn U books books
all_same {K} {U} books = record { count = refl; each = λ rank book e. record { old = book; was = e; goes_on = goes_same {U = U} book } }

-- one of the books goes on
pub go_on : {K : Type 0} {U : keeper.Ghosts K} (old mid : List (TapeBook K)) (n : ℕ) (book new : TapeBook K) → GoOn U old mid → n < length mid → book ≡ get_or mid n book → GoesOn U book new → GoOn U old (set mid n new)
go_on {K} {U} old mid n book new on here is goes = record {
  count = length-set mid n new ∙ on.count;
  each = λ rank x e. elim (same_or rank n) [
    | inl h ↦ (
        let same : new ≡ x = element_set_same mid n new x (ap (λ i. element (set mid n new) i) (sym h) ∙ e) in
        let f = on.each n book (at_element mid n book here ∙ ap Some (sym is)) in
        record { old = f.old; was = ap (λ i. element old i) h ∙ f.was; goes_on = subst (λ (b : TapeBook K). GoesOn U f.old b) same (goes_further f.old book new f.goes_on goes) })
    | inr h ↦ on.each rank x (sym (element_set_other mid n rank new h) ∙ e)
  ];
}

-- a fact of one more book
pub more_at : {K : Type 0} (P : TapeBook K → Type 0) (books : List (TapeBook K)) (n : ℕ) (new : TapeBook K) → ((r : ℕ) (book : TapeBook K) → r < n → element books r ≡ Some book → P book) → P new
    → (r : ℕ) (book : TapeBook K) → r < n + 1 → element (set books n new) r ≡ Some book → P book
more_at P books n new all own r book lt e = elim (same_or r n) [
  | inl h ↦ subst P (element_set_same books n new book (ap (λ i. element (set books n new) i) (sym h) ∙ e)) own
  | inr h ↦ all r book (less r n lt h) (sym (element_set_other books n r new h) ∙ e)
]

pub clean_at : {K : Type 0} (books : List (TapeBook K)) (n : ℕ) (book new : TapeBook K) → AreClean books → n < length books → book ≡ get_or books n book → new.fault ≡ book.fault → AreClean (set books n new)
clean_at books n book new clean here is same = λ r x e. elim (same_or r n) [
  | inl h ↦ (
      let is_new = element_set_same books n new x (ap (λ i. element (set books n new) i) (sym h) ∙ e) in
      ap (λ (b : TapeBook _). b.fault) (sym is_new) ∙ same ∙ clean n book (at_element books n book here ∙ ap Some (sym is)))
  | inr h ↦ clean r x (sym (element_set_other books n r new h) ∙ e)
]

pub shown_at : {K : Type 0} (books : List (TapeBook K)) (n : ℕ) (new : TapeBook K) (fault : PoolFault) → fault.rank ≡ n → n < length books → IsShown fault.fault new.fault → IsReported (set books n new) fault
shown_at {K} books n new fault at here shown = record {
  here = let len = length-set books n new in omega (arith, at, here, len);
  shown = λ book e. subst (λ (b : TapeBook K). IsShown fault.fault b.fault) (element_set_same books n new book (ap (λ i. element (set books n new) i) (sym at) ∙ e)) shown;
}
