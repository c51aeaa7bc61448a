-- What becomes of the books of a hub's ranks.
use Rattle.std.proofs.Common.{◌≡◌, ◌≢◌, ℕ, zero, suc, ◌+◌, ◌<◌, ◌≤◌, Bool, true, false, List, [], ◌∷◌, ◌++◌, length, Option, Some, refl, sym, ap, subst, ◌∙◌, inl, inr, length-append, arith}
use Rattle.std.specs.Prelude.{◌==◌}
use Rattle.std.proofs.lemmas.Bool.{cases_Bool}
use Rattle.std.proofs.lemmas.Bool.Decides.{nat_tests}
use Rattle.mls_base.specs.declared.outside.Keeper as keeper
use Rattle.mls_base.specs.Told.{Rose}
use Rattle.mls_model.specs.Numbers.{element, times}
use Rattle.mls_model.specs.Frames.{Frame}
use Rattle.mls_model.specs.Histories.{LaneEvent}
use Rattle.mls_model.specs.Survival.{is_crash}
use Rattle.mls_field.specs.declared.fold.RowFold.{Ghosts}
use Rattle.mls_book.specs.Cores.{Stands}
use Rattle.mls_book.proofs.JournalLaws.{times_append}
use Rattle.mls_held.specs.declared.run.Run as run
use Rattle.mls_hub.specs.declared.faults.Refusal.{Refusal}
use Rattle.mls_hub.specs.declared.faults.Refusal.TheVariants as refusals
use Rattle.mls_hub.specs.declared.faults.Fault.{Fault}
use Rattle.mls_hub.specs.Lanes.{client_event, hub_event, hub_history, with_frames}
use Rattle.mls_hub.specs.Books.{WireBook, GoesOn, Took, Refused, CountsRefusal, Follows, GoOn, KeeperRose, IsCaused, OneMoved, TookAt, RefusedAt, fault_of}
use Rattle.mls_hub.specs.Halls.{IsSeated}
use Rattle.mls_hub.proofs.Histories.{times_one, times_none, same_number, history_stays, history_more, next_event, with_own, with_other}
use Rattle.mls_hub.proofs.Elements.{same_element, each_moved}

-- how often a number stands in a list with one more
pub times_here : (k : ℕ) (xs : List ℕ) → times k (xs ++ k ∷ []) ≡ times k xs + 1
times_here k xs = let all = times_append k xs (k ∷ []) in let one = times_one k k (same_number k) in omega (arith, all, one)

pub times_there : (j k : ℕ) (xs : List ℕ) → j ≢ k → times j (xs ++ k ∷ []) ≡ times j xs
times_there j k xs ne =
    let all = times_append j xs (k ∷ []) in
    let other : (k == j) ≡ false = grind (arith, nat_tests, ne) in
    let none = times_none j k other in
    omega (arith, all, none)

module _ {F K R : Type 0} (T : Ghosts F) (W : keeper.Ghosts K) (N : run.Ghosts R) where
  -- a book that took an event of a lane whose frames are told
  pub seated_took : (frames : ℕ → List Frame) (rank k : ℕ) (e : LaneEvent) (old new : WireBook F K) → hub_event N.sizes.ranks frames k (times k old.journal) ≡ Some e → is_crash e ≡ false → (N.sizes.ranks ≤ k → times k old.journal + 1 ≤ length (frames k))
      → Took T W k e old new → IsSeated T W N frames rank old → IsSeated T W N frames rank new
  seated_took frames rank k e old new there quiet room took s =
      let longer : hub_history N.sizes.ranks frames old.journal ++ e ∷ [] ≡ hub_history N.sizes.ranks frames new.journal = sym (history_more N.sizes.ranks frames old.journal k e there) ∙ ap (λ (j : List ℕ). hub_history N.sizes.ranks frames j) (sym took.journal) in
      record {
        lanes = took.goes_on.lanes ∙ s.lanes;
        sizes = took.goes_on.sizes ∙ s.sizes;
        of_rank = took.goes_on.rank ∙ s.of_rank;
        begun = took.goes_on.begun (N.keepers rank) s.begun;
        stands = subst (λ (h : List LaneEvent). Stands T new.core h) longer (took.stands (hub_history N.sizes.ranks frames old.journal) s.stands quiet);
        within = λ x le. subst (λ (j : List ℕ). times x j ≤ length (frames x)) (sym took.journal) (elim (cases_Bool (x == k)) [
          | inl same ↦ (
              let e : x ≡ k = grind (arith, nat_tests, same) in
              let few = room (subst (λ (m : ℕ). N.sizes.ranks ≤ m) e le) in
              let here = times_here k old.journal in
              let fits : times k (old.journal ++ k ∷ []) ≤ length (frames k) = omega (arith, few, here) in
              subst (λ (m : ℕ). times m (old.journal ++ k ∷ []) ≤ length (frames m)) (sym e) fits)
          | inr other ↦ (
              let ne : x ≢ k = grind (arith, nat_tests, other) in
              let same = times_there x k old.journal ne in
              let was = s.within x le in
              omega (arith, same, was))
        ]);
      }

  -- a book whose lanes gave more frames
  pub seated_grows : (frames : ℕ → List Frame) (rank k : ℕ) (more : List Frame) (book : WireBook F K) → IsSeated T W N frames rank book → IsSeated T W N (with_frames frames k (frames k ++ more)) rank book
  seated_grows frames rank k more book s = record {
    lanes = s.lanes;
    sizes = s.sizes;
    of_rank = s.of_rank;
    begun = s.begun;
    stands = subst (λ (h : List LaneEvent). Stands T book.core h) (sym (history_stays N.sizes.ranks frames k more book.journal s.within)) s.stands;
    within = λ x le. elim (cases_Bool (x == k)) [
      | inl same ↦ (
          let e : x ≡ k = grind (arith, nat_tests, same) in
          let was = s.within x le in
          let size = ap length (ap (λ (m : ℕ). with_frames frames k (frames k ++ more) m) e ∙ with_own frames k (frames k ++ more)) in
          let grown = length-append (frames k) more in
          let first = ap (λ (m : ℕ). length (frames m)) e in
          omega (arith, was, size, grown, first))
      | inr other ↦ (
          let was = s.within x le in
          let size = ap length (with_other frames k x (frames k ++ more) other) in
          omega (arith, was, size))
    ];
  }

  -- a book that didn't take an event
  pub seated_refused : (frames : ℕ → List Frame) (rank : ℕ) (refusal : Refusal) (old new : WireBook F K) → Refused T W refusal old new → IsSeated T W N frames rank old → IsSeated T W N frames rank new
  seated_refused frames rank refusal old new r s = record {
    lanes = r.goes_on.lanes ∙ s.lanes;
    sizes = r.goes_on.sizes ∙ s.sizes;
    of_rank = r.goes_on.rank ∙ s.of_rank;
    begun = r.goes_on.begun (N.keepers rank) s.begun;
    stands = subst (λ (j : List ℕ). Stands T new.core (hub_history N.sizes.ranks frames j)) (sym r.journal) (r.stands (hub_history N.sizes.ranks frames old.journal) s.stands);
    within = λ x le. subst (λ (j : List ℕ). times x j ≤ length (frames x)) (sym r.journal) (s.within x le);
  }

-- ---- books that go on

pub goes_same : {F K : Type 0} (W : keeper.Ghosts K) (book : WireBook F K) → GoesOn W book book
goes_same W book = record { lanes = refl; sizes = refl; rank = refl; begun = λ start b. b; later = omega arith }

pub goes_further : {F K : Type 0} (W : keeper.Ghosts K) (old mid new : WireBook F K) → GoesOn W old mid → GoesOn W mid new → GoesOn W old new
goes_further W old mid new a b = record {
  lanes = b.lanes ∙ a.lanes;
  sizes = b.sizes ∙ a.sizes;
  rank = b.rank ∙ a.rank;
  begun = λ start h. b.begun start (a.begun start h);
  later = omega (arith, a.later, b.later);
}

pub all_same : {F K : Type 0} (W : keeper.Ghosts K) (books : List (WireBook F K)) → GoOn W books books
all_same W books = record { count = refl; each = λ rank book e. record { old = book; was = e; goes_on = goes_same W book } }

pub go_further : {F K : Type 0} (W : keeper.Ghosts K) (old mid new : List (WireBook F K)) → GoOn W old mid → GoOn W mid new → GoOn W old new
go_further W old mid new a b = record {
  count = b.count ∙ a.count;
  each = λ rank book e.
      let last = b.each rank book e in
      let first = a.each rank last.old last.was in
      record { old = first.old; was = first.was; goes_on = goes_further W first.old last.old book first.goes_on last.goes_on };
}

-- one of the books goes on
pub one_goes : {F K : Type 0} (W : keeper.Ghosts K) (old new : List (WireBook F K)) (rank : ℕ) (before now : WireBook F K) → OneMoved rank old new → element old rank ≡ Some before → element new rank ≡ Some now → GoesOn W before now → GoOn W old new
one_goes {F} {K} W old new rank before now moved was is goes = record {
  count = moved.count;
  each = each_moved (λ j (x : WireBook F K). Follows W old j x) rank old new now moved is (record { old = before; was = was; goes_on = goes }) (λ j x ne e. record { old = x; was = e; goes_on = goes_same W x });
}

pub took_goes : {F K : Type 0} (T : Ghosts F) (W : keeper.Ghosts K) (rank lane : ℕ) (e : LaneEvent) (old new : List (WireBook F K)) → TookAt T W rank lane e old new → GoOn W old new
took_goes T W rank lane e old new t = one_goes W old new rank t.before t.now t.moved t.was t.is t.took.goes_on

pub refused_goes : {F K : Type 0} (T : Ghosts F) (W : keeper.Ghosts K) (rank : ℕ) (fault : Fault) (old new : List (WireBook F K)) → RefusedAt T W rank fault old new → GoOn W old new
refused_goes T W rank fault old new r = one_goes W old new rank r.before r.now r.moved r.was r.is r.refused.goes_on

caused_by : {F K : Type 0} (W : keeper.Ghosts K) (rank : ℕ) (refusal : Refusal) (old new : List (WireBook F K)) (before now : WireBook F K) → element old rank ≡ Some before → element new rank ≡ Some now → CountsRefusal refusal (W.faults before.keeper) (W.faults now.keeper) → IsCaused {F = F} W (fault_of rank refusal) old new
caused_by W rank refusals.Keeper old new before now was is counts = record { before = before; now = now; was = was; is = is; rose = counts }
caused_by W rank refusals.Memory old new before now was is counts = tt

pub refused_caused : {F K : Type 0} (T : Ghosts F) (W : keeper.Ghosts K) (rank : ℕ) (fault : Fault) (old new : List (WireBook F K)) → RefusedAt T W rank fault old new → IsCaused {F = F} W fault old new
refused_caused {F} T W rank fault old new r = subst (λ (f : Fault). IsCaused {F = F} W f old new) (sym r.is_fault) (caused_by W rank r.refusal old new r.before r.now r.was r.is r.refused.counts)
