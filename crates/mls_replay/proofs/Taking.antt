-- What becomes of a rank's book and keeper with the event at a place of its list.
use Rattle.std.proofs.Common.{◌≡◌, ℕ, ◌+◌, ◌<◌, Bool, true, false, ◌||◌, List, [], ◌∷◌, ◌++◌, length, take, get_or, Some, refl, sym, ◌∙◌, ap, subst}
use Rattle.std.specs.List.{list_any}
use Rattle.std.specs.Option.{option_to_list}
use Rattle.std.proofs.lemmas.List.Folds.{list_any-append}
use Rattle.mls_base.specs.declared.outside.Keeper as keeper
use Rattle.mls_model.specs.declared.outcomes.Outcome.{Outcome}
use Rattle.mls_model.specs.Numbers.{times}
use Rattle.mls_model.specs.Lanes.{Lane}
use Rattle.mls_model.specs.Histories.{LaneEvent, event_of, history}
use Rattle.mls_model.specs.Survival.{is_save}
use Rattle.mls_tape.specs.Events.{DecodedEvent}
use Rattle.mls_field.specs.declared.fold.RowFold.{Ghosts}
use Rattle.mls_book.specs.declared.faults.BookFault.{BookFault}
use Rattle.mls_book.specs.SavedRanks.{calls_keeper}
use Rattle.mls_book.specs.Books.{BookView, IsCarried, with_spare}
use Rattle.mls_model.specs.Places.{gathered}
use Rattle.mls_replay.specs.Folding.{IsUnderWay}
use Rattle.mls_book.specs.Offers.{IsTaken, IsRefused, lane_event}
use Rattle.mls_book.specs.Keepers.{keeper_seen, HasRun, FaultSays}
use Rattle.mls_book.proofs.KeeperLaws.{history_front, no_call, run_none, run_on, run_refused}
use Rattle.mls_replay.proofs.Orders.{history_more, take_one_more}

-- What is known of the event that a place of a list names, before it is offered.
pub record IsNamed {T F K : Type 0} (R : Ghosts F) (U : keeper.Ghosts K) (lanes : List Lane) (order : List ℕ) (i : ℕ) (book : BookView T F K) (event : DecodedEvent T) : Type 0 where
  pub here : i < length order
  pub journal : book.journal ≡ take i order
  pub lane : event.lane ≡ get_or order i 0
  pub number : event.number ≡ times event.lane book.journal
  pub there : event_of lanes event.lane event.number ≡ Some (lane_event event)
  pub carried : IsCarried R U book (history lanes book.journal)

pub named : {T F K : Type 0} {R : Ghosts F} {U : keeper.Ghosts K} (lanes own : List Lane) (order : List ℕ) (i k number taken : ℕ) (book : BookView T F K) (event : DecodedEvent T)
    → own ≡ lanes → i < length order → book.journal ≡ take i order → k ≡ get_or order i 0 → event.lane ≡ k → event.number ≡ number → number ≡ taken → taken ≡ times k book.journal
    → event_of lanes k number ≡ Some (record { kind = event.kind; frame = event.frame }) → IsCarried R U book (history own book.journal)
    → IsNamed R U lanes order i book event
named {T} {F} {K} {R} {U} lanes own order i k number taken book event same here journal is_k lane is_number is_taken count there carried = record {
  here = here;
  journal = journal;
  lane = lane ∙ is_k;
  number = is_number ∙ (is_taken ∙ (count ∙ ap (λ j. times j book.journal) (sym lane)));
  there = ap (λ j. event_of lanes j event.number) lane ∙ (ap (event_of lanes k) is_number ∙ there);
  carried = subst (λ (l : List Lane). IsCarried R U book (history l book.journal)) same carried;
}

-- the history with the event
with_event : {T F K : Type 0} {R : Ghosts F} {U : keeper.Ghosts K} (lanes : List Lane) (order : List ℕ) (i : ℕ) (book : BookView T F K) (event : DecodedEvent T)
    → IsNamed R U lanes order i book event → history lanes (take (i + 1) order) ≡ history lanes book.journal ++ lane_event event ∷ []
with_event lanes order i book event n =
    let k = get_or order i 0 in
    let grown : take (i + 1) order ≡ book.journal ++ k ∷ [] = take_one_more order i n.here ∙ ap (λ xs. xs ++ k ∷ []) (sym n.journal) in
    let number : event.number ≡ times k book.journal = n.number ∙ ap (λ j. times j book.journal) n.lane in
    let found : event_of lanes k (times k book.journal) ≡ Some (lane_event event) = ap (event_of lanes k) (sym number) ∙ (ap (λ j. event_of lanes j event.number) (sym n.lane) ∙ n.there) in
    ap (history lanes) grown ∙ (history_more lanes book.journal k ∙ ap (λ o. history lanes book.journal ++ option_to_list o) found)

-- the whole history begins so
whole_with : {T F K : Type 0} {R : Ghosts F} {U : keeper.Ghosts K} (lanes : List Lane) (order : List ℕ) (i : ℕ) (book : BookView T F K) (event : DecodedEvent T)
    → IsNamed R U lanes order i book event → (rest : List LaneEvent) × (history lanes order ≡ (history lanes book.journal ++ lane_event event ∷ []) ++ rest)
whole_with {T} {F} {K} {R} {U} lanes order i book event n =
    let front = history_front lanes order (i + 1) in
    (front.0, front.1 ∙ ap (λ h. h ++ front.0) (with_event {R = R} {U = U} lanes order i book event n))

-- the journal with the event
journal_with : {T F K : Type 0} {R : Ghosts F} {U : keeper.Ghosts K} (lanes : List Lane) (order : List ℕ) (i : ℕ) (old new : BookView T F K) (event : DecodedEvent T) (place : ℕ) (o : Outcome)
    → IsNamed R U lanes order i old event → IsTaken R U old new event place o → new.journal ≡ take (i + 1) order
journal_with lanes order i old new event place o n t =
    t.journal ∙ (ap (λ xs. xs ++ event.lane ∷ []) n.journal ∙ (ap (λ k. take i order ++ k ∷ []) n.lane ∙ sym (take_one_more order i n.here)))

pub taken_runs : {T F K : Type 0} {R : Ghosts F} {U : keeper.Ghosts K} (lanes own : List Lane) (order : List ℕ) (i : ℕ) (old new : BookView T F K) (event : DecodedEvent T) (place : ℕ) (o : Outcome) (start : K)
    → IsNamed R U lanes order i old event → IsTaken R U old new event place o → own ≡ lanes → IsCarried R U new (history own new.journal)
    → HasRun R.part_of old.core.sizes old.core.rank (history lanes (take i order)) (keeper_seen U start) (keeper_seen U old.keeper)
    → HasRun R.part_of old.core.sizes old.core.rank (history lanes (take (i + 1) order)) (keeper_seen U start) (keeper_seen U new.keeper)
taken_runs {T} {F} {K} {R} {U} lanes own order i old new event place o start n t same now run =
    let P : List ℕ → K → Type 0 = λ js k. HasRun R.part_of old.core.sizes old.core.rank (history lanes js) (keeper_seen U start) (keeper_seen U k) in
    let run' : P old.journal old.keeper = subst (λ js. P js old.keeper) (sym n.journal) run in
    let now' : IsCarried R U new (history lanes new.journal) = subst (λ (l : List Lane). IsCarried R U new (history l new.journal)) same now in
    subst (λ js. P js new.keeper) (journal_with {R = R} {U = U} lanes order i old new event place o n t)
    (run_on {R = R} U lanes old new event place o start t n.number n.there n.carried now' run')

pub refused_runs : {T F K : Type 0} {R : Ghosts F} {U : keeper.Ghosts K} (lanes : List Lane) (order : List ℕ) (i : ℕ) (old new : BookView T F K) (event : DecodedEvent T) (fault : BookFault) (start : K)
    → IsNamed R U lanes order i old event → IsRefused R U old new event fault
    → HasRun R.part_of old.core.sizes old.core.rank (history lanes (take i order)) (keeper_seen U start) (keeper_seen U old.keeper)
    → FaultSays R.part_at old.core.sizes old.core.rank (history lanes order) (keeper_seen U start) (keeper_seen U new.keeper) fault
refused_runs {T} {F} {K} {R} {U} lanes order i old new event fault start n r run =
    let whole = whole_with {R = R} {U = U} lanes order i old event n in
    let run' = subst (λ js. HasRun R.part_of old.core.sizes old.core.rank (history lanes js) (keeper_seen U start) (keeper_seen U old.keeper)) (sym n.journal) run in
    run_refused {R = R} U old new event start (history lanes old.journal) whole.0 (history lanes order) fault r n.carried whole.1 run'

first_false : (a b : Bool) → (a || b) ≡ false → a ≡ false
first_false true b e = let f : true ≡ false = e in cc
first_false false b e = refl

-- in a history without a save no event calls the keeper
pub no_call_here : {T F K : Type 0} {R : Ghosts F} {U : keeper.Ghosts K} (lanes : List Lane) (order : List ℕ) (i : ℕ) (book : BookView T F K) (event : DecodedEvent T)
    → IsNamed R U lanes order i book event → list_any is_save (history lanes order) ≡ false → calls_keeper book.saved (lane_event event) ≡ false
no_call_here {T} {F} {K} {R} {U} lanes order i book event n none =
    let whole = whole_with {R = R} {U = U} lanes order i book event n in
    let front = history lanes book.journal ++ lane_event event ∷ [] in
    let in_front : list_any is_save front ≡ false = first_false (list_any is_save front) (list_any is_save whole.0) (sym (list_any-append is_save front whole.0) ∙ (ap (list_any is_save) (sym whole.1) ∙ none)) in
    no_call (history lanes book.journal) (lane_event event) book.saved n.carried.had in_front

no_events : (lanes : List Lane) → history lanes [] ≡ []
unfolding history gathered
no_events lanes = refl

-- with room in its journal a book that took nothing is under way
pub reserved : {T F K : Type 0} {R : Ghosts F} {U : keeper.Ghosts K} (lanes : List Lane) (order : List ℕ) (spare : ℕ) (old new : BookView T F K)
    → new ≡ with_spare old spare → old.journal ≡ [] → IsUnderWay R U lanes order 0 old new
reserved {T} {F} {K} {R} {U} lanes order spare old new same empty = subst (λ (b : BookView T F K). IsUnderWay R U lanes order 0 old b) (sym same) (record {
  same = refl;
  sizes = refl;
  rank = refl;
  journal = empty;
  runs = subst (λ h. HasRun R.part_of old.core.sizes old.core.rank h (keeper_seen U old.keeper) (keeper_seen U old.keeper)) (sym (no_events lanes)) (run_none R U old.core.sizes old.core.rank old.keeper);
  quiet = λ none. refl;
})
