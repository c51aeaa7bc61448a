-- What a book says of an offer, by what its rank says.
use Rattle.std.proofs.Common.{◌≡◌, ℕ, ◌+◌, ◌<◌, List, [], ◌∷◌, ◌++◌, length, Option, None, refl, sym, ap, ◌∙◌, subst, inl, inr, ⊎_elim}
use Rattle.std.specs.Prelude.{is_some, slice_index, slice_set}
use Rattle.std.proofs.lemmas.Bool.{true≢false}
use Rattle.mls_base.specs.declared.outside.Keeper as keeper
use Rattle.mls_model.specs.declared.outcomes.Outcome.{Outcome}
use Rattle.mls_model.specs.Studies.{Sizes}
use Rattle.mls_model.specs.Histories.{LaneEvent}
use Rattle.mls_tape.specs.Events.{DecodedEvent}
use Rattle.mls_field.specs.declared.fold.RowFold.{Ghosts}
use Rattle.mls_rank.specs.declared.rank_core.RankCore.{RankCore}
use Rattle.mls_rank.specs.Standing.{StandsFor}
use Rattle.mls_book.specs.declared.faults.BookFault.{BookFault}
use Rattle.mls_book.specs.declared.saved_rank.SavedRank.{SavedRank}
use Rattle.mls_book.specs.Backups.{Begins}
use Rattle.mls_book.specs.SavedRanks.{core_of, study_of, number_of, saved_of, opening_of, keeper_of, TakesMemory, CountsFew}
use Rattle.mls_book.specs.Cores.{parts_of}
use Rattle.mls_book.specs.Books.{BookView}
use Rattle.mls_book.specs.Offers.{lane_event, IsTaken, IsRefused, NeedsMore, recorded}
use Rattle.mls_book.proofs.PartLaws.{parts_stand}
use Rattle.mls_book.proofs.RankTakes.{RankTakes, RankRefuses}

-- a book of these fields
abbrev pub view_of : {T F K : Type 0} {R : Ghosts F} {U : keeper.Ghosts K} → T → SavedRank F K R U → (journal taken : List ℕ) → Option BookFault → ℕ → BookView T F K
view_of lanes x journal taken fault spare = record {
  lanes = lanes;
  core = parts_of (core_of x);
  keeper = keeper_of x;
  saved = saved_of x;
  journal = journal;
  taken = taken;
  fault = fault;
  spare = spare;
}

begun : {F : Type 0} {R : Ghosts F} (s : Sizes) (rank : ℕ) (opening : Option (List ℕ)) (core : RankCore F R) → opening ≡ None → Begins s rank opening core → StandsFor core []
begun s rank opening core none begins = (subst (λ (o : Option (List ℕ)). Begins s rank o core) none begins).1

pub taken_is : {T F K : Type 0} {R : Ghosts F} {U : keeper.Ghosts K} (old : BookView T F K) (lanes : T) (x x' : SavedRank F K R U) (journal journal' taken taken' : List ℕ) (fault : Option BookFault) (spare spare' : ℕ) (event : DecodedEvent T) (place : ℕ) (o : Outcome)
    → view_of lanes x journal taken fault spare ≡ old → RankTakes x x' (lane_event event) o → opening_of x ≡ None
    → event.number ≡ slice_index taken event.lane → place ≡ length journal → journal' ≡ journal ++ event.lane ∷ [] → taken' ≡ slice_set taken event.lane (event.number + 1) → (0 < spare → spare' + 1 ≡ spare)
    → IsTaken R U old (view_of lanes x' journal' taken' fault spare') event place o
taken_is {T} {F} {K} {R} {U} old lanes x x' journal journal' taken taken' fault spare spare' event place o is t opens next here longer more left =
    subst (λ (v : BookView T F K). IsTaken R U v (view_of lanes x' journal' taken' fault spare') event place o) is (record {
      next = next;
      here = here;
      journal = longer;
      taken = more;
      same = record { lanes = refl; sizes = t.sizes; rank = t.rank; sound = t.sound };
      outcome = λ h st. t.right h (st (core_of x) refl);
      stands = λ h st calm. parts_stand (core_of x') (h ++ lane_event event ∷ []) (t.stands h (st (core_of x) refl) calm);
      begins = λ crashed none. parts_stand (core_of x') [] (begun (study_of x) (number_of x) (opening_of x) (core_of x') opens (t.reopens crashed none));
      saved = t.saved;
      store = record { untouched = t.untouched; put = t.put; held = t.held; gets = t.gets; given = t.given; faults = t.faults };
      fault = refl;
      spare = left;
    })

-- no bytes of the beginning take memory
pub needs_more : {F K : Type 0} {R : Ghosts F} {U : keeper.Ghosts K} (x : SavedRank F K R U) (e : LaneEvent) → opening_of x ≡ None → TakesMemory x e → NeedsMore (study_of x) (number_of x) (saved_of x) e
needs_more x e none needs = ⊎_elim (λ part. inl part) (λ more. ⊎_elim (λ calls. inr calls) (λ some. absurd (true≢false (sym some ∙ ap is_some none))) more) needs

pub refused_is : {T F K : Type 0} {R : Ghosts F} {U : keeper.Ghosts K} (old : BookView T F K) (lanes : T) (x x' : SavedRank F K R U) (journal journal' taken : List ℕ) (fault fault' : Option BookFault) (spare spare' most : ℕ) (event : DecodedEvent T) (f : BookFault)
    → view_of lanes x journal taken fault spare ≡ old → RankRefuses x x' (lane_event event) f → CountsFew x most
    → event.number ≡ slice_index taken event.lane → journal' ≡ journal → fault' ≡ recorded f fault
    → (0 < spare → NeedsMore (study_of x) (number_of x) (saved_of x) (lane_event event)) → (0 < spare → spare' ≡ spare)
    → IsRefused R U old (view_of lanes x' journal' taken fault' spare') event f
refused_is {T} {F} {K} {R} {U} old lanes x x' journal journal' taken fault fault' spare spare' most event f is r few next same noted needs left =
    subst (λ (v : BookView T F K). IsRefused R U v (view_of lanes x' journal' taken fault' spare') event f) is (record {
      next = next;
      journal = same;
      taken = refl;
      same = record { lanes = refl; sizes = r.same.sizes; rank = r.same.rank; sound = r.sound };
      core = record { sizes = r.same.sizes; rank = r.same.rank; counts = r.same.counts; marks = r.same.marks; pending = r.same.pending; fold = r.same.fold };
      stands = λ h st. parts_stand (core_of x') h (r.stands h (st (core_of x) refl));
      saved = r.saved;
      leaves = r.leaves;
      untouched = r.untouched;
      noted = noted;
      cause = r.cause;
      faults = r.faults;
      surely = r.surely;
      untold = r.untold most few;
      got = r.got;
      read = r.read;
      needs = needs;
      spare = left;
    })
