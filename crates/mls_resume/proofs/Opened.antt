-- A core that was read spells its bytes, and it stands for each of its histories with a save behind it.
use Rattle.std.proofs.Common.{◌≡◌, ℕ, ◌^◌, ◌≤◌, List, [], ◌∷◌, ◌++◌, refl, ap, sym, ◌∙◌, subst}
use Rattle.std.proofs.lemmas.List.{append-nil}
use Rattle.mls_model.specs.declared.outcomes.Outcome.TheVariants.{Save}
use Rattle.mls_model.specs.Studies.{Sizes, planes}
use Rattle.mls_model.specs.Histories.{LaneEvent}
use Rattle.mls_model.specs.Survival.{surviving}
use Rattle.mls_model.specs.Fitting.{fitting}
use Rattle.mls_model.specs.Outcomes.{outcome, total_count}
use Rattle.mls_ckpt.specs.Reading.{AllFrom}
use Rattle.mls_ckpt.specs.States.{IsMarksRow, after_one}
use Rattle.mls_ckpt.specs.States as states
use Rattle.mls_ckpt.specs.Laws.{IsReadPart, Spells}
use Rattle.mls_field.specs.declared.fold.RowFold.{Ghosts}
use Rattle.mls_ledger.specs.MarkSets.{MarkSet}
use Rattle.mls_ledger.specs.MarkRows.{rows_of, IsOf}
use Rattle.mls_ledger.proofs.Rows.{marks_tie, counts_tie}
use Rattle.mls_assembly.specs.Held.{ArePending, AreRising}
use Rattle.mls_rank.specs.declared.rank_core.RankCore.{RankCore}
use Rattle.mls_rank.specs.Cores.{sizes_of, rank_of, counts_of, marks_of, pending_of, AreMarks}
use Rattle.mls_rank.specs.Saving.{state_of, SpellsCore}
use Rattle.mls_rank.specs.Standing.{StandsFor, Holds, Waits}
use Rattle.mls_rank.proofs.Stepping.{outcome_is, counts_step, pieces_step}
use Rattle.mls_base.specs.declared.outside.Keeper as keeper
use Rattle.mls_book.specs.declared.saved_rank.SavedRank.{SavedRank}
use Rattle.mls_book.specs.SavedRanks.{core_of, held_of, saved_of, opening_of, total_of, CountsFew}
use Rattle.mls_book.proofs.Fewer.{few_more}
use Rattle.mls_book.proofs.Telling.{same_may}
use Rattle.mls_resume.specs.Opening.{saved_event}

-- valid marks of a study are those of each study that has the set's numbers
rows_are : (s : Sizes) (m : MarkSet) → IsOf s m → states.AreMarks s (rows_of m) → (z : Sizes) → IsOf z m → states.AreMarks z (rows_of m)
rows_are s m of are z also = record {
  size = are.size ∙ sym of.planes ∙ also.planes;
  rows = subst (λ groups. AllFrom (λ i row. IsMarksRow groups row) after_one 0 (rows_of m)) (sym of.groups ∙ also.groups) are.rows;
}

pub core_spelled : {F : Type 0} {T : Ghosts F} (s : Sizes) (rank : ℕ) (bytes : List ℕ) (core : RankCore F T) → sizes_of core ≡ s → rank_of core ≡ rank → AreMarks core → ArePending (pending_of core) → AreRising (pending_of core)
    → total_count (counts_of core) ≤ 2 ^ 62 → Spells (IsReadPart T.part_at) s rank bytes (state_of core) → SpellsCore s rank bytes core
core_spelled s rank bytes core sizes ranks are pending rising few spells =
    let m = marks_of core in
    let of : IsOf s m = record { groups = are.groups ∙ ap (λ (z : Sizes). z.groups) sizes; planes = are.planes ∙ ap planes sizes } in
    record {
      of_sizes = sizes;
      of_rank = ranks;
      few = few;
      kept = record {
        marks = record { valid = rows_are s m of spells.valid.marks; marks = marks_tie m are.size are.padded; counts = counts_tie m are.size are.padded };
        pending = pending;
        rising = rising;
      };
      version = spells.version;
      is_read = spells.is_read;
      spelled = spells.spelled;
    }

-- a save changes nothing
pub save_stands : {F : Type 0} {T : Ghosts F} (core : RankCore F T) (history : List LaneEvent) → StandsFor core history → StandsFor core (history ++ saved_event ∷ [])
save_stands core history st =
    let s = sizes_of core in
    let rank = rank_of core in
    let was : Save ≡ outcome s rank (surviving history) saved_event = outcome_is s rank (surviving history) saved_event.kind saved_event.frame in
    let same : fitting s rank (surviving history) ≡ fitting s rank (surviving (history ++ saved_event ∷ [])) = sym (append-nil (fitting s rank (surviving history))) ∙ pieces_step s rank history saved_event refl in
    record {
      counts = counts_step s rank history saved_event (counts_of core) (counts_of core) Save refl st.counts was refl;
      holds = subst (Holds core) same st.holds;
      waits = subst (Waits core) same st.waits;
    }

-- at equal numbers
pub spelled_at : {F : Type 0} {T : Ghosts F} (s z : Sizes) (rank r : ℕ) (bytes : List ℕ) (core : RankCore F T) → z ≡ s → r ≡ rank → SpellsCore s rank bytes core → SpellsCore z r bytes core
spelled_at s z rank r bytes core sizes ranks spells = subst (λ (k : ℕ). SpellsCore z k bytes core) (sym ranks) (subst (λ (x : Sizes). SpellsCore x rank bytes core) (sym sizes) spells)

-- what counted few events counted no more than more
pub few_up : {F K : Type 0} {R : Ghosts F} {U : keeper.Ghosts K} (x : SavedRank F K R U) (n most : ℕ) → n ≤ most → CountsFew x n → total_of x ≤ most → CountsFew x most
few_up {F} {K} {R} {U} x n most le few total =
    few_more (core_of x) (core_of x) (held_of x) (held_of x) (saved_of x) (opening_of x) n most refl refl (same_may (held_of x) (held_of x) refl) le (λ _. total) few
