-- The state of a core is valid, it is that of each history which the core stands for, and two cores with one state stand for the same.
use Rattle.std.proofs.Common.{◌≡◌, ℕ, ◌^◌, ◌<◌, ◌≤◌, List, map, Result, Ok, Err, refl, ap, sym, ◌∙◌, subst}
use Rattle.std.specs.Prelude.{IfOk, IfErr, count_by}
use Rattle.mls_model.specs.declared.outcomes.Counts.{Counts}
use Rattle.mls_model.specs.Numbers.{below}
use Rattle.mls_model.specs.Studies.{Sizes, AreSizes, planes}
use Rattle.mls_model.specs.Histories.{LaneEvent}
use Rattle.mls_model.specs.Survival.{surviving}
use Rattle.mls_model.specs.Fitting.{fitting}
use Rattle.mls_model.specs.Completion.{is_completed}
use Rattle.mls_model.specs.Outcomes.{counts, total_count}
use Rattle.mls_model.specs.Standing.{Table, rank_table}
use Rattle.mls_ckpt.specs.declared.faults.RecoverFault.{RecoverFault}
use Rattle.mls_ckpt.specs.declared.faults.RecoverFault.TheVariants as recovers
use Rattle.mls_ckpt.specs.Reading.{Read, Refusal, Refuses, AreBytes}
use Rattle.mls_ckpt.specs.States.{State, PendingKey, marks_of_planes, IsState}
use Rattle.mls_ckpt.specs.States as states
use Rattle.mls_ckpt.specs.Spellings.{spelled_state}
use Rattle.mls_ckpt.specs.Checkpoints.{checkpoint_of}
use Rattle.mls_ckpt.specs.Histories.{marks_of, pending_of as pending_after, pending_life, pending_samples, state_after, checkpoint}
use Rattle.mls_ckpt.specs.Laws.{IsReadPart, ReadsParts}
use Rattle.mls_ckpt.proofs.MarkLaws.{marks_same}
use Rattle.mls_ckpt.proofs.Numbers.{same_ok}
use Rattle.mls_ckpt.proofs.WholeStates.{states_read_again, states_are_spelled}
use Rattle.mls_field.specs.declared.fold.RowFold.{Ghosts}
use Rattle.mls_field.specs.PlaneCounts.{by_plane}
use Rattle.mls_ledger.specs.MarkSets.{MarkSet, is_marked, marked}
use Rattle.mls_ledger.specs.MarkRows.{rows_of, AreRows}
use Rattle.mls_ledger.proofs.Bits.{count_same}
use Rattle.mls_assembly.specs.Pendings.{Pends}
use Rattle.mls_assembly.specs.Held.{Held, life_of, share_at, ArePending}
use Rattle.mls_assembly.specs.Saved.{keys_saved}
use Rattle.mls_assembly.proofs.SavedKeys.{valid_saved, saved_unmarked, same_saved}
use Rattle.mls_assembly.proofs.Listed.{pends_saved}
use Rattle.mls_rank.specs.declared.rank_core.RankCore.{RankCore}
use Rattle.mls_rank.specs.Cores.{sizes_of, rank_of, counts_of, marks_of as marks_in, has_mark, mark_count, fold_of, pending_of}
use Rattle.mls_rank.specs.Saving.{state_of, AreKept, SpellsCore, Resumes, RecoversSaved}
use Rattle.mls_rank.specs.Standing.{KeepsRows, StandsFor}
use Rattle.mls_rank.specs.Waiting.{AreWaiting}
use Rattle.mls_rank.proofs.Stepping.{counts_at}

-- the laws of the sums' part

abbrev ReadAgain : {F : Type 0} → Ghosts F → Type 0
ReadAgain {F} T = (f : F) → IsReadPart T.part_at (T.shape_of f) (T.rank_of f) (by_plane (T.shape_of f) (T.row_count f)) (T.part f)

abbrev Spelled : {F : Type 0} → Ghosts F → Type 0
Spelled {F} T = (f : F) (t : Table) → T.stands f t → T.part f ≡ T.part_of (T.shape_of f) (T.rank_of f) t

abbrev Agree : {F : Type 0} → Ghosts F → Type 0
Agree {F} T = (f g : F) (t : Table) → T.shape_of f ≡ T.shape_of g → T.rank_of f ≡ T.rank_of g → ((plane : ℕ) → plane < planes (T.shape_of f) → T.row_count f plane ≡ T.row_count g plane) → T.part f ≡ T.part g → T.stands f t → T.stands g t

-- what is pending waits, where it was read beside the marks
pub waiting_read : (marks : MarkSet) (held : Held) (s : Sizes) (rank : ℕ) → held.sizes ≡ s → held.rank ≡ rank → AreRows marks → ArePending held → states.ArePending s rank (rows_of marks) (keys_saved held) → AreWaiting marks held
waiting_read marks held s rank sizes ranks rows are valid key there =
    let own : states.ArePending held.sizes held.rank (rows_of marks) (keys_saved held) =
    subst (λ (z : Sizes). states.ArePending z held.rank (rows_of marks) (keys_saved held)) (sym sizes) (subst (λ (r : ℕ). states.ArePending s r (rows_of marks) (keys_saved held)) (sym ranks) valid) in
    let waits = saved_unmarked held (rows_of marks) are own key there in
    record { unmarked = sym (rows.marks key) ∙ waits.0; missing = waits.1 }

-- the state of a core is valid

same_counts : (f g : ℕ → ℕ) → ((plane : ℕ) → f plane ≡ g plane) → (n : ℕ) → map f (below n) ≡ map g (below n)
same_counts f g same n = let both : f ≡ g = λ i plane. same plane i in ap (λ (h : ℕ → ℕ). map h (below n)) both

numbers_in : {F : Type 0} {T : Ghosts F} (core : RankCore F T) (s : Sizes) → sizes_of core ≡ s → AreRows (marks_in core) → by_plane s (T.row_count (fold_of core)) ≡ marks_of_planes s (rows_of (marks_in core))
numbers_in {F} {T} core s sizes rows =
    same_counts (T.row_count (fold_of core)) (marked (marks_in core)) core.rows (planes s)
    ∙ ap (λ n. map (marked (marks_in core)) (below n)) (sym (core.planes ∙ ap planes sizes))
    ∙ sym rows.counts
    ∙ ap (λ g. map (states.marked g) (rows_of (marks_in core))) (core.groups ∙ ap (λ (z : Sizes). z.groups) sizes)

pub state_valid : {F : Type 0} {T : Ghosts F} (core : RankCore F T) (s : Sizes) (rank : ℕ) → AreSizes s → sizes_of core ≡ s → rank_of core ≡ rank → total_count (counts_of core) ≤ 2 ^ 62 → AreKept core → ReadAgain T → IsState (IsReadPart T.part_at) s rank (state_of core)
state_valid {F} {T} core s rank ranges sizes ranks few kept again = record {
  counts = few;
  marks = kept.marks.valid s (record { groups = core.groups ∙ ap (λ (z : Sizes). z.groups) sizes; planes = core.planes ∙ ap planes sizes });
  part =
      subst (λ (numbers : List ℕ). IsReadPart T.part_at s rank numbers (T.part (fold_of core))) (numbers_in core s sizes kept.marks)
      (subst (λ (r : ℕ). IsReadPart T.part_at s r (by_plane s (T.row_count (fold_of core))) (T.part (fold_of core))) (core.fold_rank ∙ ranks)
      (subst (λ (z : Sizes). IsReadPart T.part_at z (T.rank_of (fold_of core)) (by_plane z (T.row_count (fold_of core))) (T.part (fold_of core))) (core.fold_shape ∙ sizes) (again (fold_of core))));
  pending =
      subst (λ (r : ℕ). states.ArePending s r (rows_of (marks_in core)) (keys_saved (pending_of core))) (core.pending_rank ∙ ranks)
      (subst (λ (z : Sizes). states.ArePending z (pending_of core).rank (rows_of (marks_in core)) (keys_saved (pending_of core))) (core.pending_shape ∙ sizes)
      (valid_saved (pending_of core) (rows_of (marks_in core)) (subst AreSizes (sym (core.pending_shape ∙ sizes)) ranges) kept.pending kept.rising
      (λ key there. let waits = core.waiting key there in (kept.marks.marks key ∙ waits.unmarked, waits.missing))));
}

-- two cores with one state

marked_same : (m n : MarkSet) → m.groups ≡ n.groups → ((group plane : ℕ) → is_marked m group plane ≡ is_marked n group plane) → (plane : ℕ) → marked m plane ≡ marked n plane
unfolding marked
marked_same m n groups same plane =
    count_same (λ group. is_marked n group plane) (λ group. is_marked m group plane) (λ group. same group plane) (below m.groups)
    ∙ ap (λ k. count_by (λ group. is_marked n group plane) (below k)) groups

pub resumes : {F : Type 0} {T : Ghosts F} (saved core : RankCore F T) → sizes_of core ≡ sizes_of saved → rank_of core ≡ rank_of saved → AreKept saved → AreKept core → Agree T → state_of core ≡ state_of saved → Resumes saved core
resumes {F} {T} saved core sizes ranks saved_kept kept agree same = record {
  counts = ap (λ (x : State). x.counts) same;
  stands = λ history st.
      record {
        counts = counts_at (sizes_of saved) (sizes_of core) (rank_of saved) (rank_of core) (counts_of core) (surviving history) sizes ranks (ap (λ (x : State). x.counts) same ∙ st.counts);
        holds =
            subst (λ (r : ℕ). KeepsRows (sizes_of core) r (has_mark core) (mark_count core) (T.stands (fold_of core)) (fitting (sizes_of core) r (surviving history))) (sym ranks)
            (subst (λ (z : Sizes). KeepsRows z (rank_of saved) (has_mark core) (mark_count core) (T.stands (fold_of core)) (fitting z (rank_of saved) (surviving history))) (sym sizes)
            (record {
              marked = λ group plane. marks group plane ∙ st.holds.marked group plane;
              accepted = λ plane. numbers plane ∙ st.holds.accepted plane;
              rows = agree (fold_of saved) (fold_of core) _ (saved.fold_shape ∙ sym sizes ∙ sym core.fold_shape) (saved.fold_rank ∙ sym ranks ∙ sym core.fold_rank)
                  (λ plane within. saved.rows plane ∙ sym (numbers plane) ∙ sym (core.rows plane)) (sym (ap (λ (x : State). x.part) same)) st.holds.rows;
            }));
        waits =
            subst (λ (r : ℕ). Pends (sizes_of core) r (life_of (pending_of core)) (share_at (pending_of core)) (fitting (sizes_of core) r (surviving history))) (sym ranks)
            (subst (λ (z : Sizes). Pends z (rank_of saved) (life_of (pending_of core)) (share_at (pending_of core)) (fitting z (rank_of saved) (surviving history))) (sym sizes)
            (subst (λ (h : Held). Pends (sizes_of saved) (rank_of saved) (life_of h) (share_at h) (fitting (sizes_of saved) (rank_of saved) (surviving history))) (sym pending) st.waits));
      };
}
  where
    rows : rows_of (marks_in core) ≡ rows_of (marks_in saved)
    rows = ap (λ (x : State). x.marks) same

    marks : (group plane : ℕ) → has_mark core group plane ≡ has_mark saved group plane
    marks group plane =
        sym (kept.marks.marks (record { group = group; plane = plane }))
        ∙ ap (λ (l : List (List ℕ)). states.is_marked l (record { group = group; plane = plane })) rows
        ∙ saved_kept.marks.marks (record { group = group; plane = plane })

    numbers : (plane : ℕ) → mark_count core plane ≡ mark_count saved plane
    numbers plane = marked_same (marks_in core) (marks_in saved) (core.groups ∙ ap (λ (z : Sizes). z.groups) sizes ∙ sym saved.groups) marks plane

    pending : pending_of core ≡ pending_of saved
    pending = same_saved (pending_of core) (pending_of saved) (core.pending_shape ∙ sizes ∙ sym saved.pending_shape) (core.pending_rank ∙ ranks ∙ sym saved.pending_rank) kept.pending kept.rising saved_kept.pending saved_kept.rising
        (ap (λ (x : State). x.pending) same)

memory_alone : {A : Type 0} (fault : RecoverFault) (read : Read A) (a : A) → Refuses fault read → read ≡ Ok a → fault ≡ recovers.Memory
memory_alone (recovers.Bad at why) read a refuses is = absurd (clash (sym refuses ∙ is))
  where
    clash : {A : Type 0} {a : A} {refusal : Refusal} → ◌≡◌ {A = Read A} (Err refusal) (Ok a) → ⊥
    clash e = cc
memory_alone recovers.Memory read a refuses is = refl

saved_read : {F : Type 0} {T : Ghosts F} (s : Sizes) (rank : ℕ) (bytes : List ℕ) (saved : RankCore F T) → AreSizes s → rank < s.ranks → ReadAgain T → SpellsCore s rank bytes saved → checkpoint_of T.part_at s rank bytes ≡ Ok (state_of saved)
saved_read {F} {T} s rank bytes saved ranges within again spells =
    ap (checkpoint_of T.part_at s rank) spells.spelled
    ∙ states_read_again T.part_at s rank spells.version (state_of saved) ranges within spells.is_read (state_valid saved s rank ranges spells.of_sizes spells.of_rank spells.few spells.kept again)

pub recovers_saved : {F : Type 0} {T : Ghosts F} (s : Sizes) (rank : ℕ) (bytes : List ℕ) (answer : Result (RankCore F T) RecoverFault) → AreSizes s → rank < s.ranks → ReadAgain T → Agree T
    → IfOk answer (λ core. sizes_of core ≡ s) → IfOk answer (λ core. rank_of core ≡ rank) → IfOk answer (λ core. AreKept core) → IfOk answer (λ core. checkpoint_of T.part_at s rank bytes ≡ Ok (state_of core))
    → IfErr answer (λ fault. Refuses fault (checkpoint_of T.part_at s rank bytes)) → RecoversSaved s rank bytes answer
recovers_saved {F} {T} s rank bytes (Ok core) ranges within again agree sizes ranks kept read fault saved spells =
    resumes saved core (sizes ∙ sym spells.of_sizes) (ranks ∙ sym spells.of_rank) spells.kept kept agree (same_ok (state_of core) (state_of saved) (sym read ∙ saved_read s rank bytes saved ranges within again spells))
recovers_saved {F} {T} s rank bytes (Err fault) ranges within again agree sizes ranks kept read refuses saved spells =
    memory_alone fault (checkpoint_of T.part_at s rank bytes) (state_of saved) refuses (saved_read s rank bytes saved ranges within again spells)

pub few_counted : {F : Type 0} {T : Ghosts F} (s : Sizes) (rank : ℕ) (bytes : List ℕ) (answer : Result (RankCore F T) RecoverFault) → AreSizes s → AreBytes bytes → ReadsParts T.part_at → IfOk answer (λ core. checkpoint_of T.part_at s rank bytes ≡ Ok (state_of core)) → IfOk answer (λ core. total_count (counts_of core) ≤ 2 ^ 62)
few_counted {F} {T} s rank bytes (Ok core) ranges are reads read = (states_are_spelled T.part_at reads s rank bytes (state_of core) ranges are read).valid.counts
few_counted {F} {T} s rank bytes (Err fault) ranges are reads read = tt

-- the state of a core that stands for a history

state_is : {F : Type 0} {T : Ghosts F} (core : RankCore F T) (history : List LaneEvent) → AreKept core → Spelled T → StandsFor core history → state_of core ≡ state_after T.part_of (sizes_of core) (rank_of core) (surviving history)
unfolding state_after
state_is {F} {T} core history kept spelled st =
    let marks : rows_of (marks_in core) ≡ marks_of (sizes_of core) (λ key. is_completed (sizes_of core) (rank_of core) key (fitting (sizes_of core) (rank_of core) (surviving history))) =
    marks_same (sizes_of core) (rows_of (marks_in core)) (λ key. is_completed (sizes_of core) (rank_of core) key (fitting (sizes_of core) (rank_of core) (surviving history))) (kept.marks.valid (sizes_of core) (record { groups = core.groups; planes = core.planes }))
    (λ key group plane. kept.marks.marks key ∙ st.holds.marked key.group key.plane) in
    let part : T.part (fold_of core) ≡ T.part_of (sizes_of core) (rank_of core) (rank_table (sizes_of core) (rank_of core) (fitting (sizes_of core) (rank_of core) (surviving history))) =
    spelled (fold_of core) _ st.holds.rows
    ∙ ap (λ z. T.part_of z (T.rank_of (fold_of core)) (rank_table (sizes_of core) (rank_of core) (fitting (sizes_of core) (rank_of core) (surviving history)))) core.fold_shape
    ∙ ap (λ r. T.part_of (sizes_of core) r (rank_table (sizes_of core) (rank_of core) (fitting (sizes_of core) (rank_of core) (surviving history)))) core.fold_rank in
    let waits : Pends (pending_of core).sizes (pending_of core).rank (life_of (pending_of core)) (share_at (pending_of core)) (fitting (sizes_of core) (rank_of core) (surviving history)) =
    subst (λ (z : Sizes). Pends z (pending_of core).rank (life_of (pending_of core)) (share_at (pending_of core)) (fitting (sizes_of core) (rank_of core) (surviving history))) (sym core.pending_shape)
    (subst (λ (r : ℕ). Pends (sizes_of core) r (life_of (pending_of core)) (share_at (pending_of core)) (fitting (sizes_of core) (rank_of core) (surviving history))) (sym core.pending_rank) st.waits) in
    let pending : keys_saved (pending_of core) ≡ pending_after (sizes_of core) (pending_life (sizes_of core) (rank_of core) (fitting (sizes_of core) (rank_of core) (surviving history))) (pending_samples (sizes_of core) (rank_of core) (fitting (sizes_of core) (rank_of core) (surviving history))) =
    pends_saved (pending_of core) (fitting (sizes_of core) (rank_of core) (surviving history)) kept.pending kept.rising waits
    ∙ ap (λ z. pending_after z (pending_life z (pending_of core).rank (fitting (sizes_of core) (rank_of core) (surviving history))) (pending_samples z (pending_of core).rank (fitting (sizes_of core) (rank_of core) (surviving history)))) core.pending_shape
    ∙ ap (λ r. pending_after (sizes_of core) (pending_life (sizes_of core) r (fitting (sizes_of core) (rank_of core) (surviving history))) (pending_samples (sizes_of core) r (fitting (sizes_of core) (rank_of core) (surviving history)))) core.pending_rank in
    ap (λ (c : Counts). let x : State = record { counts = c; marks = rows_of (marks_in core); part = T.part (fold_of core); pending = keys_saved (pending_of core) } in x) st.counts
    ∙ ap (λ (l : List (List ℕ)). let x : State = record { counts = counts (sizes_of core) (rank_of core) (surviving history); marks = l; part = T.part (fold_of core); pending = keys_saved (pending_of core) } in x) marks
    ∙ ap (λ (l : List ℕ). let x : State = record { counts = counts (sizes_of core) (rank_of core) (surviving history); marks = marks_of (sizes_of core) (λ key. is_completed (sizes_of core) (rank_of core) key (fitting (sizes_of core) (rank_of core) (surviving history))); part = l; pending = keys_saved (pending_of core) } in x) part
    ∙ ap (λ (l : List PendingKey). let x : State = record { counts = counts (sizes_of core) (rank_of core) (surviving history); marks = marks_of (sizes_of core) (λ key. is_completed (sizes_of core) (rank_of core) key (fitting (sizes_of core) (rank_of core) (surviving history))); part = T.part_of (sizes_of core) (rank_of core) (rank_table (sizes_of core) (rank_of core) (fitting (sizes_of core) (rank_of core) (surviving history))); pending = l } in x) pending

pub checkpoint_is : {F : Type 0} {T : Ghosts F} (core : RankCore F T) (history : List LaneEvent) (bytes : List ℕ) → AreKept core → Spelled T → bytes ≡ spelled_state 3 (sizes_of core) (rank_of core) (state_of core) → StandsFor core history → bytes ≡ checkpoint T.part_of (sizes_of core) (rank_of core) history
unfolding checkpoint
checkpoint_is {F} {T} core history bytes kept spelled is st = is ∙ ap (spelled_state 3 (sizes_of core) (rank_of core)) (state_is core history kept spelled st)
