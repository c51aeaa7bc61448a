-- The parts of a checkpoint, read one after the other, are the state that it spells.
use Rattle.std.proofs.Common.{◌≡◌, ℕ, ◌-◌, ◌<◌, ◌≤◌, List, [], ◌∷◌, ◌++◌, length, map, take, Result, Ok, Err, ⊎_elim, refl, ap, sym, ◌∙◌, subst, arith, length-append}
use Rattle.std.specs.Prelude.{slice_index, count_by, IfErr, false}
use Rattle.std.specs.Result.{IsErrAnd}
use Rattle.std.proofs.Math.Seq.{take-append_seam}
use Rattle.std.proofs.lemmas.Bool.{cases_lt}
use Rattle.std.proofs.lemmas.List.{get_or_past}
use Rattle.mls_model.specs.declared.outcomes.Counts.{Counts}
use Rattle.mls_model.specs.Numbers.{below}
use Rattle.mls_model.specs.Studies.{Sizes, planes}
use Rattle.mls_ckpt.specs.declared.faults.RecoverFault.{RecoverFault}
use Rattle.mls_ckpt.specs.declared.faults.RecoverFault.TheVariants as recovers
use Rattle.mls_ckpt.specs.Reading.{Cursor, Read, Refuses, end_at}
use Rattle.mls_ckpt.specs.States.{State, PendingKey, marks_of_planes}
use Rattle.mls_ckpt.specs.States as states
use Rattle.mls_ckpt.specs.Checkpoints.{head_at, counts_at, marks_at, pending_at, checkpoint_of}
use Rattle.mls_ckpt.proofs.StateLaws.{marks_few}
use Rattle.mls_ledger.specs.MarkSets.{MarkSet, is_marked, marked, plane_counts}
use Rattle.mls_ledger.specs.MarkRows.{rows_of, AreRows}
use Rattle.mls_ledger.proofs.Bits.{count_same, made_at, length_made}
use Rattle.mls_ledger.proofs.AfterCalls.{none_past_planes}

-- a fault that is handed on
pub refused_on : {A B : Type 0} (answer : Result B RecoverFault) (fault : RecoverFault) (read : Read A) → IsErrAnd answer (λ other. other ≡ fault) → Refuses fault read → IfErr answer (λ other. Refuses other read)
refused_on (Ok b) fault read handed refuses = absurd handed
refused_on (Err other) fault read handed refuses = subst (λ f. Refuses f read) (sym handed) refuses

abbrev Part : Type 0
Part = Sizes → ℕ → List ℕ → Cursor → Read Cursor

-- the parts up to one were read, and that one is refused

pub head_refused : (read : Part) (s : Sizes) (rank : ℕ) (bytes : List ℕ) (c0 : Cursor) (fault : RecoverFault) → c0 ≡ record { at = 0; left = bytes } → Refuses fault (head_at s rank c0) → Refuses fault (checkpoint_of read s rank bytes)
unfolding checkpoint_of
head_refused read s rank bytes c0 (recovers.Bad at why) begins h =
    let first : head_at s rank (record { at = 0; left = bytes }) ≡ Err (record { at = at; why = why }) = ap (λ c. head_at s rank c) (sym begins) ∙ h in
    rw first refl
head_refused read s rank bytes c0 recovers.Memory begins h = tt

pub counts_refused : (read : Part) (s : Sizes) (rank : ℕ) (bytes : List ℕ) (c0 c1 : Cursor) (version : ℕ) (fault : RecoverFault) → c0 ≡ record { at = 0; left = bytes } → head_at s rank c0 ≡ Ok (version, c1) → Refuses fault (counts_at c1) → Refuses fault (checkpoint_of read s rank bytes)
unfolding checkpoint_of
counts_refused read s rank bytes c0 c1 version (recovers.Bad at why) begins e1 h =
    let first : head_at s rank (record { at = 0; left = bytes }) ≡ Ok (version, c1) = ap (λ c. head_at s rank c) (sym begins) ∙ e1 in
    rw (first, h) refl
counts_refused read s rank bytes c0 c1 version recovers.Memory begins e1 h = tt

pub marks_refused : (read : Part) (s : Sizes) (rank : ℕ) (bytes : List ℕ) (c0 c1 c2 : Cursor) (version : ℕ) (counts : Counts) (fault : RecoverFault) → c0 ≡ record { at = 0; left = bytes } → head_at s rank c0 ≡ Ok (version, c1) → counts_at c1 ≡ Ok (counts, c2)
    → Refuses fault (marks_at s c2) → Refuses fault (checkpoint_of read s rank bytes)
unfolding checkpoint_of
marks_refused read s rank bytes c0 c1 c2 version counts (recovers.Bad at why) begins e1 e2 h =
    let first : head_at s rank (record { at = 0; left = bytes }) ≡ Ok (version, c1) = ap (λ c. head_at s rank c) (sym begins) ∙ e1 in
    rw (first, e2, h) refl
marks_refused read s rank bytes c0 c1 c2 version counts recovers.Memory begins e1 e2 h = tt

pub part_refused : (read : Part) (s : Sizes) (rank : ℕ) (bytes : List ℕ) (c0 c1 c2 c3 : Cursor) (version : ℕ) (counts : Counts) (marks : List (List ℕ)) (numbers : List ℕ) (fault : RecoverFault) → c0 ≡ record { at = 0; left = bytes } → head_at s rank c0 ≡ Ok (version, c1) → counts_at c1 ≡ Ok (counts, c2)
    → marks_at s c2 ≡ Ok (marks, c3) → numbers ≡ marks_of_planes s marks → Refuses fault (read s rank numbers c3) → Refuses fault (checkpoint_of read s rank bytes)
unfolding checkpoint_of
part_refused read s rank bytes c0 c1 c2 c3 version counts marks numbers (recovers.Bad at why) begins e1 e2 e3 are h =
    let first : head_at s rank (record { at = 0; left = bytes }) ≡ Ok (version, c1) = ap (λ c. head_at s rank c) (sym begins) ∙ e1 in
    let fourth : read s rank (marks_of_planes s marks) c3 ≡ Err (record { at = at; why = why }) = ap (λ l. read s rank l c3) (sym are) ∙ h in
    rw (first, e2, e3, fourth) refl
part_refused read s rank bytes c0 c1 c2 c3 version counts marks numbers recovers.Memory begins e1 e2 e3 are h = tt

pub pending_refused : (read : Part) (s : Sizes) (rank : ℕ) (bytes : List ℕ) (c0 c1 c2 c3 c4 : Cursor) (version : ℕ) (counts : Counts) (marks : List (List ℕ)) (numbers : List ℕ) (fault : RecoverFault) → c0 ≡ record { at = 0; left = bytes } → head_at s rank c0 ≡ Ok (version, c1) → counts_at c1 ≡ Ok (counts, c2)
    → marks_at s c2 ≡ Ok (marks, c3) → numbers ≡ marks_of_planes s marks → read s rank numbers c3 ≡ Ok c4 → Refuses fault (pending_at s rank marks c4) → Refuses fault (checkpoint_of read s rank bytes)
unfolding checkpoint_of
pending_refused read s rank bytes c0 c1 c2 c3 c4 version counts marks numbers (recovers.Bad at why) begins e1 e2 e3 are e4 h =
    let first : head_at s rank (record { at = 0; left = bytes }) ≡ Ok (version, c1) = ap (λ c. head_at s rank c) (sym begins) ∙ e1 in
    let fourth : read s rank (marks_of_planes s marks) c3 ≡ Ok c4 = ap (λ l. read s rank l c3) (sym are) ∙ e4 in
    rw (first, e2, e3, fourth, h) refl
pending_refused read s rank bytes c0 c1 c2 c3 c4 version counts marks numbers recovers.Memory begins e1 e2 e3 are e4 h = tt

pub end_refused : (read : Part) (s : Sizes) (rank : ℕ) (bytes : List ℕ) (c0 c1 c2 c3 c4 c5 : Cursor) (version : ℕ) (counts : Counts) (marks : List (List ℕ)) (numbers : List ℕ) (pending : List PendingKey) (fault : RecoverFault) → c0 ≡ record { at = 0; left = bytes } → head_at s rank c0 ≡ Ok (version, c1) → counts_at c1 ≡ Ok (counts, c2)
    → marks_at s c2 ≡ Ok (marks, c3) → numbers ≡ marks_of_planes s marks → read s rank numbers c3 ≡ Ok c4 → pending_at s rank marks c4 ≡ Ok (pending, c5) → Refuses fault (end_at c5) → Refuses fault (checkpoint_of read s rank bytes)
unfolding checkpoint_of
end_refused read s rank bytes c0 c1 c2 c3 c4 c5 version counts marks numbers pending (recovers.Bad at why) begins e1 e2 e3 are e4 e5 h =
    let first : head_at s rank (record { at = 0; left = bytes }) ≡ Ok (version, c1) = ap (λ c. head_at s rank c) (sym begins) ∙ e1 in
    let fourth : read s rank (marks_of_planes s marks) c3 ≡ Ok c4 = ap (λ l. read s rank l c3) (sym are) ∙ e4 in
    rw (first, e2, e3, fourth, e5, h) refl
end_refused read s rank bytes c0 c1 c2 c3 c4 c5 version counts marks numbers pending recovers.Memory begins e1 e2 e3 are e4 e5 h = tt

-- what stands before the rest
front_of : (part rest : List ℕ) → take (length (part ++ rest) - length rest) (part ++ rest) ≡ part
front_of part rest =
    let size : length (part ++ rest) - length rest ≡ length part = omega (arith, length-append part rest) in
    rw size (take-append_seam part rest)

-- all were read
pub state_read : (read : Part) (s : Sizes) (rank : ℕ) (bytes part : List ℕ) (c0 c1 c2 c3 c4 c5 : Cursor) (version : ℕ) (counts : Counts) (marks : List (List ℕ)) (numbers : List ℕ) (pending : List PendingKey) → c0 ≡ record { at = 0; left = bytes } → head_at s rank c0 ≡ Ok (version, c1) → counts_at c1 ≡ Ok (counts, c2)
    → marks_at s c2 ≡ Ok (marks, c3) → numbers ≡ marks_of_planes s marks → read s rank numbers c3 ≡ Ok c4 → c3.left ≡ part ++ c4.left → pending_at s rank marks c4 ≡ Ok (pending, c5) → end_at c5 ≡ Ok tt
    → checkpoint_of read s rank bytes ≡ Ok (record { counts = counts; marks = marks; part = part; pending = pending })
unfolding checkpoint_of
state_read read s rank bytes part c0 c1 c2 c3 c4 c5 version counts marks numbers pending begins e1 e2 e3 are e4 stands e5 e6 =
    let first : head_at s rank (record { at = 0; left = bytes }) ≡ Ok (version, c1) = ap (λ c. head_at s rank c) (sym begins) ∙ e1 in
    let fourth : read s rank (marks_of_planes s marks) c3 ≡ Ok c4 = ap (λ l. read s rank l c3) (sym are) ∙ e4 in
    let front : take (length c3.left - length c4.left) c3.left ≡ part = ap (λ l. take (length l - length c4.left) l) stands ∙ front_of part c4.left in
    rw (first, e2, e3, fourth, e5, e6, front) refl

-- the numbers of marks of each plane

pub numbers_are : (s : Sizes) (m : MarkSet) (numbers : List ℕ) → AreRows m → m.groups ≡ s.groups → numbers ≡ plane_counts m → numbers ≡ marks_of_planes s (rows_of m)
numbers_are s m numbers rows groups are = are ∙ sym rows.counts ∙ ap (λ g. map (states.marked g) (rows_of m)) groups

pub numbers_size : (s : Sizes) (m : MarkSet) (numbers : List ℕ) → m.planes ≡ planes s → numbers ≡ plane_counts m → length numbers ≡ planes s
numbers_size s m numbers is are = ap length are ∙ length_made (marked m) m.planes ∙ is

pub numbers_few : (s : Sizes) (m : MarkSet) (numbers : List ℕ) → AreRows m → m.groups ≡ s.groups → numbers ≡ plane_counts m → (plane : ℕ) → slice_index numbers plane ≤ s.groups
numbers_few s m numbers rows groups are plane = subst (λ l. slice_index l plane ≤ s.groups) (sym (numbers_are s m numbers rows groups are)) (marks_few s (rows_of m) plane)

none_counted : (xs : List ℕ) → count_by (λ _. false) xs ≡ 0
none_counted [] = refl
none_counted (x ∷ xs) = omega (arith, none_counted xs)

none_marked : (m : MarkSet) (plane : ℕ) → m.planes ≤ plane → marked m plane ≡ 0
unfolding marked
none_marked m plane past = count_same (λ _. false) (λ group. is_marked m group plane) (λ group. sym (none_past_planes m m group plane refl past)) (below m.groups) ∙ none_counted (below m.groups)

number_of : (m : MarkSet) (plane : ℕ) → slice_index (plane_counts m) plane ≡ marked m plane
number_of m plane = ⊎_elim
    (λ (within : plane < m.planes). made_at (marked m) m.planes plane within)
    (λ (past : m.planes ≤ plane). get_or_past (plane_counts m) plane 0 (let size = length_made (marked m) m.planes in omega arith) ∙ sym (none_marked m plane past))
    (cases_lt plane m.planes)

pub rows_counted : (m : MarkSet) (numbers : List ℕ) (rows : ℕ → ℕ) → numbers ≡ plane_counts m → ((plane : ℕ) → rows plane ≡ slice_index numbers plane) → (plane : ℕ) → rows plane ≡ marked m plane
rows_counted m numbers rows are each plane = each plane ∙ ap (λ l. slice_index l plane) are ∙ number_of m plane
