-- A valid state is read from its spellings, and what is read as a state spells it.
use Rattle.std.proofs.Common.{◌≡◌, ℕ, ◌-◌, ◌<◌, ◌≤◌, true, List, [], ◌++◌, length, take, slice_index, Ok, refl, sym, ap, subst, ◌∙◌, arith, length-append}
use Rattle.std.proofs.Math.Seq.{take-append_seam}
use Rattle.mls_model.specs.Studies.{Sizes, AreSizes}
use Rattle.mls_model.specs.CellSums.{CellSums}
use Rattle.mls_ckpt.specs.Reading.{Cursor, Read, end_at, AreBytes}
use Rattle.mls_ckpt.specs.States.{State, marks_of_planes, IsState}
use Rattle.mls_ckpt.specs.Spellings.{is_read, head_text, counts_text, marks_text, pending_text, spelled_state}
use Rattle.mls_ckpt.specs.Checkpoints.{head_at, counts_at, marks_at, pending_at, checkpoint_of}
use Rattle.mls_ckpt.specs.CellParts.{part_at, cells_text, AreCells, IsSumsPart}
use Rattle.mls_ckpt.specs.Laws.{IsReadPart, IsPartIn, AreFew, ReadsParts, Spells}
use Rattle.mls_ckpt.proofs.Numbers.{same_ok, bytes_after}
use Rattle.mls_ckpt.proofs.Steps.{both}
use Rattle.mls_ckpt.proofs.CellLaws.{sums_read_again, sums_are_spelled, cells_same}
use Rattle.mls_ckpt.proofs.StateLaws.{head_again, head_taken, counts_again, counts_taken, marks_again, marks_taken, marks_few, pending_again, pending_taken, end_taken}

-- what stands before the rest
front_of : (part rest : List ℕ) → take (length (part ++ rest) - length rest) (part ++ rest) ≡ part
front_of part rest =
    let size : length (part ++ rest) - length rest ≡ length part = omega (arith, length-append part rest) in
    rw size (take-append_seam part rest)

pub states_read_again : (read : Sizes → ℕ → List ℕ → Cursor → Read Cursor) (s : Sizes) (rank version : ℕ) (state : State) → AreSizes s → rank < s.ranks → is_read s version ≡ true → IsState (IsReadPart read) s rank state → checkpoint_of read s rank (spelled_state version s rank state) ≡ Ok state
unfolding checkpoint_of spelled_state end_at
states_read_again read s rank version state sizes within known valid =
    let below_part = pending_text state.pending [] in
    let below_marks = state.part ++ below_part in
    let below_counts = marks_text state.marks below_marks in
    let below_head = counts_text state.counts below_counts in
    let e1 = head_again s rank version sizes within known 0 below_head in
    let e2 = counts_again state.counts valid.counts e1.0 below_counts in
    let e3 = marks_again s state.marks valid.marks e2.0 below_marks in
    let e4 = valid.part e3.0 below_part in
    let e5 = pending_again s rank state.marks state.pending sizes valid.pending e4.0 [] in
    let front = front_of state.part below_part in
    rw (e1.1, e2.1, e3.1, e4.1, e5.1, front) refl

-- what is read as a part of a study by few marks is one
abbrev pub Reads : (Sizes → ℕ → List ℕ → List ℕ → Type 0) → (Sizes → ℕ → List ℕ → Cursor → Read Cursor) → Type 0
Reads IsPart read = (s : Sizes) (rank : ℕ) (marks : List ℕ) (old new : Cursor) → AreSizes s → AreFew s marks → AreBytes old.left → read s rank marks old ≡ Ok new → IsPartIn (IsPart s rank marks) old new

pub states_spelled : (IsPart : Sizes → ℕ → List ℕ → List ℕ → Type 0) (read : Sizes → ℕ → List ℕ → Cursor → Read Cursor) → Reads IsPart read → (s : Sizes) (rank : ℕ) (bytes : List ℕ) (state : State) → AreSizes s → AreBytes bytes → checkpoint_of read s rank bytes ≡ Ok state → Spells IsPart s rank bytes state
unfolding checkpoint_of spelled_state
states_spelled IsPart read reads s rank bytes state sizes are e =
    let h = both (head_at s rank (record { at = 0; left = bytes })) _ state e in
    let head = head_taken s rank (record { at = 0; left = bytes }) h.0 are h.1 in
    let n = both (counts_at h.0.1) _ state h.2 in
    let counts = counts_taken h.0.1 n.0 head.bytes n.1 in
    let m = both (marks_at s n.0.1) _ state n.2 in
    let marks = marks_taken s n.0.1 m.0 counts.bytes m.1 in
    let p = both (read s rank (marks_of_planes s m.0.0) m.0.1) _ state m.2 in
    let part = reads s rank (marks_of_planes s m.0.0) m.0.1 p.0 sizes (marks_few s m.0.0) marks.bytes p.1 in
    let k = both (pending_at s rank m.0.0 p.0) _ state p.2 in
    let pending = pending_taken s rank m.0.0 p.0 k.0 sizes (bytes_after part.bytes p.0.left (subst AreBytes part.stands marks.bytes)) k.1 in
    let d = both (end_at k.0.1) _ state k.2 in
    let done = end_taken k.0.1 d.0 d.1 in
    let front : take (length m.0.1.left - length p.0.left) m.0.1.left ≡ part.bytes =
    ap (λ l. take (length l - length p.0.left) l) part.stands ∙ front_of part.bytes p.0.left in
    let summed : State = record { counts = n.0.0; marks = m.0.0; part = part.bytes; pending = k.0.0 } in
    let is : summed ≡ state = ap (λ b. let q : State = record { counts = n.0.0; marks = m.0.0; part = b; pending = k.0.0 } in q) (sym front) ∙ same_ok _ state d.2 in
    subst (Spells IsPart s rank bytes) is
    (record {
      version = h.0.0;
      is_read = head.valid.known;
      spelled = head.stands ∙ ap (head_text h.0.0 s rank) (counts.stands ∙ ap (counts_text n.0.0) (marks.stands ∙ ap (marks_text m.0.0) (part.stands ∙ ap (λ r. part.bytes ++ r) (pending.stands ∙ ap (pending_text k.0.0) done))));
      valid = record { counts = counts.valid; marks = marks.valid; part = part.valid; pending = pending.valid };
    })

pub states_are_spelled : (read : Sizes → ℕ → List ℕ → Cursor → Read Cursor) → ReadsParts read → (s : Sizes) (rank : ℕ) (bytes : List ℕ) (state : State) → AreSizes s → AreBytes bytes → checkpoint_of read s rank bytes ≡ Ok state → Spells (IsReadPart read) s rank bytes state
states_are_spelled read reads s rank bytes state sizes are e = states_spelled (IsReadPart read) read reads s rank bytes state sizes are e

-- the part of the sums of cells

few_in : (s : Sizes) (marks : List ℕ) → AreSizes s → AreFew s marks → (i : ℕ) → slice_index marks i ≤ 65535
few_in s marks sizes few i =
    let groups : s.groups ≤ 65535 = sizes.groups in
    let here = few i in
    omega arith

pub sums_again : (s : Sizes) (rank : ℕ) (marks bytes : List ℕ) → AreSizes s → AreFew s marks → IsSumsPart s rank marks bytes → IsReadPart part_at s rank marks bytes
sums_again s rank marks bytes sizes few valid = sums_read_again s rank marks bytes (few_in s marks sizes few) valid

pub sums_same : (s : Sizes) (rank : ℕ) (marks : List ℕ) (xs ys : List (List CellSums)) → AreSizes s → AreFew s marks → AreCells s rank marks xs → AreCells s rank marks ys → cells_text xs [] ≡ cells_text ys [] → xs ≡ ys
sums_same s rank marks xs ys sizes few xs_valid ys_valid same = cells_same s rank marks xs ys (few_in s marks sizes few) xs_valid ys_valid same

pub sums_are_parts : ReadsParts part_at
sums_are_parts s rank marks old new sizes few bytes e =
    let part = sums_are_spelled s rank marks old new bytes e in
    record { bytes = part.bytes; stands = part.stands; valid = sums_again s rank marks part.bytes sizes few part.valid }

pub saved_states_read_again : (s : Sizes) (rank version : ℕ) (state : State) → AreSizes s → rank < s.ranks → is_read s version ≡ true → IsState IsSumsPart s rank state → checkpoint_of part_at s rank (spelled_state version s rank state) ≡ Ok state
saved_states_read_again s rank version state sizes within known valid =
    states_read_again part_at s rank version state sizes within known
    (record { counts = valid.counts; marks = valid.marks; part = sums_again s rank (marks_of_planes s state.marks) state.part sizes (marks_few s state.marks) valid.part; pending = valid.pending })

pub saved_states_are_spelled : (s : Sizes) (rank : ℕ) (bytes : List ℕ) (state : State) → AreSizes s → AreBytes bytes → checkpoint_of part_at s rank bytes ≡ Ok state → Spells IsSumsPart s rank bytes state
saved_states_are_spelled s rank bytes state sizes are e =
    states_spelled IsSumsPart part_at (λ s rank marks old new sizes few bytes e. sums_are_spelled s rank marks old new bytes e) s rank bytes state sizes are e
