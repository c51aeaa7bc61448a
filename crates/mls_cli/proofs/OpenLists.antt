-- What the ranks of a resume go on from, against what is right of it.
use Rattle.std.proofs.Common.{◌≡◌, ℕ, zero, suc, ◌+◌, ◌-◌, ◌*◌, ◌^◌, ◌<◌, ◌≤◌, ◌==◌, Bool, true, false, not, ◌&&◌, cond, List, [], ◌∷◌, ◌++◌, length, map, take, drop, get_or, sum, Option, Some, None, Result, Ok, Err, refl, sym, ap, subst, ◌∙◌, ◌⊎◌, ⊎_elim, inl, inr, arith, length-append}
use Rattle.std.specs.Prelude.{nat_le, nat_lt, IsOkAnd}
use Rattle.std.specs.List.{fold}
use Rattle.std.proofs.lemmas.Bool.{cases_lt}
use Rattle.std.proofs.lemmas.Bool.Decides.{nat_tests}
use Rattle.std.specs.Int.{Width, byte_len, w16, w32}
use Rattle.std.specs.Option.{option_and_then, option_map, is_some}
use Rattle.std.specs.Global.{Vec}
use Rattle.std.proofs.lemmas.List.{get_or-append-add, get_or_append_left}
use Rattle.mls_base.specs.Told.{Names}
use Rattle.mls_base.specs.Shapes.{with_ranks}
use Rattle.mls_export.specs.Files.{FileState}
use Rattle.mls_model.specs.Numbers.{below}
use Rattle.mls_model.specs.Studies.{Sizes, AreSizes, planes}
use Rattle.mls_model.specs.Outcomes.{total_count}
use Rattle.mls_model.specs.declared.outcomes.Counts.{Counts}
use Rattle.mls_ckpt.specs.Reading.{Cursor, Read, behind, front, number_at, refused}
use Rattle.mls_ckpt.specs.Laws.{NumbersReadAgain}
use Rattle.mls_ckpt.specs.declared.faults.CkptWhy.{CkptWhy}
use Rattle.mls_ckpt.specs.declared.faults.CkptWhy.TheVariants as why
use Rattle.mls_ckpt.specs.declared.faults.RecoverFault.TheVariants.{Bad}
use Rattle.mls_ckpt.specs.CellParts.{part_at}
use Rattle.mls_ckpt.specs.States.{State}
use Rattle.mls_ckpt.specs.Spellings.{counts_list, head_text, magic}
use Rattle.mls_ckpt.specs.Checkpoints.{checkpoint_of}
use Rattle.mls_resume.specs.Reads.{lists_of}
use Rattle.mls_resume.specs.Opening.{AreOpenings, IsOpening, PassesAt, PassesWith, RefusesOpening}
use Rattle.mls_resume.specs.Recut.{has_old, recut_bytes, DifferAt, DifferInPlane, FirstDiffers, HasCommon, Recuts, SamePlane}
use Rattle.mls_resume.proofs.Checked.{magic_read, version_few, version_read}
use Rattle.mls_result.specs.declared.status.Status.{Status}
use Rattle.mls_result.specs.declared.status.Status.TheVariants as status
use Rattle.mls_cli.specs.declared.refusal.Refusal.{Refusal}
use Rattle.mls_cli.specs.declared.refusal.Refusal.TheVariants as refusal
use Rattle.mls_cli.specs.Inputs.{◌>>=◌}
use Rattle.mls_cli.specs.Refusals.{IsRefused, Loads}
use Rattle.mls_cli.proofs.InputSteps.{loads_as, loads_refused, loads_then, refused_first}
use Rattle.mls_cli.specs.Resume.{are_two, can_have, content_opening, counts_limit, differing_group, differing_plane, differing_rank, first_below, first_or, opening_answer, passing_at, passing_count, recut_or, refused_at, refused_in_plane, refused_in_rank, refused_marks, right_file, right_files, right_lists, right_old, version_in}

-- tests of numbers
lt_false : (m n : ℕ) → n ≤ m → nat_lt m n ≡ false
lt_false m n h = grind (arith, nat_tests)

lt_is : (m n : ℕ) → m < n → nat_lt m n ≡ true
lt_is m n h = grind (arith, nat_tests)

le_is : (m n : ℕ) → m ≤ n → nat_le m n ≡ true
le_is m n h = grind (arith, nat_tests)

le_true : (m n : ℕ) → nat_le m n ≡ true → m ≤ n
le_true m n h = grind (arith, nat_tests)

both : (a b : Bool) → a ≡ true → b ≡ true → (a && b) ≡ true
both a b first second = cc

parts : (a b : Bool) → (a && b) ≡ true → (a ≡ true) × (b ≡ true)
parts true true e = (refl, refl)
parts true false e = (refl, e)
parts false b e = absurd (cc)

true_or_false : (b : Bool) → (b ≡ true → ⊥) → b ≡ false
true_or_false true never = absurd (never refl)
true_or_false false never = refl

-- the study with the old number of ranks
has_ranks : (s : Sizes) (ranks : ℕ) → AreSizes (with_ranks s ranks) → can_have s ranks ≡ true
has_ranks s ranks are = both (nat_le 1 ranks && nat_le ranks 64 && nat_le ranks s.cells) (nat_le (s.groups * s.steps * s.fields * ranks) 1073741824)
    (both (nat_le 1 ranks && nat_le ranks 64) (nat_le ranks s.cells) (both (nat_le 1 ranks) (nat_le ranks 64) (le_is 1 ranks are.some_ranks) (le_is ranks 64 are.ranks)) (le_is ranks s.cells are.ranks_have_cells))
    (le_is (s.groups * s.steps * s.fields * ranks) 1073741824 are.marks)

are_sizes : (s : Sizes) (ranks : ℕ) → AreSizes s → can_have s ranks ≡ true → AreSizes (with_ranks s ranks)
are_sizes s ranks are can =
    let marks = parts (nat_le 1 ranks && nat_le ranks 64 && nat_le ranks s.cells) (nat_le (s.groups * s.steps * s.fields * ranks) 1073741824) can in
    let cells = parts (nat_le 1 ranks && nat_le ranks 64) (nat_le ranks s.cells) marks.0 in
    let some = parts (nat_le 1 ranks) (nat_le ranks 64) cells.0 in
    record {
      some_cells = are.some_cells;
      cells = are.cells;
      some_steps = are.some_steps;
      steps = are.steps;
      some_groups = are.some_groups;
      groups = are.groups;
      some_parameters = are.some_parameters;
      parameters = are.parameters;
      some_ranks = le_true 1 ranks some.0;
      ranks = le_true ranks 64 some.1;
      ranks_have_cells = le_true ranks s.cells cells.1;
      some_clients = are.some_clients;
      clients = are.clients;
      clients_have_cells = are.clients_have_cells;
      some_slots = are.some_slots;
      slots = are.slots;
      some_silence = are.some_silence;
      silence = are.silence;
      some_lives = are.some_lives;
      lives = are.lives;
      thresholds = are.thresholds;
      thresholds_rise = are.thresholds_rise;
      thresholds_fit = are.thresholds_fit;
      some_fields = are.some_fields;
      fields = are.fields;
      mesh = are.mesh;
      marks = le_true (s.groups * s.steps * s.fields * ranks) 1073741824 marks.1;
    }

pub old_right : (s old : Sizes) (ranks : ℕ) → AreSizes (with_ranks s ranks) → old ≡ with_ranks s ranks → right_old s ranks ≡ Ok old
old_right s old ranks are is =
    ap (λ (b : Bool). cond b (Ok (with_ranks s ranks)) (Err (status.OldRanks ranks))) (has_ranks s ranks are) ∙ ap (λ (o : Sizes). Ok o) (sym is)

pub old_refused : (s : Sizes) (ranks : ℕ) → AreSizes s → (AreSizes (with_ranks s ranks) → ⊥) → right_old s ranks ≡ Err (status.OldRanks ranks)
old_refused s ranks are never =
    ap (λ (b : Bool). cond b (Ok (with_ranks s ranks)) (Err (status.OldRanks ranks))) (true_or_false (can_have s ranks) (λ can. never (are_sizes s ranks are can)))

-- bytes that a rank can go on from
answer_right : (s : Sizes) (rank : ℕ) (bytes : List ℕ) (read : Read State) → IsOkAnd read (λ (state : State). total_count state.counts ≤ 2 ^ 61) → opening_answer s rank bytes read ≡ Ok bytes
answer_right s rank bytes (Ok state) few = ap (λ (b : Bool). cond b (Err (status.CheckpointBad rank (passing_at s rank bytes state) why.Range)) (Ok bytes)) (lt_false counts_limit (total_count state.counts) few)
answer_right s rank bytes (Err refusal) few = absurd few

pub opening_right : (s : Sizes) (rank : ℕ) (bytes : List ℕ) → IsOpening part_at s rank (2 ^ 61) bytes → content_opening s rank bytes ≡ Ok bytes
opening_right s rank bytes is = answer_right s rank bytes (checkpoint_of part_at s rank bytes) is

-- sums of the first of some numbers
sum_of_zero : (ns : List ℕ) → sum (take zero ns) ≡ 0
sum_of_zero [] = refl
sum_of_zero (n ∷ ns) = refl

sum_of_none : (count : ℕ) → sum (take count []) ≡ 0
sum_of_none zero = refl
sum_of_none (suc count) = refl

fold_from : (ns : List ℕ) (a : ℕ) → fold (λ (x y : ℕ). x + y) a ns ≡ a + sum ns
fold_from [] a = let none : sum [] ≡ 0 = refl in omega (arith, none)
fold_from (n ∷ ns) a =
    let first = fold_from ns (a + n) in
    let second : sum (n ∷ ns) ≡ 0 + n + sum ns = fold_from ns (0 + n) in
    omega (arith, first, second)

sum_of_both : (n : ℕ) (ns : List ℕ) → sum (n ∷ ns) ≡ n + sum ns
sum_of_both n ns = let all : sum (n ∷ ns) ≡ 0 + n + sum ns = fold_from ns (0 + n) in omega (arith, all)

sum_of_more : (count n : ℕ) (ns : List ℕ) → sum (take (suc count) (n ∷ ns)) ≡ n + sum (take count ns)
sum_of_more count n ns = sum_of_both n (take count ns)

sum_of_front : (count : ℕ) (ns : List ℕ) → sum (take count ns) ≤ sum ns
sum_of_front count [] = let none = sum_of_none count in omega (arith, none)
sum_of_front zero (n ∷ ns) = let none = sum_of_zero (n ∷ ns) in omega (arith, none)
sum_of_front (suc count) (n ∷ ns) =
    let rest = sum_of_front count ns in
    let cut = sum_of_more count n ns in
    let whole = sum_of_both n ns in
    omega (arith, rest, cut, whole)

-- the count with which their sum passes the limit
passes_at : (before : ℕ) (ns : List ℕ) (count : ℕ) → count < length ns → before + sum (take count ns) ≤ counts_limit → counts_limit < before + sum (take (suc count) ns) → passing_count before ns ≡ count
passes_at before [] count here few passes = absurd (let none : length {A = ℕ} [] ≡ 0 = refl in let never : ⊥ = omega (arith, here, none) in never)
passes_at before (n ∷ ns) zero here few passes =
    let one = sum_of_more 0 n ns in
    let none = sum_of_zero ns in
    ap (λ (b : Bool). cond b 0 (suc (passing_count (before + n) ns))) (lt_is counts_limit (before + n) (omega (arith, passes, one, none)))
passes_at before (n ∷ ns) (suc count) here few passes =
    let first = sum_of_more count n ns in
    let second = sum_of_more (suc count) n ns in
    let long : length (n ∷ ns) ≡ suc (length ns) = refl in
    ap (λ (b : Bool). cond b 0 (suc (passing_count (before + n) ns))) (lt_false counts_limit (before + n) (omega (arith, few, first)))
    ∙ ap suc (passes_at (before + n) ns count (omega (arith, here, long)) (omega (arith, few, first)) (omega (arith, passes, second)))

total_is : (c : Counts) → total_count c ≡ sum (counts_list c)
total_is c = let all : sum (counts_list c) ≡ 0 + c.accepted + c.kept + c.replay + c.stale + c.repeated + c.f1 + c.f2 + c.f3 + c.f4 + c.f5 + c.f6 = refl in omega (arith, all)

same_read : (m n : ℕ) (c d : Cursor) → ◌≡◌ {A = Read (ℕ × Cursor)} (Ok (m, c)) (Ok (n, d)) → (m ≡ n) × (c.left ≡ d.left)
same_read m n c d e = let pair : ◌≡◌ {A = ℕ × Cursor} (m, c) (n, d) = cc in (ap (λ (p : ℕ × Cursor). p.0) pair, ap (λ (p : ℕ × Cursor). p.1.left) pair)

-- a number that was read is the front of what was left
number_cases : (short more : Bool) (at m n : ℕ) (d rest : Cursor) → ◌≡◌ {A = Read (ℕ × Cursor)} (cond short (refused at why.Short) (cond more (refused at why.Range) (Ok (m, rest)))) (Ok (n, d)) → (m ≡ n) × (rest.left ≡ d.left)
number_cases true more at m n d rest e = let never : ◌≡◌ {A = Read (ℕ × Cursor)} (refused at why.Short) (Ok (n, d)) = e in absurd cc
number_cases false true at m n d rest e = let never : ◌≡◌ {A = Read (ℕ × Cursor)} (refused at why.Range) (Ok (n, d)) = e in absurd cc
number_cases false false at m n d rest e = same_read m n rest d e

number_is : (w : Width) (most n : ℕ) (c d : Cursor) → number_at w most c ≡ Ok (n, d) → (front w c.left ≡ n) × (drop (byte_len w) c.left ≡ d.left)
unfolding number_at
number_is w most n c d e = number_cases (nat_lt (length c.left) (byte_len w)) (nat_lt most (front w c.left)) c.at (front w c.left) n d (behind w c) e

version_is : (s : Sizes) (rank : ℕ) (bytes : List ℕ) (at : ℕ) → NumbersReadAgain → (p : PassesAt part_at s rank bytes at) → version_in bytes ≡ p.version
version_is s rank bytes at again p =
    let start : Cursor = record { at = 0; left = bytes } in
    let first = number_is w32 4294967295 magic start _ (magic_read s rank p.version p.state bytes start again p.spelled refl) in
    let second = number_is w16 65535 p.version _ _ (version_read s rank p.version p.state again (version_few s p.version p.is_read)) in
    ap (front w16) first.1 ∙ second.0

passing_is : (s : Sizes) (rank : ℕ) (bytes : List ℕ) (at : ℕ) → NumbersReadAgain → (p : PassesAt part_at s rank bytes at) → passing_at s rank bytes p.state ≡ at
passing_is s rank bytes at again p =
    let passes = p.passes in
    let few = passes.few in
    let over = passes.passes in
    let count : passing_count 0 (counts_list p.state.counts) ≡ p.count = passes_at 0 (counts_list p.state.counts) p.count passes.here (omega (arith, few)) (subst (λ (k : ℕ). counts_limit < 0 + sum (take k (counts_list p.state.counts))) (let one : p.count + 1 ≡ suc p.count = omega arith in one) (omega (arith, over))) in
    ap (λ (v : ℕ). length (head_text v s rank []) + 8 * passing_count 0 (counts_list p.state.counts)) (version_is s rank bytes at again p)
    ∙ ap (λ (k : ℕ). length (head_text p.version s rank []) + 8 * k) count ∙ sym p.stands

passes_limit : (s : Sizes) (rank : ℕ) (bytes : List ℕ) (at : ℕ) → (p : PassesAt part_at s rank bytes at) → nat_lt counts_limit (total_count p.state.counts) ≡ true
passes_limit s rank bytes at p =
    let over = p.passes.passes in
    let front_sum = sum_of_front (p.count + 1) (counts_list p.state.counts) in
    let whole = total_is p.state.counts in
    lt_is counts_limit (total_count p.state.counts) (omega (arith, over, front_sum, whole))

pub opening_refused : (s : Sizes) (rank : ℕ) (bytes : List ℕ) (at : ℕ) (cause : CkptWhy) → NumbersReadAgain → RefusesOpening part_at s rank bytes (Bad at cause) → content_opening s rank bytes ≡ Err (status.CheckpointBad rank at cause)
opening_refused s rank bytes at cause again refuses = ⊎_elim
    (λ is. ap (opening_answer s rank bytes) is)
    (λ passes. ap (opening_answer s rank bytes) passes.1.read
    ∙ ap (λ (b : Bool). cond b (Err (status.CheckpointBad rank (passing_at s rank bytes passes.1.state) why.Range)) (Ok bytes)) (passes_limit s rank bytes at passes.1)
    ∙ ap (λ (k : ℕ). Err (status.CheckpointBad rank k why.Range)) (passing_is s rank bytes at again passes.1)
    ∙ ap (λ (y : CkptWhy). Err (status.CheckpointBad rank at y)) (sym passes.0))
    refuses

-- the least number of which something is so
first_none : (is : ℕ → Bool) (n : ℕ) → ((j : ℕ) → j < n → is j ≡ false) → first_below is n ≡ None
first_none is zero none = refl
first_none is (suc n) none =
    ap (λ (o : Option ℕ). first_or o (cond (is n) (Some n) None)) (first_none is n (λ j less. none j (omega (arith, less))))
    ∙ ap (λ (b : Bool). cond b (Some n) None) (none n (omega arith))

less_or_same : (k n : ℕ) → k < suc n → (k < n) ⊎ (k ≡ n)
less_or_same k n h = ⊎_elim (λ less. inl less) (λ more. inr (omega (arith, h, more))) (cases_lt k n)

first_is : (is : ℕ → Bool) (n k : ℕ) → k < n → is k ≡ true → ((j : ℕ) → j < k → is j ≡ false) → first_below is n ≡ Some k
first_is is zero k here so before = absurd (omega (arith, here))
first_is is (suc n) k here so before = ⊎_elim
    (λ less. ap (λ (o : Option ℕ). first_or o (cond (is n) (Some n) None)) (first_is is n k less so before))
    (λ same. ap (λ (o : Option ℕ). first_or o (cond (is n) (Some n) None)) (first_none is n (λ j less. before j (omega (arith, less, same))))
    ∙ ap (λ (b : Bool). cond b (Some n) None) (subst (λ (m : ℕ). is m ≡ true) same so) ∙ ap (λ (m : ℕ). Some m) (sym same))
    (less_or_same k n here)

same_marks : (first other : Bool) → other ≡ first → are_two first other ≡ false
same_marks true other e = ap not e
same_marks false other e = e

two_marks : (first other has : Bool) → first ≡ has → other ≡ not has → are_two first other ≡ true
two_marks true other has first e = ap not e ∙ ap (λ (b : Bool). not (not b)) (sym first)
two_marks false other has first e = e ∙ ap not (sym first)

plane_same : (old : Sizes) (files : List (List ℕ)) (other plane : ℕ) → SamePlane old.groups (has_old old files 0) (has_old old files other) plane → differing_group old files other plane ≡ None
unfolding differing_group
plane_same old files other plane same =
    first_none (λ group. are_two (has_old old files 0 group plane) (has_old old files other group plane)) old.groups (λ group here. same_marks (has_old old files 0 group plane) (has_old old files other group plane) (same group here))

plane_differs : (old : Sizes) (files : List (List ℕ)) (other plane group : ℕ) (has : Bool) → DifferInPlane old.groups (has_old old files 0) (has_old old files other) plane group has → differing_group old files other plane ≡ Some group
unfolding differing_group
plane_differs old files other plane group has d =
    first_is (λ g. are_two (has_old old files 0 g plane) (has_old old files other g plane)) old.groups group d.group_in (two_marks (has_old old files 0 group plane) (has_old old files other group plane) has d.has d.has_not)
    (λ earlier less. same_marks (has_old old files 0 earlier plane) (has_old old files other earlier plane) (d.before earlier less))

rank_same : (old : Sizes) (files : List (List ℕ)) (other : ℕ) → HasCommon old files other → differing_plane old files other ≡ None
unfolding differing_plane
rank_same old files other same =
    first_none (λ plane. is_some (differing_group old files other plane)) (planes old) (λ plane here. ap is_some (plane_same old files other plane (same plane here)))

rank_differs : (old : Sizes) (files : List (List ℕ)) (other plane group : ℕ) (has : Bool) → DifferAt old (has_old old files 0) (has_old old files other) plane group has → differing_plane old files other ≡ Some plane
unfolding differing_plane
rank_differs old files other plane group has d =
    first_is (λ p. is_some (differing_group old files other p)) (planes old) plane d.plane_in (ap is_some (plane_differs old files other plane group has d.here))
    (λ earlier less. ap is_some (plane_same old files other earlier (d.before earlier less)))

ranks_same : (old : Sizes) (files : List (List ℕ)) → ((rank : ℕ) → rank < old.ranks → HasCommon old files rank) → differing_rank old files ≡ None
unfolding differing_rank
ranks_same old files same =
    first_none (λ other. is_some (differing_plane old files other)) old.ranks (λ other here. ap is_some (rank_same old files other (same other here)))

ranks_differ : (old : Sizes) (files : List (List ℕ)) (other plane group : ℕ) (has : Bool) → FirstDiffers old files other plane group has → differing_rank old files ≡ Some other
unfolding differing_rank
ranks_differ old files other plane group has d =
    first_is (λ r. is_some (differing_plane old files r)) old.ranks other d.rank_in (ap is_some (rank_differs old files other plane group has d.here))
    (λ earlier less. ap is_some (rank_same old files earlier (d.before earlier less)))

marks_same : (old : Sizes) (files : List (List ℕ)) → ((rank : ℕ) → rank < old.ranks → HasCommon old files rank) → refused_marks old files ≡ None
marks_same old files same = ap (option_and_then (refused_in_rank old files)) (ranks_same old files same)

marks_refused : (old : Sizes) (files : List (List ℕ)) (other plane group : ℕ) (has : Bool) → FirstDiffers old files other plane group has → refused_marks old files ≡ Some (status.MarksDiffer other plane group has)
marks_refused old files other plane group has d =
    ap (option_and_then (refused_in_rank old files)) (ranks_differ old files other plane group has d)
    ∙ ap (option_and_then (refused_in_plane old files other)) (rank_differs old files other plane group has d.here)
    ∙ ap (option_map (refused_at old files other plane)) (plane_differs old files other plane group has d.here.here)
    ∙ ap (λ (b : Bool). Some (status.MarksDiffer other plane group b)) d.here.here.has

-- the lists that the ranks go on from
pub lists_kept : (s old : Sizes) (files : List (List ℕ)) → s.ranks ≡ old.ranks → right_lists s old files ≡ Ok files
unfolding right_lists
lists_kept s old files same =
    ap (λ (b : Bool). cond b (Ok files) (recut_or (map (recut_bytes s old files) (below s.ranks)) (refused_marks old files))) (let test : (s.ranks == old.ranks) ≡ true = grind (arith, nat_tests) in test)

other_ranks : (s old : Sizes) (files : List (List ℕ)) → (s.ranks ≡ old.ranks → ⊥) → right_lists s old files ≡ recut_or (map (recut_bytes s old files) (below s.ranks)) (refused_marks old files)
unfolding right_lists
other_ranks s old files not_same =
    ap (λ (b : Bool). cond b (Ok files) (recut_or (map (recut_bytes s old files) (below s.ranks)) (refused_marks old files))) (true_or_false (s.ranks == old.ranks) (λ e. not_same (let same : s.ranks ≡ old.ranks = grind (arith, nat_tests) in same)))

pub lists_cut : (s old : Sizes) (files lists : List (List ℕ)) → (s.ranks ≡ old.ranks → ⊥) → Recuts s old files lists → right_lists s old files ≡ Ok lists
lists_cut s old files lists not_same h =
    other_ranks s old files not_same ∙ ap (recut_or (map (recut_bytes s old files) (below s.ranks))) (marks_same old files h.common) ∙ ap (λ (l : List (List ℕ)). Ok l) (sym h.each)

pub lists_refused : (s old : Sizes) (files : List (List ℕ)) (other plane group : ℕ) (has : Bool) → (s.ranks ≡ old.ranks → ⊥) → FirstDiffers old files other plane group has → right_lists s old files ≡ Err (status.MarksDiffer other plane group has)
lists_refused s old files other plane group has not_same d =
    other_ranks s old files not_same ∙ ap (recut_or (map (recut_bytes s old files) (below s.ranks))) (marks_refused old files other plane group has d)

-- the lists of the first old ranks
pub record AreRead (old : Sizes) (ranks : ℕ) (lists : List (List ℕ)) : Type 0 where
  pub one_each : length lists ≡ ranks
  pub opening : (rank : ℕ) → rank < ranks → IsOpening part_at old rank (2 ^ 61) (get_or lists rank [])

pub none_read : (old : Sizes) (lists : List (List ℕ)) → lists ≡ [] → AreRead old 0 lists
none_read old lists none = record { one_each = ap length none; opening = λ rank here. absurd (let never : ⊥ = omega (arith, here) in never) }

at_end : (lists : List (List ℕ)) (bytes : List ℕ) (n : ℕ) → length lists ≡ n → get_or (lists ++ bytes ∷ []) n [] ≡ bytes
at_end lists bytes n long = subst (λ (k : ℕ). get_or (lists ++ bytes ∷ []) k [] ≡ bytes) (let same : length lists + 0 ≡ n = omega (arith, long) in same) (get_or-append-add lists (bytes ∷ []) 0 [])

read_behind : (old : Sizes) (rank : ℕ) (lists : List (List ℕ)) (bytes : List ℕ) → AreRead old rank lists → IsOpening part_at old rank (2 ^ 61) bytes → AreRead old (suc rank) (lists ++ bytes ∷ [])
read_behind old rank lists bytes are is = record {
  one_each = let long = length-append lists (bytes ∷ []) in let one : length (bytes ∷ []) ≡ 1 = refl in let before = are.one_each in omega (arith, long, one, before);
  opening = λ r here. ⊎_elim
      (λ less. subst (λ (l : List ℕ). IsOpening part_at old r (2 ^ 61) l) (sym (get_or_append_left lists (bytes ∷ []) [] r (let before = are.one_each in omega (arith, less, before)))) (are.opening r less))
      (λ same. subst (λ (k : ℕ). IsOpening part_at old k (2 ^ 61) (get_or (lists ++ bytes ∷ []) k [])) (sym same) (subst (λ (l : List ℕ). IsOpening part_at old rank (2 ^ 61) l) (sym (at_end lists bytes rank are.one_each)) is))
      (less_or_same r rank here);
}

pub one_more_read : (old : Sizes) (rank : ℕ) (lists more : List (List ℕ)) (bytes : List ℕ) → more ≡ lists ++ bytes ∷ [] → AreRead old rank lists → IsOpening part_at old rank (2 ^ 61) bytes → AreRead old (rank + 1) more
one_more_read old rank lists more bytes same are is =
    subst (λ (n : ℕ). AreRead old n more) (let next : suc rank ≡ rank + 1 = omega arith in next) (subst (λ (l : List (List ℕ)). AreRead old (suc rank) l) (sym same) (read_behind old rank lists bytes are is))

pub all_read : (old : Sizes) (ranks : ℕ) (lists : List (List ℕ)) → ranks ≡ old.ranks → AreRead old ranks lists → AreOpenings part_at old lists
all_read old ranks lists all are = record { one_each = are.one_each ∙ all; spelled = λ rank here. are.opening rank (omega (arith, all, here)) }

-- the files of no rank, of one more, and of all after one that is refused
pub files_begin : (old : Sizes) (prefix : List ℕ) (files : FileState) (lists : Vec (Vec ℕ)) → lists_of lists.items ≡ [] → Loads (λ (l : Vec (Vec ℕ)). lists_of l.items) (λ held. right_files old prefix held 0) files files (Ok lists)
files_begin old prefix files lists none = record {
  right = λ held told. ap (λ (l : List (List ℕ)). Ok l) (sym none);
  same = refl;
  sound = λ s. s;
  loads = refl;
  saves = refl;
}

files_behind : (old : Sizes) (prefix : List ℕ) (rank : ℕ) (first between now : FileState) (lists more : Vec (Vec ℕ)) (bytes : Vec ℕ) → lists_of more.items ≡ lists_of lists.items ++ bytes.items ∷ []
    → Loads (λ (l : Vec (Vec ℕ)). lists_of l.items) (λ held. right_files old prefix held rank) first between (Ok lists) → Loads (λ (b : Vec ℕ). b.items) (λ held. right_file old prefix held rank) between now (Ok bytes)
    → Loads (λ (l : Vec (Vec ℕ)). lists_of l.items) (λ held. right_files old prefix held (suc rank)) first now (Ok more)
files_behind old prefix rank first between now lists more bytes is before here =
    loads_then (λ (l : Vec (Vec ℕ)). lists_of l.items) (λ (l : Vec (Vec ℕ)). lists_of l.items) (λ held. right_files old prefix held rank) (λ held ls. right_file old prefix held rank >>= (λ b. Ok (ls ++ b ∷ []))) first between now lists (Ok more) before
    (loads_as (λ (b : Vec ℕ). b.items) (λ (l : Vec (Vec ℕ)). lists_of l.items) (λ held. right_file old prefix held rank) (λ b. lists_of lists.items ++ b ∷ []) between now bytes more (sym is) here)

pub files_more : (old : Sizes) (prefix : List ℕ) (rank : ℕ) (first between now : FileState) (lists more : Vec (Vec ℕ)) (bytes : Vec ℕ) → lists_of more.items ≡ lists_of lists.items ++ bytes.items ∷ []
    → Loads (λ (l : Vec (Vec ℕ)). lists_of l.items) (λ held. right_files old prefix held rank) first between (Ok lists) → Loads (λ (b : Vec ℕ). b.items) (λ held. right_file old prefix held rank) between now (Ok bytes)
    → Loads (λ (l : Vec (Vec ℕ)). lists_of l.items) (λ held. right_files old prefix held (rank + 1)) first now (Ok more)
files_more old prefix rank first between now lists more bytes is before here =
    subst (λ (n : ℕ). Loads (λ (l : Vec (Vec ℕ)). lists_of l.items) (λ held. right_files old prefix held n) first now (Ok more)) (let next : suc rank ≡ rank + 1 = omega arith in next) (files_behind old prefix rank first between now lists more bytes is before here)

refused_till : (sound : Bool) (r : Refusal) (old : Sizes) (prefix : List ℕ) (held : Names) (ranks rank : ℕ) → rank ≤ ranks → IsRefused sound r (right_files old prefix held rank) → IsRefused sound r (right_files old prefix held ranks)
refused_till sound r old prefix held zero rank few is = subst (λ (n : ℕ). IsRefused sound r (right_files old prefix held n)) (let none : rank ≡ 0 = omega (arith, few) in none) is
refused_till sound r old prefix held (suc n) rank few is = ⊎_elim
    (λ less. refused_first sound r (right_files old prefix held n) (λ lists. right_file old prefix held n >>= (λ bytes. Ok (lists ++ bytes ∷ []))) (refused_till sound r old prefix held n rank (omega (arith, less)) is))
    (λ more. subst (λ (k : ℕ). IsRefused sound r (right_files old prefix held k)) (let same : rank ≡ suc n = omega (arith, few, more) in same) is)
    (cases_lt rank (suc n))

pub files_refused : {B : Type 0} (old : Sizes) (prefix : List ℕ) (rank ranks : ℕ) (first between now : FileState) (lists : Vec (Vec ℕ)) (view : B → List ℕ) (r : Refusal) → rank < ranks
    → Loads (λ (l : Vec (Vec ℕ)). lists_of l.items) (λ held. right_files old prefix held rank) first between (Ok lists) → Loads view (λ held. right_file old prefix held rank) between now (Err r)
    → Loads (λ (l : Vec (Vec ℕ)). lists_of l.items) (λ held. right_files old prefix held ranks) first now (Err r)
files_refused old prefix rank ranks first between now lists view r here before refused =
    let one : Loads (λ (l : Vec (Vec ℕ)). lists_of l.items) (λ held. right_files old prefix held (suc rank)) first now (Err r) =
    loads_then (λ (l : Vec (Vec ℕ)). lists_of l.items) (λ (l : Vec (Vec ℕ)). lists_of l.items) (λ held. right_files old prefix held rank) (λ held ls. right_file old prefix held rank >>= (λ b. Ok (ls ++ b ∷ []))) first between now lists (Err r) before
    (loads_refused view (λ (l : Vec (Vec ℕ)). lists_of l.items) (λ held. right_file old prefix held rank) (λ held b. Ok (lists_of lists.items ++ b ∷ [])) between now r refused) in
    record {
      right = λ held told. refused_till first.sound r old prefix held ranks (suc rank) (omega (arith, here)) (one.right held told);
      same = one.same;
      sound = one.sound;
      loads = one.loads;
      saves = one.saves;
    }

-- memory ran out behind a file
pub files_wanting : (old : Sizes) (prefix : List ℕ) (rank ranks : ℕ) (first between now : FileState) (lists : Vec (Vec ℕ)) (bytes : Vec ℕ)
    → Loads (λ (l : Vec (Vec ℕ)). lists_of l.items) (λ held. right_files old prefix held rank) first between (Ok lists) → Loads (λ (b : Vec ℕ). b.items) (λ held. right_file old prefix held rank) between now (Ok bytes)
    → Loads (λ (l : Vec (Vec ℕ)). lists_of l.items) (λ held. right_files old prefix held ranks) first now (Err refusal.Memory)
files_wanting old prefix rank ranks first between now lists bytes before here = record {
  right = λ held told. tt;
  same = here.same ∙ before.same;
  sound = λ s. here.sound (before.sound s);
  loads = here.loads ∙ before.loads;
  saves = here.saves ∙ before.saves;
}

pub all_files : (old : Sizes) (prefix : List ℕ) (rank : ℕ) (first now : FileState) (lists : Vec (Vec ℕ)) → rank ≡ old.ranks
    → Loads (λ (l : Vec (Vec ℕ)). lists_of l.items) (λ held. right_files old prefix held rank) first now (Ok lists) → Loads (λ (l : Vec (Vec ℕ)). lists_of l.items) (λ held. right_files old prefix held old.ranks) first now (Ok lists)
all_files old prefix rank first now lists all h = subst (λ (n : ℕ). Loads (λ (l : Vec (Vec ℕ)). lists_of l.items) (λ held. right_files old prefix held n) first now (Ok lists)) all h
