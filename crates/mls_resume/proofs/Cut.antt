-- What is cut anew is a valid state, and it is read from its spelling.
use Rattle.std.proofs.Common.{◌≡◌, ℕ, ◌+◌, ◌-◌, ◌*◌, ◌^◌, ◌<◌, ◌≤◌, List, [], ◌∷◌, length, map, get_or, Ok, refl, sym, ap, ◌∙◌, arith, subst}
use Rattle.std.specs.Prelude.{sum, Result, IsOkAnd}
use Rattle.std.proofs.lemmas.List.Sums.{count_by-le-length, sum_by-cons}
use Rattle.std.proofs.Math.Nat.{mul-le-mul_right}
use Rattle.std.proofs.lemmas.Nat.{mul-le}
use Rattle.mls_model.specs.Numbers.{below}
use Rattle.mls_model.specs.Studies.{Sizes, AreSizes, planes}
use Rattle.mls_model.specs.Blocks.{overlaps}
use Rattle.mls_model.specs.Outcomes.{total_count}
use Rattle.mls_base.specs.Shapes.{with_ranks}
use Rattle.mls_base.specs.Partitions.{BlocksPartition, RankHolds}
use Rattle.mls_ckpt.specs.States.{State, IsState, AreMarks, is_set, is_marked, marked, marks_of_planes, overlapping}
use Rattle.mls_ckpt.specs.Histories.{marks_of}
use Rattle.mls_ckpt.specs.CellParts.{IsSumsPart, part_at}
use Rattle.mls_ckpt.specs.Laws.{MarksAreValid, MarksAreTheirs, SavedStatesReadAgain}
use Rattle.mls_ckpt.specs.Checkpoints.{checkpoint_of}
use Rattle.mls_resume.specs.Opening.{AreOpenings}
use Rattle.mls_resume.specs.Recut.{old_state, old_parts, common_marks, recut_counts, recut_state, recut_bytes, HasCommon}
use Rattle.mls_resume.proofs.Listed.{length_below, length_made, at_made}
use Rattle.mls_resume.proofs.Pieced.{AreParts, part_cut}

marked_few : (groups : ℕ) (row : List ℕ) → marked groups row ≤ groups
unfolding marked
marked_few groups row = let few = count_by-le-length (is_set row) (below groups) in omega (arith, few, length_below groups)

sum_few : (groups : ℕ) (rows : List (List ℕ)) → sum (map (marked groups) rows) ≤ length rows * groups
sum_few groups [] = omega arith
sum_few groups (row ∷ rows) =
    let all : sum (map (marked groups) (row ∷ rows)) ≡ marked groups row + sum (map (marked groups) rows) = sum_by-cons (λ (x : ℕ). x) (marked groups row) (map (marked groups) rows) in
    let more : length (row ∷ rows) * groups ≡ groups + length rows * groups = omega arith in
    omega (arith, all, more, marked_few groups row, sum_few groups rows)

overlapping_few : (s : Sizes) (rank : ℕ) → overlapping s rank ≤ s.clients
unfolding overlapping
overlapping_few s rank = let few = count_by-le-length (overlaps s rank) (below s.clients) in omega (arith, few, length_below s.clients)

-- no more planes than this
planes_few : (s : Sizes) → AreSizes s → planes s ≤ 1048576
planes_few s sizes =
    let grown : 1 * (s.steps * s.fields) ≤ s.cells * (s.steps * s.fields) = mul-le-mul_right (s.steps * s.fields) sizes.some_cells in
    let mesh = sizes.mesh in
    omega (arith, grown, mesh)

-- the counts of a new rank are few
pub counts_few : (s : Sizes) (rank : ℕ) (marks : List (List ℕ)) → AreSizes s → length marks ≡ planes s → total_count (recut_counts s rank marks) ≤ 2 ^ 61
unfolding recut_counts
counts_few s rank marks sizes long =
    let all = sum (marks_of_planes s marks) in
    let others = overlapping s rank - 1 in
    let kept : all ≤ length marks * s.groups = sum_few s.groups marks in
    let keys : length marks * s.groups ≤ 1048576 * 65535 = mul-le (length marks) s.groups 1048576 65535 (let few = planes_few s sizes in omega (arith, long, few)) sizes.groups in
    let most : all ≤ 1048576 * 65535 = omega (arith, kept, keys) in
    let few : others ≤ 64 = let clients = overlapping_few s rank in let most_clients = sizes.clients in omega (arith, clients, most_clients) in
    let both : all * others ≤ 1048576 * 65535 * 64 = mul-le all others (1048576 * 65535) 64 most few in
    omega (arith, most, both)

-- the marks of each old rank are the common ones
pub marks_common : (old : Sizes) (ranks : ℕ) (files : List (List ℕ)) (rank : ℕ) → MarksAreTheirs → IsState IsSumsPart old rank (old_state old files rank) → HasCommon old files rank
    → (old_state old files rank).marks ≡ common_marks (with_ranks old ranks) old files
unfolding common_marks marks_of
marks_common old ranks files rank theirs valid common =
    theirs old (old_state old files rank).marks (is_marked (old_state old files 0).marks) valid.marks (λ key group_in plane_in. common key.plane plane_in key.group group_in)

pub recut_valid : (old : Sizes) (ranks : ℕ) (files : List (List ℕ)) → AreSizes old → AreSizes (with_ranks old ranks) → BlocksPartition → RankHolds → MarksAreTheirs → MarksAreValid
    → ((rank : ℕ) → rank < old.ranks → IsState IsSumsPart old rank (old_state old files rank)) → ((rank : ℕ) → rank < old.ranks → HasCommon old files rank)
    → (rank : ℕ) → rank < ranks → IsState IsSumsPart (with_ranks old ranks) rank (recut_state (with_ranks old ranks) old files rank)
unfolding recut_state old_parts common_marks
recut_valid old ranks files old_sizes sizes blocks holds theirs valid_marks states common rank rank_in =
    let s = with_ranks old ranks in
    let marks = common_marks s old files in
    let are : AreMarks s marks = valid_marks s (is_marked (old_state old files 0).marks) in
    let few = counts_few s rank marks sizes are.size in
    let parts : AreParts old (marks_of_planes s marks) (old_parts old files) = record {
      each = λ r within. subst (IsSumsPart old r (marks_of_planes s marks)) (sym (at_made (λ q. (old_state old files q).part) old.ranks r [] within))
          (subst (λ (m : List (List ℕ)). IsSumsPart old r (marks_of_planes s m) (old_state old files r).part) (marks_common old ranks files r theirs (states r within) (common r within)) (states r within).part);
    } in
    record {
      counts = omega (arith, few);
      marks = are;
      part = part_cut old ranks (marks_of_planes s marks) (old_parts old files) rank old_sizes sizes blocks holds parts rank_in;
      pending = record { few = omega arith; keys = tt };
    }

-- the list of a new rank spells its state
pub recut_read : (old : Sizes) (ranks : ℕ) (files : List (List ℕ)) (rank : ℕ) → SavedStatesReadAgain → AreSizes (with_ranks old ranks) → rank < ranks
    → IsState IsSumsPart (with_ranks old ranks) rank (recut_state (with_ranks old ranks) old files rank)
    → checkpoint_of part_at (with_ranks old ranks) rank (recut_bytes (with_ranks old ranks) old files rank) ≡ Ok (recut_state (with_ranks old ranks) old files rank)
unfolding recut_bytes
recut_read old ranks files rank again sizes rank_in valid = again (with_ranks old ranks) rank 3 (recut_state (with_ranks old ranks) old files rank) sizes rank_in refl valid

-- the same of a study that is the old one but for its number of ranks
pub cut_read : (s old : Sizes) (files : List (List ℕ)) → s ≡ with_ranks old s.ranks → AreSizes old → AreSizes s → BlocksPartition → RankHolds → MarksAreTheirs → MarksAreValid → SavedStatesReadAgain
    → ((rank : ℕ) → rank < old.ranks → IsState IsSumsPart old rank (old_state old files rank)) → ((rank : ℕ) → rank < old.ranks → HasCommon old files rank)
    → (rank : ℕ) → rank < s.ranks → checkpoint_of part_at s rank (recut_bytes s old files rank) ≡ Ok (recut_state s old files rank)
cut_read s old files same old_sizes sizes blocks holds theirs valid_marks again states common =
    subst (λ (z : Sizes). (rank : ℕ) → rank < s.ranks → checkpoint_of part_at z rank (recut_bytes z old files rank) ≡ Ok (recut_state z old files rank)) (sym same)
    (λ rank rank_in.
    let new_sizes : AreSizes (with_ranks old s.ranks) = subst AreSizes same sizes in
    recut_read old s.ranks files rank again new_sizes rank_in (recut_valid old s.ranks files old_sizes new_sizes blocks holds theirs valid_marks states common rank rank_in))

recut_few : (s old : Sizes) (files : List (List ℕ)) (rank : ℕ) → AreSizes s → MarksAreValid → total_count (recut_state s old files rank).counts ≤ 2 ^ 61
unfolding recut_state common_marks
recut_few s old files rank sizes valid_marks = counts_few s rank (common_marks s old files) sizes (valid_marks s (is_marked (old_state old files 0).marks)).size

ok_and : {A E : Type 0} (P : A → Type 0) (r : Result A E) (a : A) → r ≡ Ok a → P a → IsOkAnd r P
ok_and P r a is holds = subst (λ q. IsOkAnd q P) (sym is) holds

-- The lists are those that ranks go on from.
pub cut_openings : (s old : Sizes) (files lists : List (List ℕ)) → lists ≡ map (recut_bytes s old files) (below s.ranks) → AreSizes s → MarksAreValid
    → ((rank : ℕ) → rank < s.ranks → checkpoint_of part_at s rank (recut_bytes s old files rank) ≡ Ok (recut_state s old files rank)) → AreOpenings part_at s lists
cut_openings s old files lists each sizes valid_marks reads = record {
  one_each = ap length each ∙ length_made (recut_bytes s old files) s.ranks;
  spelled = λ rank within.
      let own : get_or lists rank [] ≡ recut_bytes s old files rank = ap (λ l. get_or l rank []) each ∙ at_made (recut_bytes s old files) s.ranks rank [] within in
      ok_and (λ (state : State). total_count state.counts ≤ 2 ^ 61) (checkpoint_of part_at s rank (get_or lists rank [])) (recut_state s old files rank)
      (ap (λ l. checkpoint_of part_at s rank l) own ∙ reads rank within) (recut_few s old files rank sizes valid_marks);
}
