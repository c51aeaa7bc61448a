-- The parts of a list that were put one behind the other are the whole list, and the lists are those of the old states.
use Rattle.std.proofs.Common.{◌≡◌, ℕ, ◌+◌, ◌<◌, arith, List, [], ◌∷◌, ◌++◌, length, get_or, refl, ap, sym, ◌∙◌, subst}
use Rattle.std.proofs.lemmas.List.{append-nil}
use Rattle.std.specs.Int.{w32}
use Rattle.mls_model.specs.declared.outcomes.Counts.{Counts}
use Rattle.mls_model.specs.Studies.{Sizes, planes}
use Rattle.mls_ckpt.specs.Reading.{spelled}
use Rattle.mls_ckpt.specs.States as states
use Rattle.mls_ckpt.specs.States.{State, IsState}
use Rattle.mls_ckpt.specs.CellParts.{IsSumsPart}
use Rattle.mls_ckpt.specs.Spellings.{head_text, counts_text, marks_text, pending_text, spelled_state}
use Rattle.mls_ckpt.specs.Laws.{MarksAreTheirs}
use Rattle.mls_resume.proofs.Listed.{at_made, length_made, below_more}
use Rattle.mls_resume.proofs.Pieces.{list_more}
use Rattle.mls_ledger.specs.MarkSets.{MarkSet}
use Rattle.mls_ledger.specs.MarkRows.{rows_of, AreRows}
use Rattle.mls_rank.proofs.HeadTexts.{whole_text}
use Rattle.mls_resume.specs.Reads.{AreFirst, AreRead, AreLong}
use Rattle.mls_resume.specs.Recut.{old_state, old_parts, common_marks, recut_of, recut_state, recut_bytes, part_size, HasCommon}

none_pending : (before : List ℕ) → before ++ spelled w32 0 ≡ before ++ pending_text [] []
unfolding pending_text
none_pending before = ap (λ l. before ++ l) (sym (append-nil (spelled w32 0)))

pub whole_list : (s : Sizes) (rank : ℕ) (state : State) (empty o1 o2 o3 o4 o5 : List ℕ) (counts : Counts) → empty ≡ [] → o1 ≡ empty ++ head_text 3 s rank [] → o2 ≡ o1 ++ counts_text counts [] → counts ≡ state.counts → o3 ≡ o2 ++ marks_text state.marks [] → o4 ≡ o3 ++ state.part → o5 ≡ o4 ++ spelled w32 0
    → state.pending ≡ [] → o5 ≡ spelled_state 3 s rank state
whole_list s rank state empty o1 o2 o3 o4 o5 counts none e1 e2 same e3 e4 e5 quiet =
    whole_text s rank state empty o1 o2 o3 o4 o5 none e1 (e2 ∙ ap (λ c. o1 ++ counts_text c []) same) e3 e4 (e5 ∙ none_pending o4 ∙ sym (ap (λ k. o4 ++ pending_text k []) quiet))

-- the bytes of the common marks
pub marks_are : (s old : Sizes) (files : List (List ℕ)) (m : MarkSet) → s.groups ≡ old.groups → planes s ≡ planes old → MarksAreTheirs → AreRows m → AreFirst old files m → rows_of m ≡ common_marks s old files
unfolding common_marks
marks_are s old files m groups planes_same theirs rows first =
    theirs s (rows_of m) (states.is_marked (old_state old files 0).marks) (rows.valid s (record { groups = first.of_groups ∙ sym groups; planes = first.of_planes ∙ sym planes_same }))
    (λ key group_in plane_in. rows.marks key ∙ first.same key.group key.plane (subst (λ n. key.group < n) groups group_in) (subst (λ n. key.plane < n) planes_same plane_in))

-- the list of a new rank
pub list_is : (s old : Sizes) (files parts : List (List ℕ)) (m : MarkSet) (rank : ℕ) (bytes : List ℕ) → rows_of m ≡ common_marks s old files → AreRead old files old.ranks parts → bytes ≡ spelled_state 3 s rank (recut_of s old (rows_of m) parts rank) → bytes ≡ recut_bytes s old files rank
unfolding recut_bytes recut_state old_parts
list_is s old files parts m rank bytes marks read is =
    is ∙ ap (λ rows. spelled_state 3 s rank (recut_of s old rows parts rank)) marks ∙ ap (λ (ps : List (List ℕ)). spelled_state 3 s rank (recut_of s old (common_marks s old files) ps rank)) read.each

-- how long the parts are
pub parts_long : (old : Sizes) (files parts : List (List ℕ)) → AreRead old files old.ranks parts → AreLong old parts
parts_long old files parts read = record {
  one_each = ap length read.each ∙ length_made (λ rank. (old_state old files rank).part) old.ranks;
  long = λ rank within. ap (λ l. length (get_or l rank [])) read.each ∙ ap length (at_made (λ rank. (old_state old files rank).part) old.ranks rank [] within) ∙ read.long rank within;
}

-- one rank more, whose marks are the same
pub read_more : (old : Sizes) (files parts now : List (List ℕ)) (rank : ℕ) (part : List ℕ) → AreRead old files rank parts → now ≡ parts ++ part ∷ [] → part ≡ (old_state old files rank).part → length part ≡ part_size old rank
    → IsState IsSumsPart old rank (old_state old files rank) → HasCommon old files rank → AreRead old files (rank + 1) now
read_more old files parts now rank part read pushed is long valid common = record {
  each = list_more (λ r. (old_state old files r).part) rank parts now part read.each pushed is;
  long = λ r within. below_more (λ r. length (old_state old files r).part ≡ part_size old r) rank read.long (ap length (sym is) ∙ long) r within;
  valid = λ r within. below_more (λ r. IsState IsSumsPart old r (old_state old files r)) rank read.valid valid r within;
  common = λ r within. below_more (HasCommon old files) rank read.common common r within;
}

-- the first rank
pub read_one : (old : Sizes) (files now : List (List ℕ)) (part : List ℕ) → now ≡ [] ++ part ∷ [] → part ≡ (old_state old files 0).part → length part ≡ part_size old 0 → IsState IsSumsPart old 0 (old_state old files 0) → AreRead old files 1 now
read_one old files now part pushed is long valid =
    read_more old files [] now 0 part (record { each = refl; long = λ r within. absurd (omega arith); valid = λ r within. absurd (omega arith); common = λ r within. absurd (omega arith) }) pushed is long valid (λ plane plane_in group group_in. refl)
