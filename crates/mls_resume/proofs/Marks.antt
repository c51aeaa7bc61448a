-- The marks of a core are those of its state, and what a set of the same marks spells.
use Rattle.std.proofs.Common.{◌≡◌, ◌≢◌, ℕ, ◌+◌, ◌<◌, ◌≤◌, Bool, true, false, List, [], get_or, Ok, Err, refl, sym, ap, ◌∙◌, arith}
use Rattle.std.specs.Prelude.{not, Result, IfOk, OnOk}
use Rattle.mls_model.specs.Studies.{Sizes}
use Rattle.mls_ckpt.specs.States.{State}
use Rattle.mls_ckpt.specs.Checkpoints.{checkpoint_of}
use Rattle.mls_ckpt.specs.CellParts.{part_at}
use Rattle.mls_resume.specs.Recut.{state_read, old_state}
use Rattle.mls_resume.proofs.Listed.{below_more}
use Rattle.mls_ckpt.specs.States as states
use Rattle.mls_field.specs.declared.fold.RowFold.{Ghosts}
use Rattle.mls_ledger.specs.MarkSets.{MarkSet}
use Rattle.mls_ledger.specs.MarkSets as sets
use Rattle.mls_ledger.proofs.Rows.{marks_tie}
use Rattle.mls_rank.specs.declared.rank_core.RankCore.{RankCore}
use Rattle.mls_rank.specs.Cores.{has_mark, marks_of, AreMarks}
use Rattle.mls_rank.specs.Saving.{state_of}

-- a mark of the state is a mark of the core
pub state_marks : {F : Type 0} {T : Ghosts F} (core : RankCore F T) → AreMarks core → (group plane : ℕ) → has_mark core group plane ≡ states.is_marked (state_of core).marks (record { group = group; plane = plane })
state_marks core are group plane = sym (marks_tie (marks_of core) are.size are.padded (record { group = group; plane = plane }))

-- two truth values that aren't the same
pub other_mark : (a b : Bool) → a ≢ b → b ≡ not a
other_mark true true differ = absurd (differ refl)
other_mark true false differ = refl
other_mark false true differ = refl
other_mark false false differ = absurd (differ refl)

-- what holds of an answer follows from what else holds of it
pub if_ok : {A E : Type 0} (P Q : A → Type 0) (r : Result A E) → ((a : A) → P a → Q a) → IfOk r P → IfOk r Q
if_ok P Q (Ok a) implies holds = implies a holds
if_ok P Q (Err e) implies holds = tt

pub if_both : {A E : Type 0} (P Q R : A → Type 0) (r : Result A E) → ((a : A) → P a → Q a → R a) → IfOk r P → IfOk r Q → IfOk r R
if_both P Q R (Ok a) implies holds also = implies a holds also
if_both P Q R (Err e) implies holds also = tt

pub on_ok : {A E : Type 0} (P Q : A → Type 0) (R : Type 0) (r : Result A E) → ((a : A) → P a → Q a → R) → IfOk r P → IfOk r Q → OnOk r R
on_ok P Q R (Ok a) implies holds also = implies a holds also
on_ok P Q R (Err e) implies holds also = tt

-- the state that was read of a file is the old rank's
pub old_is : (old : Sizes) (files : List (List ℕ)) (rank : ℕ) (file : List ℕ) (state : State) → file ≡ get_or files rank [] → checkpoint_of part_at old rank file ≡ Ok state → state ≡ old_state old files rank
unfolding old_state
old_is old files rank file state is read = sym (ap state_read (ap (λ bytes. checkpoint_of part_at old rank bytes) (sym is) ∙ read))

-- the marks of one plane more
pub with_plane : (old new : MarkSet) (has : ℕ → ℕ → Bool) (groups n : ℕ) → ((group : ℕ) → group < groups → sets.is_marked new group n ≡ has group n) → ((group other : ℕ) → other ≢ n → sets.is_marked new group other ≡ sets.is_marked old group other)
    → ((group plane : ℕ) → group < groups → plane < n → sets.is_marked old group plane ≡ has group plane) → (group plane : ℕ) → group < groups → plane < n + 1 → sets.is_marked new group plane ≡ has group plane
with_plane old new has groups n copied others before group plane group_in plane_in =
    below_more (λ p. sets.is_marked new group p ≡ has group p) n (λ p less. others group p (λ e. absurd (omega (arith, e, less))) ∙ before group p group_in less) (copied group group_in) plane plane_in

pub past_plane : (old new : MarkSet) (n : ℕ) → ((group other : ℕ) → other ≢ n → sets.is_marked new group other ≡ sets.is_marked old group other) → ((group plane : ℕ) → n ≤ plane → sets.is_marked old group plane ≡ false)
    → (group plane : ℕ) → n + 1 ≤ plane → sets.is_marked new group plane ≡ false
past_plane old new n others rest group plane past = others group plane (λ e. absurd (omega (arith, e, past))) ∙ rest group plane (omega (arith, past))
