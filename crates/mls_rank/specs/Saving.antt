-- A core's state as a checkpoint spells it.
use Rattle.std.specs.Prelude.{◌≡◌, ℕ, ◌^◌, ◌≤◌, true, List, Result, Ok, Err}
use Rattle.mls_model.specs.Studies.{Sizes}
use Rattle.mls_model.specs.Histories.{LaneEvent}
use Rattle.mls_model.specs.Outcomes.{total_count}
use Rattle.mls_ckpt.specs.declared.faults.RecoverFault.{RecoverFault}
use Rattle.mls_ckpt.specs.declared.faults.RecoverFault.TheVariants.{Memory}
use Rattle.mls_ckpt.specs.States.{State}
use Rattle.mls_ckpt.specs.Spellings.{is_read, spelled_state}
use Rattle.mls_field.specs.declared.fold.RowFold.{Ghosts}
use Rattle.mls_ledger.specs.MarkRows.{rows_of, AreRows}
use Rattle.mls_assembly.specs.Held.{ArePending, AreRising}
use Rattle.mls_assembly.specs.Saved.{keys_saved}
use Rattle.mls_rank.specs.declared.rank_core.RankCore.{RankCore}
use Rattle.mls_rank.specs.Cores.{sizes_of, rank_of, counts_of, marks_of, fold_of, pending_of}
use Rattle.mls_rank.specs.Standing.{StandsFor}

-- the counts, marks, sums and pending pieces of a core
abbrev pub state_of : {F : Type 0} {T : Ghosts F} → RankCore F T → State
state_of {F} {T} core = record {
  counts = counts_of core;
  marks = rows_of (marks_of core);
  part = T.part (fold_of core);
  pending = keys_saved (pending_of core);
}

-- what a core's type keeps of its marks and its pending pieces
pub record AreKept {F : Type 0} {T : Ghosts F} (core : RankCore F T) : Type 0 where
  pub marks : AreRows (marks_of core)
  pub pending : ArePending (pending_of core)
  pub rising : AreRising (pending_of core)

-- The bytes spell the state of a core of this study and rank in a version that is read for the study. Its counts are few enough for a checkpoint.
pub record SpellsCore {F : Type 0} {T : Ghosts F} (s : Sizes) (rank : ℕ) (bytes : List ℕ) (core : RankCore F T) : Type 0 where
  pub of_sizes : sizes_of core ≡ s
  pub of_rank : rank_of core ≡ rank
  pub few : total_count (counts_of core) ≤ 2 ^ 62
  pub kept : AreKept core
  pub version : ℕ
  pub is_read : is_read s version ≡ true
  pub spelled : bytes ≡ spelled_state version s rank (state_of core)

-- a core has the counts of another, and stands for what the other stands for
pub record Resumes {F : Type 0} {T : Ghosts F} (saved core : RankCore F T) : Type 0 where
  pub counts : counts_of core ≡ counts_of saved
  pub stands : (history : List LaneEvent) → StandsFor saved history → StandsFor core history

-- an answer is such a core, or want of memory
abbrev pub GivesBack : {F : Type 0} {T : Ghosts F} → RankCore F T → Result (RankCore F T) RecoverFault → Type 0
GivesBack saved (Ok core) = Resumes saved core
GivesBack saved (Err fault) = fault ≡ Memory

-- Where the bytes spell the state of a core, the answer goes on from it.
abbrev pub RecoversSaved : {F : Type 0} {T : Ghosts F} → Sizes → ℕ → List ℕ → Result (RankCore F T) RecoverFault → Type 0
RecoversSaved {F} {T} s rank bytes answer = (saved : RankCore F T) → SpellsCore s rank bytes saved → GivesBack saved answer
