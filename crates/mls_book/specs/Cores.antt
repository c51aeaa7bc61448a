-- What contracts see of the core of a book: its parts.
use Rattle.std.specs.Prelude.{◌≡◌, ℕ, ◌∷◌, [], ◌++◌, false, List}
use Rattle.mls_model.specs.declared.outcomes.Counts.{Counts}
use Rattle.mls_model.specs.declared.outcomes.Outcome.{Outcome}
use Rattle.mls_model.specs.Studies.{Sizes}
use Rattle.mls_model.specs.Histories.{LaneEvent}
use Rattle.mls_model.specs.Survival.{is_crash, surviving}
use Rattle.mls_model.specs.Outcomes.{outcome}
use Rattle.mls_ckpt.specs.States.{State}
use Rattle.mls_ckpt.specs.Spellings.{spelled_state}
use Rattle.mls_field.specs.declared.fold.RowFold.{Ghosts}
use Rattle.mls_ledger.specs.MarkSets.{MarkSet, is_marked}
use Rattle.mls_ledger.specs.MarkRows.{rows_of}
use Rattle.mls_assembly.specs.Held.{Held}
use Rattle.mls_assembly.specs.Saved.{keys_saved}
use Rattle.mls_rank.specs.declared.rank_core.RankCore.{RankCore}
use Rattle.mls_rank.specs.Cores.{sizes_of, rank_of, counts_of, marks_of, pending_of, fold_of}
use Rattle.mls_rank.specs.Standing.{StandsFor}

-- the study, the rank, the counts of events, the marked keys, the pending pieces, and what is kept of the rows
pub record CoreParts (F : Type 0) : Type 0 where
  pub sizes : Sizes
  pub rank : ℕ
  pub counts : Counts
  pub marks : MarkSet
  pub pending : Held
  pub fold : F

abbrev pub parts_of : {F : Type 0} {T : Ghosts F} → RankCore F T → CoreParts F
parts_of core = record {
  sizes = sizes_of core;
  rank = rank_of core;
  counts = counts_of core;
  marks = marks_of core;
  pending = pending_of core;
  fold = fold_of core;
}

-- a core of these parts stands for a history
abbrev pub Stands : {F : Type 0} (T : Ghosts F) → CoreParts F → List LaneEvent → Type 0
Stands {F} T parts history = (core : RankCore F T) → parts_of core ≡ parts → StandsFor core history

-- it stands for all that another stood for
abbrev pub StandsAlso : {F : Type 0} (T : Ghosts F) → (old new : CoreParts F) → Type 0
StandsAlso T old new = (history : List LaneEvent) → Stands T old history → Stands T new history

-- it stands for the histories of another with one more event, which is no crash
abbrev pub StandsAfter : {F : Type 0} (T : Ghosts F) → (old new : CoreParts F) → LaneEvent → Type 0
StandsAfter T old new e = (history : List LaneEvent) → Stands T old history → is_crash e ≡ false → Stands T new (history ++ e ∷ [])

-- after each history that it stands for, the outcome of an event is right
abbrev pub IsRightOutcome : {F : Type 0} (T : Ghosts F) → CoreParts F → LaneEvent → Outcome → Type 0
IsRightOutcome T parts e o = (history : List LaneEvent) → Stands T parts history → o ≡ outcome parts.sizes parts.rank (surviving history) e

-- the state that a checkpoint spells, and its bytes in the version that is written
abbrev pub parts_state : {F : Type 0} (T : Ghosts F) → CoreParts F → State
parts_state T parts = record {
  counts = parts.counts;
  marks = rows_of parts.marks;
  part = T.part parts.fold;
  pending = keys_saved parts.pending;
}

abbrev pub parts_bytes : {F : Type 0} (T : Ghosts F) → CoreParts F → List ℕ
parts_bytes T parts = spelled_state 3 parts.sizes parts.rank (parts_state T parts)

-- all that is kept is as before
pub record SameParts {F : Type 0} (old new : CoreParts F) : Type 0 where
  pub sizes : new.sizes ≡ old.sizes
  pub rank : new.rank ≡ old.rank
  pub counts : new.counts ≡ old.counts
  pub marks : (group plane : ℕ) → is_marked new.marks group plane ≡ is_marked old.marks group plane
  pub pending : new.pending ≡ old.pending
  pub fold : new.fold ≡ old.fold
