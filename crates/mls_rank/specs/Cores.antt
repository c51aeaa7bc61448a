-- What clauses see of a core.
use Rattle.std.specs.Prelude.{◌≡◌, ℕ, ◌*◌, Bool, length}
use Rattle.mls_model.specs.declared.outcomes.Counts.{Counts}
use Rattle.mls_model.specs.Studies.{Sizes, planes}
use Rattle.mls_field.specs.declared.fold.RowFold.{Ghosts}
use Rattle.mls_ckpt.specs.States.{row_len}
use Rattle.mls_ledger.specs.MarkSets.{MarkSet, is_marked, marked, IsPadded}
use Rattle.mls_assembly.specs.Held.{Held}
use Rattle.mls_rank.specs.declared.rank_core.RankCore.{RankCore}

-- the study's numbers
abbrev pub sizes_of : {F : Type 0} {T : Ghosts F} → RankCore F T → Sizes
sizes_of core = core.shape

abbrev pub rank_of : {F : Type 0} {T : Ghosts F} → RankCore F T → ℕ
rank_of core = core.rank

-- the numbers of events with each outcome
abbrev pub counts_of : {F : Type 0} {T : Ghosts F} → RankCore F T → Counts
counts_of core = core.counts

-- the marked keys
abbrev pub marks_of : {F : Type 0} {T : Ghosts F} → RankCore F T → MarkSet
marks_of core = core.marks

-- whether the key of a group and a plane is marked
abbrev pub has_mark : {F : Type 0} {T : Ghosts F} → RankCore F T → ℕ → ℕ → Bool
has_mark core group plane = is_marked core.marks group plane

-- how many keys of a plane are marked
abbrev pub mark_count : {F : Type 0} {T : Ghosts F} → RankCore F T → ℕ → ℕ
mark_count core plane = marked core.marks plane

-- what is kept of the rows
abbrev pub fold_of : {F : Type 0} {T : Ghosts F} → RankCore F T → F
fold_of core = core.fold

-- the pending pieces
abbrev pub pending_of : {F : Type 0} {T : Ghosts F} → RankCore F T → Held
pending_of core = core.pending

-- the marks are those of the study, and no bit stands past the groups
pub record AreMarks {F : Type 0} {T : Ghosts F} (core : RankCore F T) : Type 0 where
  pub groups : (marks_of core).groups ≡ (sizes_of core).groups
  pub planes : (marks_of core).planes ≡ planes (sizes_of core)
  pub size : length (marks_of core).bytes ≡ (marks_of core).planes * row_len (marks_of core).groups
  pub padded : IsPadded (marks_of core)

-- the marks, and what is kept of the rows, are as before
abbrev pub SameRows : {F : Type 0} {T : Ghosts F} → RankCore F T → RankCore F T → Type 0
SameRows old new = (fold_of new ≡ fold_of old) × ((group plane : ℕ) → has_mark new group plane ≡ has_mark old group plane)

-- all that is kept is as before
pub record IsSame {F : Type 0} {T : Ghosts F} (old new : RankCore F T) : Type 0 where
  pub sizes : sizes_of new ≡ sizes_of old
  pub rank : rank_of new ≡ rank_of old
  pub counts : counts_of new ≡ counts_of old
  pub marks : (group plane : ℕ) → has_mark new group plane ≡ has_mark old group plane
  pub pending : pending_of new ≡ pending_of old
  pub fold : fold_of new ≡ fold_of old
