-- What the fold of a trial answers.
use Rattle.std.specs.Prelude.{◌≡◌, ℕ, List, Option, Result, Ok, Err}
use Rattle.mls_model.specs.Studies.{Study}
use Rattle.mls_model.specs.Lanes.{Lane}
use Rattle.mls_text.specs.Writing.{SinkState, Wrote, FailedAfter, sink_seen}
use Rattle.mls_field.specs.declared.field.Field.{Field}
use Rattle.mls_field.specs.declared.fold.RowFold.{Ghosts}
use Rattle.mls_rank.specs.declared.rank_core.RankCore.{RankCore}
use Rattle.mls_result.specs.Histories.{AreCores}
use Rattle.mls_result.specs.declared.fault.FoldFault.{FoldFault}
use Rattle.mls_result.specs.declared.fault.FoldFault.TheVariants as fold
use Rattle.mls_trial.specs.Kept.{trial_states_text}

-- The summary of some cores of a study, one for each rank in order, goes out so.
pub record TrialOfCores (T : Ghosts Field) (study : Study) (number : ℕ) (lanes : List Lane) (goes : List ℕ → Type 0) : Type 0 where
  pub cores : List (RankCore Field T)
  pub are : AreCores study.sizes cores
  pub goes_out : goes (trial_states_text study number lanes cores)

-- After Ok such a summary was appended, after a failed write a front of it. After every other answer the sink is as before.
abbrev pub FoldsTrial : (T : Ghosts Field) → {A : Type 0} → Result A FoldFault → Study → ℕ → List Lane → SinkState → SinkState → Type 0
FoldsTrial T (Ok done) study number lanes old new = TrialOfCores T study number lanes (Wrote old new)
FoldsTrial T (Err fold.WriteFault) study number lanes old new = TrialOfCores T study number lanes (FailedAfter old new)
FoldsTrial T (Err fault) study number lanes old new = new ≡ old

-- the same of a sink
abbrev pub FoldsTrialTo : (T : Ghosts Field) → {A S : Type 0} → (S → Option (List ℕ)) → (S → ℕ) → (S → ℕ) → S → S → Result A FoldFault → Study → ℕ → List Lane → Type 0
FoldsTrialTo T told faults sure old new result study number lanes = FoldsTrial T result study number lanes (sink_seen told faults sure old) (sink_seen told faults sure new)
