-- What a command does besides writing a text, and what it saves.
use Rattle.std.specs.Prelude.{ℕ, List, [], Option, Some, None, Result, Ok, Err}
use Rattle.mls_result.specs.declared.status.Status.{Status}
use Rattle.mls_cli.specs.declared.words.NamePair.{NamePair}
use Rattle.mls_cli.specs.Fold.{Folded}
use Rattle.mls_model.specs.Histories.{LaneEvent}
use Rattle.mls_model.specs.Lanes.{Lane}
use Rattle.mls_model.specs.ResultText.{histories_of}
use Rattle.mls_model.specs.Studies.{Study}

-- What an export is carried out over: how many ranks the study has, and the prefix of the files' names.
pub record Exported : Type 0 where
  pub ranks : ℕ
  pub prefix : List ℕ

-- What a resume is carried out over: the study, the lists of bytes that its ranks go on from, the lanes and the schedule.
pub record Resumed : Type 0 where
  pub study : Study
  pub openings : List (List ℕ)
  pub lanes : List Lane
  pub orders : List (List ℕ)

-- the history of each rank in its run
abbrev pub resumed_histories : Resumed → ℕ → List LaneEvent
resumed_histories r = histories_of r.lanes r.orders

-- nothing, a fold, an export, or a resume
pub data Task : Type 0 where
  nothing : Task
  folding : Folded → Task
  exporting : Exported → Task
  resuming : Resumed → Task

-- the fold, the export and the resume that are asked for over such inputs, where there is one
abbrev pub fold_task : Result Folded Status → Task
fold_task (Ok f) = folding f
fold_task (Err refusal) = nothing

abbrev pub export_task : Result Exported Status → Task
export_task (Ok e) = exporting e
export_task (Err refusal) = nothing

abbrev pub resume_task : Result Resumed Status → Task
resume_task (Ok r) = resuming r
resume_task (Err refusal) = nothing

-- that a resume is carried out, or its refusal; its text is said over the histories that stood before
abbrev pub resume_text : Result Resumed Status → Result (List ℕ) Status
resume_text (Ok r) = Ok []
resume_text (Err refusal) = Err refusal

-- the text of an export, which writes none
abbrev pub export_text : Result Exported Status → Result (List ℕ) Status
export_text (Ok e) = Ok []
export_text (Err refusal) = Err refusal

-- what a command saves: nothing, the tape and the schedule that it makes, or the states that its keepers hold
pub data Saving : Type 0 where
  saves_none : Saving
  saves_made : NamePair → Saving
  saves_states : Saving

-- what is saved of a trial, which may have names
abbrev pub saving_of : Option NamePair → Saving
saving_of None = saves_none
saving_of (Some names) = saves_made names
