-- What is right of a fold.
use Rattle.std.specs.Prelude.{ℕ, List, Option, Some, None, Result, Ok, Err}
use Rattle.mls_base.specs.Told.{Names}
use Rattle.mls_model.specs.Studies.{Study}
use Rattle.mls_model.specs.Lanes.{Lane, TapeRefusal, tape_of}
use Rattle.mls_model.specs.Schedules.{plain}
use Rattle.mls_model.specs.Histories.{LaneEvent}
use Rattle.mls_model.specs.ResultText.{histories_of, result_text}
use Rattle.mls_hist.specs.BinsText.{bins_text}
use Rattle.mls_design.specs.TrialText.{trial_summary}
use Rattle.mls_tape.specs.ScheduleReading.{LineRefusal, longest_schedule, schedule_of}
use Rattle.mls_tape.specs.Tapes.{longest_tape}
use Rattle.mls_result.specs.declared.fault.FoldFault.{FoldFault}
use Rattle.mls_result.specs.declared.fault.FoldFault.TheVariants as fold
use Rattle.mls_result.specs.declared.status.Status.{Status}
use Rattle.mls_result.specs.declared.status.Status.TheVariants as status
use Rattle.mls_result.specs.declared.status.FileRole.TheVariants as role
use Rattle.mls_cli.specs.Inputs.{◌>>=◌, limited, right_study}

abbrev pub tape_answer : Result (List Lane) TapeRefusal → Result (List Lane) Status
tape_answer (Ok lanes) = Ok lanes
tape_answer (Err refusal) = Err (status.Tape refusal.at refusal.why)

abbrev pub schedule_answer : Result (List (List ℕ)) LineRefusal → Result (List (List ℕ)) Status
schedule_answer (Ok orders) = Ok orders
schedule_answer (Err refusal) = Err (status.Schedule refusal.line refusal.why)

-- the lanes that bytes spell under a study
abbrev pub content_lanes : Study → List ℕ → Result (List Lane) Status
content_lanes study bytes = tape_answer (tape_of study.sizes.ranks study.sizes.signed bytes)

-- the lists of the legal schedule of such ranks and lanes that bytes spell
abbrev pub content_schedule : ℕ → List Lane → List ℕ → Result (List (List ℕ)) Status
content_schedule ranks lanes bytes = schedule_answer (schedule_of ranks lanes bytes)

-- the lanes of a name
unfoldable pub right_lanes : Study → (tape : List ℕ) → Names → Result (List Lane) Status
right_lanes study tape_name held = limited role.Tape longest_tape (held tape_name) >>= content_lanes study

-- the lists of the schedule of a name, or of the plain one where there is no name
abbrev pub right_orders : (ranks : ℕ) → List Lane → (schedule : Option (List ℕ)) → Names → Result (List (List ℕ)) Status
right_orders ranks lanes None held = Ok (plain ranks lanes)
right_orders ranks lanes (Some schedule_name) held = limited role.Schedule longest_schedule (held schedule_name) >>= content_schedule ranks lanes

-- what a fold writes in the end: the result text, the bins text over histograms, or the summary of the trial of a number
pub data Ending : Type 0 where
  results : Ending
  histograms : Ending
  summary : ℕ → Ending

-- its text of a study, the lanes of a tape and a schedule
abbrev pub ending_text : Ending → Study → List Lane → List (List ℕ) → List ℕ
ending_text results study lanes orders = result_text study lanes orders
ending_text histograms study lanes orders = bins_text study lanes orders
ending_text (summary number) study lanes orders = trial_summary study number lanes orders

-- What a fold is carried out over, and how it ends.
pub record Folded : Type 0 where
  pub ending : Ending
  pub study : Study
  pub lanes : List Lane
  pub orders : List (List ℕ)

abbrev pub fold_over : Ending → Study → List Lane → (orders : List (List ℕ)) → Folded
fold_over ending study lanes orders = record { ending = ending; study = study; lanes = lanes; orders = orders }

-- the history of each rank in it, and its text
abbrev pub folded_histories : Folded → ℕ → List LaneEvent
folded_histories f = histories_of f.lanes f.orders

abbrev pub folded_text : Folded → List ℕ
folded_text f = ending_text f.ending f.study f.lanes f.orders

-- what a fold of these names is carried out over that ends so
unfoldable pub right_inputs : Ending → (study tape : List ℕ) (schedule : Option (List ℕ)) → Names → Result Folded Status
right_inputs ending study_name tape_name schedule_name held = do
  study ← right_study study_name held
  lanes ← right_lanes study tape_name held
  orders ← right_orders study.sizes.ranks lanes schedule_name held
  Ok (fold_over ending study lanes orders)

-- the text that is asked for over such inputs, and the fold, where there is one
abbrev pub asked_text : Result Folded Status → Result (List ℕ) Status
asked_text (Ok f) = Ok (folded_text f)
asked_text (Err refusal) = Err refusal

abbrev pub asked_fold : Result Folded Status → Option Folded
asked_fold (Ok f) = Some f
asked_fold (Err refusal) = None

-- the text of a fold of these names
abbrev pub right_fold : Ending → (study tape : List ℕ) (schedule : Option (List ℕ)) → Names → Result (List ℕ) Status
right_fold ending study_name tape_name schedule_name held = asked_text (right_inputs ending study_name tape_name schedule_name held)

-- what is answered after a fold
abbrev pub fold_status : {A : Type 0} → Result A FoldFault → Status
fold_status (Ok done) = status.Done
fold_status (Err (fold.KeeperFault rank)) = status.KeeperFault rank
fold_status (Err (fold.CheckpointBad rank at why)) = status.CheckpointBad rank at why
fold_status (Err fold.WriteFault) = status.WriteFault
fold_status (Err fold.Memory) = status.Memory
