-- What is right: the text that words ask for, or their refusal, from the files that are held.
use Rattle.std.specs.Prelude.{◌≡◌, ℕ, List, Option, Some, None, Result, Ok, Err}
use Rattle.mls_base.specs.Told.{Names}
use Rattle.mls_result.specs.declared.status.Status.{Status}
use Rattle.mls_result.specs.declared.status.Status.TheVariants as status
use Rattle.mls_cli.specs.declared.words.Words.{Words}
use Rattle.mls_cli.specs.declared.words.Words.TheVariants as words
use Rattle.mls_cli.specs.Words.{words_of}
use Rattle.mls_cli.specs.Inputs.{◌>>=◌}
use Rattle.mls_cli.specs.Fold.{results, histograms, asked_text, right_inputs, right_fold}
use Rattle.mls_cli.specs.Tasks.{Task, nothing, fold_task, export_task, export_text, resume_task, resume_text, Saving, saves_none, saves_states, saving_of}
use Rattle.mls_cli.specs.Export.{right_export}
use Rattle.mls_cli.specs.Resume.{right_resume}
use Rattle.mls_cli.specs.Trial.{right_trial}
use Rattle.mls_cli.specs.Watch.{right_watch}
use Rattle.mls_cli.specs.Design.{right_design}
use Rattle.mls_cli.specs.Answers.{Exactly, IsAnswered, IsRefusal}

-- what a command asks for
abbrev pub right_command : Words → Names → Result (List ℕ) Status
right_command (words.Fold study tape schedule) held = right_fold results study tape schedule held
right_command (words.Watch study events) held = right_watch study events held
right_command (words.Design study) held = right_design study held
right_command (words.Trial study number saved) held = asked_text (right_trial study number held)
right_command (words.Bins study tape schedule) held = right_fold histograms study tape schedule held
right_command (words.Export study prefix) held = export_text (right_export study prefix held)
right_command (words.Resume study old prefix tape schedule) held = resume_text (right_resume study old prefix tape schedule held)

-- what a command folds, exports or resumes, where its inputs are right
abbrev pub command_task : Words → Names → Task
command_task (words.Fold study tape schedule) held = fold_task (right_inputs results study tape schedule held)
command_task (words.Bins study tape schedule) held = fold_task (right_inputs histograms study tape schedule held)
command_task (words.Trial study number saved) held = fold_task (right_trial study number held)
command_task (words.Export study prefix) held = export_task (right_export study prefix held)
command_task (words.Resume study old prefix tape schedule) held = resume_task (right_resume study old prefix tape schedule held)
command_task command held = nothing

-- what a command saves: a trial with names the tape and the schedule that it makes, an export the states that its keepers hold
abbrev pub command_saves : Words → Saving
command_saves (words.Trial study number saved) = saving_of saved
command_saves (words.Export study prefix) = saves_states
command_saves command = saves_none

abbrev pub command_or_usage : Option Words → Result Words Status
command_or_usage None = Err status.Usage
command_or_usage (Some command) = Ok command

-- What words ask for: the text, or the first refusal in this order: that they are no command, that the study, then what a resume goes
-- on from, then the tape or the events are refused, the made tape is too large, then that the schedule is refused.
unfoldable pub ideal : Names → List (List ℕ) → Result (List ℕ) Status
ideal held words = do
  command ← command_or_usage (words_of words)
  right_command command held

abbrev pub task_or_nothing : Option Words → Names → Task
task_or_nothing None held = nothing
task_or_nothing (Some command) held = command_task command held

-- what the words fold, export or resume, where their inputs are right
unfoldable pub task_of : Names → List (List ℕ) → Task
task_of held words = task_or_nothing (words_of words) held

abbrev pub saving_or_none : Option Words → Saving
saving_or_none None = saves_none
saving_or_none (Some command) = command_saves command

-- what the words save
unfoldable pub saves_of : List (List ℕ) → Saving
saves_of words = saving_or_none (words_of words)

-- Where the files tell what they hold, each refusal is answered where it is the one that these words ask for, but that memory may be
-- wanting or a read may fail before. But for a bad checkpoint, which a crash may meet too, it is answered only there.
pub record RefusesAsked (right : Result (List ℕ) Status) (answer : Status) : Type 0 where
  pub exact : (refusal : Status) → IsRefusal refusal → Exactly right refusal answer
  pub wherever : (refusal : Status) → right ≡ Err refusal → IsAnswered refusal answer

abbrev pub RefusesExactly : Option Names → (words : List (List ℕ)) → (answer : Status) → Type 0
RefusesExactly told words answer = (held : Names) → told ≡ Some held → RefusesAsked (ideal held words) answer
