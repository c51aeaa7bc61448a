-- What is right: what the words ask to be sent, run or served, or their refusal, from the files that are held.
use Rattle.std.specs.Prelude.{◌≡◌, ℕ, List, Option, Some, None, Result, Ok, Err, ⊤}
use Rattle.mls_base.specs.Told.{Names}
use Rattle.mls_result.specs.declared.status.Status.{Status}
use Rattle.mls_result.specs.declared.status.Status.TheVariants as status
use Rattle.mls_result.specs.declared.status.Unbuilt.TheVariants as part
use Rattle.mls_model.specs.Studies.{Study}
use Rattle.mls_load.specs.Inputs.{◌>>=◌, not_built, right_study}
use Rattle.mls_served.specs.Serving.{Serving}
use Rattle.mls_live.specs.declared.words.Words.{Words}
use Rattle.mls_live.specs.declared.words.Words.TheVariants as words
use Rattle.mls_live.specs.Words.{words_of}
use Rattle.mls_live.specs.Group.{right_sending}
use Rattle.mls_live.specs.Running.{right_running}
use Rattle.mls_live.specs.Tasks.{Task, as_sends, as_runs, as_serves}
use Rattle.mls_live.specs.Answers.{Exactly, IsRefusal}

-- what is served for the study of a name: so many connections
abbrev pub serving_of : (connections : ℕ) → Study → Serving
serving_of connections study = record { study = study; connections = connections }

unfoldable pub right_serving : (study : List ℕ) → (connections : ℕ) → Names → Result Serving Status
right_serving study_name connections held = do
  study ← right_study study_name held
  Ok (serving_of connections study)

-- what a command asks for
abbrev pub right_command : Words → Names → Result Task Status
right_command (words.Group study group life addr) held = as_sends (right_sending study group life held)
right_command (words.Run study tape workers schedule) held = as_runs (right_running study tape schedule held)
right_command (words.Serve study addr lanes) held = as_serves (right_serving study lanes held)
right_command (words.Poll study addr lanes) held = not_built part.Command

abbrev pub command_or_usage : Option Words → Result Words Status
command_or_usage None = Err status.Usage
command_or_usage (Some command) = Ok command

-- What words ask for, or the first refusal in this order: that they are no command, that it is not built, that the study is
-- refused, then that it has no such group, or that the tape is refused.
unfoldable pub ideal : Names → List (List ℕ) → Result Task Status
ideal held words = do
  command ← command_or_usage (words_of words)
  right_command command held

-- Where the files tell what they hold, each refusal is answered exactly where it is the one that these words ask for.
abbrev pub RefusesExactly : Option Names → (words : List (List ℕ)) → (answer : Status) → Type 0
RefusesExactly told words answer = (held : Names) → told ≡ Some held → (refusal : Status) → IsRefusal refusal → Exactly (ideal held words) refusal answer

-- the words are no command that writes or calls a keeper
abbrev pub WritesNothing : Option Words → Type 0
WritesNothing (Some (words.Run study tape workers schedule)) = ⊥
WritesNothing (Some (words.Serve study addr lanes)) = ⊥
WritesNothing command = ⊤

-- the words are no command that accepts connections
abbrev pub AcceptsNothing : Option Words → Type 0
AcceptsNothing (Some (words.Serve study addr lanes)) = ⊥
AcceptsNothing command = ⊤
