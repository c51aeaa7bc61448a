-- What is right of a watch.
use Rattle.std.specs.Prelude.{ℕ, List, Result, Ok, Err}
use Rattle.mls_base.specs.Told.{Names}
use Rattle.mls_model.specs.declared.launcher.Event.{Event}
use Rattle.mls_model.specs.WatchText.{watch_text}
use Rattle.mls_launch.specs.EventReading.{events_of}
use Rattle.mls_result.specs.declared.status.Status.{Status}
use Rattle.mls_result.specs.declared.status.Status.TheVariants as status
use Rattle.mls_result.specs.declared.status.FileRole.TheVariants as role
use Rattle.mls_cli.specs.Inputs.{◌>>=◌, limited, right_study}

-- the most bytes of an events file
abbrev pub events_limit : ℕ
events_limit = 16777216

abbrev pub events_answer : Result (List Event) ℕ → Result (List Event) Status
events_answer (Ok events) = Ok events
events_answer (Err line) = Err (status.Events line)

-- the events that bytes spell
abbrev pub content_events : List ℕ → Result (List Event) Status
content_events bytes = events_answer (events_of bytes)

-- the events of a name
unfoldable pub right_events : (events : List ℕ) → Names → Result (List Event) Status
right_events events_name held = limited role.Events events_limit (held events_name) >>= content_events

-- the text of a watch
unfoldable pub right_watch : (study events : List ℕ) → Names → Result (List ℕ) Status
right_watch study_name events_name held = do
  study ← right_study study_name held
  events ← right_events events_name held
  Ok (watch_text study.sizes events)
