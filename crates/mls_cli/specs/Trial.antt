-- What is right of a trial.
use Rattle.std.specs.Prelude.{ℕ, cond, List, map, Result, Ok, Err}
use Rattle.mls_base.specs.Told.{Names}
use Rattle.mls_model.specs.Studies.{Study}
use Rattle.mls_model.specs.Lanes.{tape_bytes}
use Rattle.mls_model.specs.Schedules.{schedule_text}
use Rattle.mls_design.specs.Trial.{trial_lanes, spelled, version_of}
use Rattle.mls_design.specs.TrialSchedule.{trial_orders}
use Rattle.mls_design.specs.TrialSizes.{is_too_large}
use Rattle.mls_result.specs.declared.status.Status.{Status}
use Rattle.mls_result.specs.declared.status.Status.TheVariants as status
use Rattle.mls_cli.specs.Inputs.{◌>>=◌, right_study}
use Rattle.mls_cli.specs.Fold.{Folded, fold_over, summary}

-- what a number makes of a study: the made lanes under the made schedule, or that the tape would be too large
abbrev pub made_trial : ℕ → Study → Folded
made_trial number study = fold_over (summary number) study (trial_lanes study number) (trial_orders study number)

abbrev pub content_trial : ℕ → Study → Result Folded Status
content_trial number study = cond (is_too_large study number) (Err status.TooLarge) (Ok (made_trial number study))

-- what a trial of a study's name and a number is carried out over
unfoldable pub right_trial : (study : List ℕ) (number : ℕ) → Names → Result Folded Status
right_trial study_name number held = right_study study_name held >>= content_trial number

-- the bytes of the tape that has a fold's lanes, each clean, and of its schedule
abbrev pub folded_tape : Folded → List ℕ
folded_tape f = tape_bytes f.study.sizes.signed (version_of f.study.sizes.signed) (map spelled f.lanes)

abbrev pub folded_schedule : Folded → List ℕ
folded_schedule f = schedule_text f.orders
