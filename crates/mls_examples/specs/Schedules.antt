-- Texts as schedules of the lane of two groups.
use Rattle.std.specs.Prelude.{ℕ, List, [], ◌∷◌, Result, Err}
use Rattle.mls_model.specs.declared.lanes.SchedWhy.{SchedWhy}
use Rattle.mls_tape.specs.ScheduleReading.{LineRefusal, schedule_of}
use Rattle.mls_examples.specs.Small.{client_lane}
use Rattle.mls_examples.specs.Lanes.{two_groups_frames}

-- what a text is as a schedule for so many ranks
abbrev pub read_by : ℕ → List ℕ → Result (List (List ℕ)) LineRefusal
read_by ranks text = schedule_of ranks (client_lane two_groups_frames ∷ []) text

abbrev pub refused_line : ℕ → SchedWhy → Result (List (List ℕ)) LineRefusal
refused_line line why = Err (record { line = line; why = why })
