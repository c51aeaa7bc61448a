use Rattle.std.proofs.Common.{◌≡◌, ◌++◌, drop}
use Rattle.mls_model.specs.Schedules.{schedule_text}
use Rattle.mls_tape.proofs.ScheduleText.{texts_from}
use Rattle.mls_tape.proofs.schedule.Schedule.put.Given as goal

abbrev pub invariant-loop-rank : goal.invariant-loop-rank
invariant-loop-rank l = l.text.items ++ texts_from l.rank (drop l.rank l.self) ≡ schedule_text l.self
