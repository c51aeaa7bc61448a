use Rattle.std.proofs.Common.{◌≡◌, ◌++◌, drop}
use Rattle.mls_model.specs.Schedules.{plain_order}
use Rattle.mls_tape.proofs.Plain.{turns_from}
use Rattle.mls_tape.proofs.schedule.plain_order.Given as goal

abbrev pub invariant-loop-lane : goal.invariant-loop-lane
invariant-loop-lane l = l.order.items ++ turns_from l.rank l.lane (drop l.lane l.tape.lanes) ≡ plain_order l.tape.lanes l.rank
