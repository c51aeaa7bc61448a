use Rattle.std.proofs.Common.{◌≡◌, ◌++◌, drop}
use Rattle.mls_tape.proofs.Plain.{turns_from}
use Rattle.mls_design.specs.TrialSchedule.{stocks, whole_lanes}
use Rattle.mls_design.proofs.trial.mixing.add_resent.Given as goal

abbrev pub invariant-loop-lane : goal.invariant-loop-lane
invariant-loop-lane l = l.order.items ++ turns_from l.rank l.lane (drop l.lane l.tape.lanes) ≡ l.fn.order.items ++ whole_lanes (stocks l.rank l.from (drop l.from l.tape.lanes))
