use Rattle.std.proofs.Common.{◌≡◌, ◌++◌, take}
use Rattle.std.specs.List.{flat_map}
use Rattle.mls_model.specs.Schedules.{schedule_line}
use Rattle.mls_tape.proofs.lines.add_order.Given as goal

abbrev pub invariant-loop-lane : goal.invariant-loop-lane
invariant-loop-lane l = l.text.items ≡ l.fn.text.items ++ flat_map (schedule_line l.rank) (take l.lane-index l.order)
