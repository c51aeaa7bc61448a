use Rattle.std.proofs.Common.{◌≡◌, ◌++◌, replicate}
use Rattle.mls_tape.proofs.schedule.add_lane.Given as goal

abbrev pub invariant-loop : goal.invariant-loop
invariant-loop l = l.order.items ≡ l.fn.order.items ++ replicate l.counter l.lane
