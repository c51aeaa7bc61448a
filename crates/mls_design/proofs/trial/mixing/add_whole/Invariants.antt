use Rattle.std.proofs.Common.{◌≡◌, ◌++◌, replicate}
use Rattle.mls_design.proofs.trial.mixing.add_whole.Given as goal

abbrev pub invariant-loop : goal.invariant-loop
invariant-loop l = l.order.items ≡ l.fn.order.items ++ replicate l.counter l.stock.lane
