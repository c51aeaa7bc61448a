use Rattle.std.proofs.Common.{◌≡◌, ℕ, map}
use Rattle.std.specs.Global.{Vec}
use Rattle.mls_model.specs.Numbers.{below}
use Rattle.mls_model.specs.Schedules.{plain_order}
use Rattle.mls_tape.proofs.schedule.Schedule.plain.Given as goal

abbrev pub invariant-loop-rank : goal.invariant-loop-rank
invariant-loop-rank l = map (λ (v : Vec ℕ). v.items) l.lists.items ≡ map (plain_order l.tape.lanes) (below l.rank)
