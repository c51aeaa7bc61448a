use Rattle.std.proofs.Common.{◌≡◌, [], take}
use Rattle.mls_design.specs.TrialSchedule.{stocks}
use Rattle.mls_design.specs.TrialMixing.{rests}
use Rattle.mls_design.proofs.trial.mixing.stocks.Given as goal

abbrev pub invariant-loop-lane : goal.invariant-loop-lane
invariant-loop-lane l = l.all.items ≡ rests (stocks l.rank 0 (take l.lane l.tape.lanes)) []
