use Rattle.std.proofs.Common.{arith}
use Rattle.mls_design.proofs.TrialTapes.{within}
use Rattle.mls_design.proofs.trial.sizes.with_lane.Goals as goal

pub overflow_add-size-2 : goal.overflow_add-size-2
overflow_add-size-2 c = omega (arith, (within c.args.total c.requires.total).0, c.requires.lane_bytes)

pub overflow_add-size-3 : goal.overflow_add-size-3
overflow_add-size-3 c = omega (arith, (within c.args.total c.requires.total).1, c.requires.lane_events)
