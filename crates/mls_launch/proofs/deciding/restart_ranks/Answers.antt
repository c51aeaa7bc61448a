use Rattle.std.proofs.Common.{◌<◌, ◌≤◌, ◌-◌, get_or, arith}
use Rattle.mls_launch.proofs.Chosen.{ranks_due_none, ranks_due_true, ranks_due_false, none_due, one_due, same_due}
use Rattle.mls_launch.proofs.deciding.restart_ranks.Goals as goal
use Rattle.mls_launch.proofs.deciding.restart_ranks.Goals.{then-saturating_sub-silence+in_ok-push, else-saturating_sub-silence}

pub loop-rank-init : goal.loop-rank-init
loop-rank-init c = none_due _ _ (ranks_due_none c.args.silence c.args.time c.args.lasts.now)

pub loop-rank-preserved : goal.loop-rank-preserved
loop-rank-preserved c = elim c.if-saturating_sub-silence.branch [
  | then-saturating_sub-silence+in_ok-push w ↦
      let due : c.args.silence < c.args.time - get_or c.args.lasts.now c.loop-rank.rank 0 = omega (arith, w.if-saturating_sub-silence.true, c.saturating_sub.ensures) in
      rw w.actions-is (one_due _ _ _ _ _ _ c.loop-rank.invariant w.in_ok-push.ensures.items (ranks_due_true c.args.silence c.args.time c.args.lasts.now c.loop-rank.rank due))
  | else-saturating_sub-silence w ↦
      let quiet : c.args.time - get_or c.args.lasts.now c.loop-rank.rank 0 ≤ c.args.silence = omega (arith, w.if-saturating_sub-silence.false, c.saturating_sub.ensures) in
      rw w.actions-is (same_due _ _ _ _ c.loop-rank.invariant (ranks_due_false c.args.silence c.args.time c.args.lasts.now c.loop-rank.rank quiet))
]
