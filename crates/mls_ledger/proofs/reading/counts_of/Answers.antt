use Rattle.std.proofs.Common.{◌/◌, ◌+◌}
use Rattle.mls_ledger.proofs.TakingMarks.{counts_go_on, enough, left_long}
use Rattle.mls_ledger.proofs.reading.counts_of.Goals as goal

pub split_at-requires : goal.split_at-requires
split_at-requires c = enough ((c.args.groups + 7) / 8) c.args.planes c.loop-plane._plane _ c.loop-plane-test.true c.loop-plane.invariant.1

pub loop-plane-preserved : goal.loop-plane-preserved
loop-plane-preserved c = (
  counts_go_on c.args.groups c.args.planes c.loop-plane._plane c.count_row.result c.loop-plane.counts.items c.push.new.self.items c.loop-plane.rest.now c.split_at.result.0.now c.split_at.result.1.now _
      c.loop-plane-test.true c.split_at.ensures.front c.split_at.ensures.back c.count_row.ensures c.in_ok-push.ensures.items c.loop-plane.invariant.0,
  left_long ((c.args.groups + 7) / 8) c.args.planes c.loop-plane._plane c.loop-plane.rest.now c.split_at.result.1.now c.loop-plane-test.true c.loop-plane.invariant.1 c.split_at.ensures.back,
)
