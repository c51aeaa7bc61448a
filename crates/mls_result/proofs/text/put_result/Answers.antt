use Rattle.std.proofs.Common.{sym}
use Rattle.mls_text.proofs.Writing.{first_failed, later_failed, line_writes, failed_writes, writes_after}
use Rattle.mls_result.proofs.Whole.{text-split}
use Rattle.mls_result.proofs.text.put_result.Goals as goal

pub returns-in_err-put_head : goal.returns-in_err-put_head
returns-in_err-put_head g c =
    let text = text-split c.args.study.now c.args.cores.now c.args.lanes.now in
    line_writes _ _ _ _ _ (sym text) (failed_writes _ _ _ _ _ c.from_residual.ensures.1 (first_failed _ _ _ _ c.in_err-put_head.ensures))

pub returns-in_err-put_ranks : goal.returns-in_err-put_ranks
returns-in_err-put_ranks g c =
    let text = text-split c.args.study.now c.args.cores.now c.args.lanes.now in
    line_writes _ _ _ _ _ (sym text) (failed_writes _ _ _ _ _ c.from_residual-in_err-put_ranks.ensures.1 (later_failed _ _ _ _ _ c.in_ok-put_head.ensures (first_failed _ _ _ _ c.in_err-put_ranks.ensures)))

pub returns-in_err-put_lanes : goal.returns-in_err-put_lanes
returns-in_err-put_lanes g c =
    let text = text-split c.args.study.now c.args.cores.now c.args.lanes.now in
    line_writes _ _ _ _ _ (sym text) (failed_writes _ _ _ _ _ c.from_residual-in_err-put_lanes.ensures.1 (later_failed _ _ _ _ _ c.in_ok-put_head.ensures (later_failed _ _ _ _ _ c.in_ok-put_ranks.ensures (first_failed _ _ _ _ c.in_err-put_lanes.ensures))))

pub returns-in_err-put_steps : goal.returns-in_err-put_steps
returns-in_err-put_steps g c =
    let text = text-split c.args.study.now c.args.cores.now c.args.lanes.now in
    line_writes _ _ _ _ _ (sym text) (failed_writes _ _ _ _ _ c.from_residual-in_err-put_steps.ensures.1 (later_failed _ _ _ _ _ c.in_ok-put_head.ensures (later_failed _ _ _ _ _ c.in_ok-put_ranks.ensures (later_failed _ _ _ _ _ c.in_ok-put_lanes.ensures (first_failed _ _ _ _ c.in_err-put_steps.ensures)))))

pub returns : goal.returns
returns g c =
    let text = text-split c.args.study.now c.args.cores.now c.args.lanes.now in
    line_writes _ _ _ _ _ (sym text) (writes_after _ _ _ _ _ _ c.in_ok-put_head.ensures (writes_after _ _ _ _ _ _ c.in_ok-put_ranks.ensures (writes_after _ _ _ _ _ _ c.in_ok-put_lanes.ensures (writes_after _ _ _ _ _ _ c.in_ok-put_steps.ensures c.put_end.ensures))))
