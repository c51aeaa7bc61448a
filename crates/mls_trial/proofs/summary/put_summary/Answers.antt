use Rattle.std.proofs.Common.{sym}
use Rattle.mls_text.proofs.Writing.{first_failed, later_failed, line_out, line_failed, line_writes, failed_writes, writes_after}
use Rattle.mls_trial.proofs.Whole.{summary-split}
use Rattle.mls_trial.proofs.summary.put_summary.Goals as goal

pub returns-in_err-put : goal.returns-in_err-put
returns-in_err-put g c =
    let text = summary-split c.args.study.now c.args.number c.args.tape.now.lanes c.args.cores.now in
    line_writes _ _ _ _ _ (sym text) (failed_writes _ _ _ _ _ c.from_residual.ensures.1 (first_failed _ _ _ _ (line_failed _ _ _ _ c.title_line.ensures c.in_err-put.ensures)))

pub returns-in_err-put_lanes : goal.returns-in_err-put_lanes
returns-in_err-put_lanes g c =
    let text = summary-split c.args.study.now c.args.number c.args.tape.now.lanes c.args.cores.now in
    let title = line_out _ _ _ _ c.title_line.ensures c.in_ok-put.ensures in
    line_writes _ _ _ _ _ (sym text) (failed_writes _ _ _ _ _ c.from_residual-in_err-put_lanes.ensures.1 (later_failed _ _ _ _ _ title (first_failed _ _ _ _ c.in_err-put_lanes.ensures)))

pub returns-in_err-write_core_ranks : goal.returns-in_err-write_core_ranks
returns-in_err-write_core_ranks g c =
    let text = summary-split c.args.study.now c.args.number c.args.tape.now.lanes c.args.cores.now in
    let title = line_out _ _ _ _ c.title_line.ensures c.in_ok-put.ensures in
    line_writes _ _ _ _ _ (sym text) (failed_writes _ _ _ _ _ c.from_residual-in_err-write_core_ranks.ensures.1 (later_failed _ _ _ _ _ title (later_failed _ _ _ _ _ c.in_ok-put_lanes.ensures (first_failed _ _ _ _ c.in_err-write_core_ranks.ensures))))

pub returns-in_err-put_groups : goal.returns-in_err-put_groups
returns-in_err-put_groups g c =
    let text = summary-split c.args.study.now c.args.number c.args.tape.now.lanes c.args.cores.now in
    let title = line_out _ _ _ _ c.title_line.ensures c.in_ok-put.ensures in
    line_writes _ _ _ _ _ (sym text) (failed_writes _ _ _ _ _ c.from_residual-in_err-put_groups.ensures.1 (later_failed _ _ _ _ _ title (later_failed _ _ _ _ _ c.in_ok-put_lanes.ensures (later_failed _ _ _ _ _ c.in_ok-write_core_ranks.ensures (first_failed _ _ _ _ c.in_err-put_groups.ensures)))))

pub returns-in_err-put_sums : goal.returns-in_err-put_sums
returns-in_err-put_sums g c =
    let text = summary-split c.args.study.now c.args.number c.args.tape.now.lanes c.args.cores.now in
    let title = line_out _ _ _ _ c.title_line.ensures c.in_ok-put.ensures in
    line_writes _ _ _ _ _ (sym text) (failed_writes _ _ _ _ _ c.from_residual-in_err-put_sums.ensures.1 (later_failed _ _ _ _ _ title (later_failed _ _ _ _ _ c.in_ok-put_lanes.ensures (later_failed _ _ _ _ _ c.in_ok-write_core_ranks.ensures (later_failed _ _ _ _ _ c.in_ok-put_groups.ensures (first_failed _ _ _ _ c.in_err-put_sums.ensures))))))

pub returns : goal.returns
returns g c =
    let text = summary-split c.args.study.now c.args.number c.args.tape.now.lanes c.args.cores.now in
    let title = line_out _ _ _ _ c.title_line.ensures c.in_ok-put.ensures in
    line_writes _ _ _ _ _ (sym text) (writes_after _ _ _ _ _ _ title (writes_after _ _ _ _ _ _ c.in_ok-put_lanes.ensures (writes_after _ _ _ _ _ _ c.in_ok-write_core_ranks.ensures (writes_after _ _ _ _ _ _ c.in_ok-put_groups.ensures (writes_after _ _ _ _ _ _ c.in_ok-put_sums.ensures c.put_end.ensures)))))
