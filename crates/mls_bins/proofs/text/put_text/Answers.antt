use Rattle.mls_text.proofs.Writing.{first_failed, later_failed, line_writes, failed_writes, writes_after}
use Rattle.mls_bins.proofs.Whole.{text-split}
use Rattle.mls_bins.proofs.text.put_text.Goals as goal

pub returns-in_err-put_title : goal.returns-in_err-put_title
returns-in_err-put_title g c =
    let text = text-split c.args.study.now c.args.cores.now c.args.counts.now c.args.lanes.now c.requires.counts in
    line_writes _ _ _ _ _ text (failed_writes _ _ _ _ _ c.from_residual.ensures.1 (first_failed _ _ _ _ c.in_err-put_title.ensures))

pub returns-in_err-put_study : goal.returns-in_err-put_study
returns-in_err-put_study g c =
    let text = text-split c.args.study.now c.args.cores.now c.args.counts.now c.args.lanes.now c.requires.counts in
    line_writes _ _ _ _ _ text (failed_writes _ _ _ _ _ c.from_residual-in_err-put_study.ensures.1 (later_failed _ _ _ _ _ c.in_ok-put_title.ensures (first_failed _ _ _ _ c.in_err-put_study.ensures)))

pub returns-in_err-write_ranks : goal.returns-in_err-write_ranks
returns-in_err-write_ranks g c =
    let text = text-split c.args.study.now c.args.cores.now c.args.counts.now c.args.lanes.now c.requires.counts in
    line_writes _ _ _ _ _ text (failed_writes _ _ _ _ _ c.from_residual-in_err-write_ranks.ensures.1 (later_failed _ _ _ _ _ c.in_ok-put_title.ensures (later_failed _ _ _ _ _ c.in_ok-put_study.ensures (first_failed _ _ _ _ c.in_err-write_ranks.ensures))))

pub returns-in_err-put_steps : goal.returns-in_err-put_steps
returns-in_err-put_steps g c =
    let text = text-split c.args.study.now c.args.cores.now c.args.counts.now c.args.lanes.now c.requires.counts in
    line_writes _ _ _ _ _ text (failed_writes _ _ _ _ _ c.from_residual-in_err-put_steps.ensures.1 (later_failed _ _ _ _ _ c.in_ok-put_title.ensures (later_failed _ _ _ _ _ c.in_ok-put_study.ensures (later_failed _ _ _ _ _ c.in_ok-write_ranks.ensures (first_failed _ _ _ _ c.in_err-put_steps.ensures)))))

pub returns : goal.returns
returns g c =
    let text = text-split c.args.study.now c.args.cores.now c.args.counts.now c.args.lanes.now c.requires.counts in
    line_writes _ _ _ _ _ text (writes_after _ _ _ _ _ _ c.in_ok-put_title.ensures (writes_after _ _ _ _ _ _ c.in_ok-put_study.ensures (writes_after _ _ _ _ _ _ c.in_ok-write_ranks.ensures (writes_after _ _ _ _ _ _ c.in_ok-put_steps.ensures c.put_end.ensures))))
