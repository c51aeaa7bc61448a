use Rattle.mls_text.proofs.Writing.{first_failed, later_failed, failed_writes, writes_after}
use Rattle.mls_bins.proofs.lines.put_some_bins.Goals as goal

pub returns-in_err-put_bins_start : goal.returns-in_err-put_bins_start
returns-in_err-put_bins_start g c = failed_writes _ _ _ _ _ c.from_residual.ensures.1 (first_failed _ _ _ _ c.in_err-put_bins_start.ensures)

pub returns-in_err-put_counts : goal.returns-in_err-put_counts
returns-in_err-put_counts g c =
    failed_writes _ _ _ _ _ c.from_residual-in_err-put_counts.ensures.1
    (later_failed _ _ _ _ _ c.in_ok-put_bins_start.ensures (first_failed _ _ _ _ c.in_err-put_counts.ensures))

pub returns : goal.returns
returns g c = writes_after _ _ _ _ _ _ c.in_ok-put_bins_start.ensures (writes_after _ _ _ _ _ _ c.in_ok-put_counts.ensures c.put_line_end.ensures)
