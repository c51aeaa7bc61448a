use Rattle.mls_text.proofs.Writing.{first_failed, later_failed, line_writes, failed_writes, writes_after}
use Rattle.mls_launch.proofs.writing.put_watch.Goals as goal

pub returns-in_err-put_title : goal.returns-in_err-put_title
returns-in_err-put_title g c = failed_writes _ _ _ _ _ c.from_residual.ensures.1 (first_failed _ _ _ _ c.in_err-put_title.ensures)

pub returns-in_err-put_actions : goal.returns-in_err-put_actions
returns-in_err-put_actions g c =
    failed_writes _ _ _ _ _ c.from_residual-in_err-put_actions.ensures.1 (later_failed _ _ _ _ _ c.in_ok-put_title.ensures (first_failed _ _ _ _ c.in_err-put_actions.ensures))

pub returns : goal.returns
returns g c = writes_after _ _ _ _ _ _ c.in_ok-put_title.ensures (writes_after _ _ _ _ _ _ c.in_ok-put_actions.ensures (line_writes _ _ _ _ _ c.end_line.ensures c.put.ensures))
