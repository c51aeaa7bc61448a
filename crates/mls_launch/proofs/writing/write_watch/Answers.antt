use Rattle.mls_text.proofs.Writing.{line_out, line_failed}
use Rattle.mls_launch.proofs.writing.write_watch.Goals as goal

pub returns-in-Ok : goal.returns-in-Ok
returns-in-Ok g c = line_out _ _ _ _ c.in_ok-report.ensures c.in-Ok.ensures

pub returns : goal.returns
returns g c = line_failed _ _ _ _ c.in_ok-report.ensures c.in-Err.ensures
