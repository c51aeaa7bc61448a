use Rattle.mls_text.proofs.Writing.{first_failed, failed_writes, writes_after}
use Rattle.mls_result.proofs.head.put_head.Goals as goal

pub returns-in_err-put_title : goal.returns-in_err-put_title
returns-in_err-put_title g c = failed_writes _ _ _ _ _ c.from_residual.ensures.1 (first_failed _ _ _ _ c.in_err-put_title.ensures)

pub returns : goal.returns
returns g c = writes_after _ _ _ _ _ _ c.in_ok-put_title.ensures c.put_study.ensures
