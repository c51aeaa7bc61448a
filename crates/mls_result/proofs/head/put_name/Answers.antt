use Rattle.mls_text.proofs.Writing.{first_failed, line_writes, failed_writes, writes_after}
use Rattle.mls_result.proofs.head.put_name.Goals as goal

pub returns-in_err-put_field_start : goal.returns-in_err-put_field_start
returns-in_err-put_field_start g c = failed_writes _ _ _ _ _ c.from_residual.ensures.1 (first_failed _ _ _ _ c.in_err-put_field_start.ensures)

pub returns : goal.returns
returns g c = writes_after _ _ _ _ _ _ c.in_ok-put_field_start.ensures (line_writes _ _ _ _ _ c.as_bytes.ensures.value c.put_bytes.ensures)
