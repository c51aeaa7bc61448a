-- The result text and then the watch text are the server's text.
use Rattle.mls_text.proofs.Writing.{first_failed, failed_writes, writes_after}
use Rattle.mls_served.proofs.writing.put_served.Goals as goal

pub returns-in_err-write_result : goal.returns-in_err-write_result
returns-in_err-write_result g c = failed_writes _ _ _ _ _ c.from_residual.ensures.1 (first_failed _ _ _ _ c.in_err-write_result.ensures.states)

pub returns : goal.returns
returns g c = writes_after _ _ _ _ _ _ c.in_ok-write_result.ensures.states c.write.ensures
