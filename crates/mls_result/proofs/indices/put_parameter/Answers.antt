use Rattle.mls_text.proofs.Writing.{first_failed, later_failed, line_failed, line_out, line_writes, failed_writes, writes_after}
use Rattle.mls_result.proofs.indices.put_parameter.Goals as goal

pub returns-in_err-put_sobol_start : goal.returns-in_err-put_sobol_start
returns-in_err-put_sobol_start g c = failed_writes _ _ _ _ _ c.from_residual.ensures.1 (first_failed _ _ _ _ c.in_err-put_sobol_start.ensures)

pub returns-in_err-put_bytes : goal.returns-in_err-put_bytes
returns-in_err-put_bytes g c =
    failed_writes _ _ _ _ _ c.from_residual-in_err-put_bytes.ensures.1
    (later_failed _ _ _ _ _ c.in_ok-put_sobol_start.ensures (first_failed _ _ _ _ (line_failed _ _ _ _ c.as_bytes.ensures.value c.in_err-put_bytes.ensures)))

pub returns : goal.returns
returns g c =
    writes_after _ _ _ _ _ _ c.in_ok-put_sobol_start.ensures
    (writes_after _ _ _ _ _ _ (line_out _ _ _ _ c.as_bytes.ensures.value c.in_ok-put_bytes.ensures) (line_writes _ _ _ _ _ c.parameter_rest.ensures c.put.ensures))
