use Rattle.mls_model.specs.SumsText.{sums_statistics}
use Rattle.mls_text.proofs.Writing.{first_failed, later_failed, failed_writes, writes_after}
use Rattle.mls_result.proofs.cells.put_statistics.Goals as goal

pub returns-in_err-put_power : goal.returns-in_err-put_power
unfolding sums_statistics
returns-in_err-put_power g c = failed_writes _ _ _ _ _ c.from_residual.ensures.1 (first_failed _ _ _ _ c.in_err-put_power.ensures)

pub returns-in_err-put_extrema : goal.returns-in_err-put_extrema
unfolding sums_statistics
returns-in_err-put_extrema g c = failed_writes _ _ _ _ _ c.from_residual-in_err-put_extrema.ensures.1 (later_failed _ _ _ _ _ c.in_ok-put_power.ensures (first_failed _ _ _ _ c.in_err-put_extrema.ensures))

pub returns-in_err-put_exceed : goal.returns-in_err-put_exceed
unfolding sums_statistics
returns-in_err-put_exceed g c = failed_writes _ _ _ _ _ c.from_residual-in_err-put_exceed.ensures.1 (later_failed _ _ _ _ _ c.in_ok-put_power.ensures (later_failed _ _ _ _ _ c.in_ok-put_extrema.ensures (first_failed _ _ _ _ c.in_err-put_exceed.ensures)))

pub returns : goal.returns
unfolding sums_statistics
returns g c = writes_after _ _ _ _ _ _ c.in_ok-put_power.ensures (writes_after _ _ _ _ _ _ c.in_ok-put_extrema.ensures (writes_after _ _ _ _ _ _ c.in_ok-put_exceed.ensures c.put_indices.ensures))
