use Rattle.mls_text.proofs.Writing.{first_failed, later_failed, line_out, line_failed, line_writes, failed_writes, writes_after}
use Rattle.mls_result.proofs.Splits.{step_line-split}
use Rattle.mls_result.proofs.head.put_step.Goals as goal

pub returns-in_err-put : goal.returns-in_err-put
returns-in_err-put g c = rw (step_line-split c.args.study.now c.args.step c.args.field c.args.cell c.args.groups)
    (failed_writes _ _ _ _ _ c.from_residual.ensures.1 (first_failed _ _ _ _ (line_failed _ _ _ _ c.step_start.ensures c.in_err-put.ensures)))

pub returns-in_err-put_field : goal.returns-in_err-put_field
returns-in_err-put_field g c = rw (step_line-split c.args.study.now c.args.step c.args.field c.args.cell c.args.groups)
    (failed_writes _ _ _ _ _ c.from_residual-in_err-put_field.ensures.1
    (later_failed _ _ _ _ _ (line_out _ _ _ _ c.step_start.ensures c.in_ok-put.ensures) (first_failed _ _ _ _ c.in_err-put_field.ensures)))

pub returns : goal.returns
returns g c = rw (step_line-split c.args.study.now c.args.step c.args.field c.args.cell c.args.groups)
    (writes_after _ _ _ _ _ _ (line_out _ _ _ _ c.step_start.ensures c.in_ok-put.ensures)
    (writes_after _ _ _ _ _ _ c.in_ok-put_field.ensures (line_writes _ _ _ _ _ c.cell_words.ensures c.put-2.ensures)))
