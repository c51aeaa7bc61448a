use Rattle.mls_model.specs.declared.launcher.Timed.{Timed}
use Rattle.mls_model.specs.WatchText.{action_line, action_lines}
use Rattle.mls_text.proofs.Writing.{line_out, line_failed, texts_more, texts_failed, failed_writes}
use Rattle.mls_launch.proofs.writing.put_actions.Goals as goal

pub returns-in_err-put : goal.returns-in_err-put
unfolding action_lines
returns-in_err-put g c =
    failed_writes _ _ _ _ _ c.from_residual.ensures.1
    (texts_failed (λ (t : Timed). action_line t.time t.action) c.loop-timed.timed-index c.args.all.now _ _ _ _ _ c.loop-timed-test.true c.loop-timed.invariant (line_failed _ _ _ _ c.action_line.ensures c.in_err-put.ensures))

pub loop-timed-preserved : goal.loop-timed-preserved
loop-timed-preserved g c =
    texts_more (λ (t : Timed). action_line t.time t.action) c.loop-timed.timed-index c.args.all.now _ _ _ _ _ c.loop-timed-test.true c.loop-timed.invariant
    (line_out _ _ _ _ c.action_line.ensures c.in_ok-put.ensures)
