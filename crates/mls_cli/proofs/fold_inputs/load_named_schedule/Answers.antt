-- The schedule of a name is that of its bytes.
use Rattle.std.proofs.Common.{sym}
use Rattle.std.proofs.lemmas.Result.{err_from_is_err_and}
use Rattle.mls_cli.specs.Fold.{content_schedule}
use Rattle.mls_cli.proofs.InputSteps.{content_of, loads_refused}
use Rattle.mls_cli.proofs.fold_inputs.load_named_schedule.Goals as goal

pub returns-in_err-bytes-clause-loads : goal.returns-in_err-bytes-clause-loads
returns-in_err-bytes-clause-loads g c =
    let p = err_from_is_err_and c.from_residual.result c.from_residual.ensures.1 in
    rw (p.1, p.2) (loads_refused _ _ _ (λ held. content_schedule c.args.tape.now.ranks c.args.tape.now.lanes) _ _ _ c.in_err-bytes.ensures.loads)

pub returns-clause-loads : goal.returns-clause-loads
returns-clause-loads g c =
    let h = c.in_ok-bytes.ensures.loads in
    content_of _ (λ s. s) _ (content_schedule c.args.tape.now.ranks c.args.tape.now.lanes) _ _ c.schedule_in.result h.right h.same h.sound h.loads h.saves (rw (sym c.as_slice.ensures.value) c.schedule_in.ensures.right) c.schedule_in.ensures.content
