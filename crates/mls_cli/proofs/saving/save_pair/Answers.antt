-- The tape, and then the schedule.
use Rattle.std.proofs.lemmas.Result.{err_from_is_err_and}
use Rattle.mls_cli.proofs.SaveSteps.{schedule_after, tape_unsaved}
use Rattle.mls_cli.proofs.saving.save_pair.Goals as goal

pub returns-in_err-save : goal.returns-in_err-save
returns-in_err-save g c =
    let p = err_from_is_err_and c.from_residual.result c.from_residual.ensures.1 in
    rw (p.1, p.2) (tape_unsaved c.args.names.now _ _ _ _ _ _ _ _ _ _ _ c.in_err-save.field-0.0 c.as_str.ensures c.in_err-save.ensures.held c.in_err-save.ensures.surely c.in_err-save.ensures.saves)

pub returns : goal.returns
returns g c =
    schedule_after c.args.names.now _ _ _ _ _ _ _ _ _ _ _ _ _ _ _ c.save-2.result c.as_str.ensures c.as_str-2.ensures c.in_ok-save.ensures.saved c.save.ensures.sound c.in_ok-save.ensures.saves c.save-2.ensures.saved c.save-2.ensures.held c.save-2.ensures.surely c.save-2.ensures.saves
