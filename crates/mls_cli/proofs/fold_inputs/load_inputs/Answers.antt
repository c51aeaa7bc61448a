-- The study, the tape and the schedule, one after another.
use Rattle.std.proofs.Common.{refl}
use Rattle.std.proofs.lemmas.Result.{err_from_is_err_and}
use Rattle.mls_cli.specs.Fold.{fold_over, right_inputs}
use Rattle.mls_cli.proofs.InputSteps.{loads_as, loads_refused, loads_then}
use Rattle.mls_cli.proofs.fold_inputs.load_inputs.Goals as goal

pub returns-in_err-study-clause-loads : goal.returns-in_err-study-clause-loads
unfolding right_inputs
returns-in_err-study-clause-loads g c = λ ending.
    let p = err_from_is_err_and c.from_residual.result c.from_residual.ensures.1 in
    rw (p.1, p.2) (loads_refused (λ s. s) _ _ _ _ _ _ c.in_err-study.ensures)

pub returns-in_err-tape-clause-loads : goal.returns-in_err-tape-clause-loads
unfolding right_inputs
returns-in_err-tape-clause-loads g c = λ ending.
    let p = err_from_is_err_and c.from_residual-in_err-tape.result c.from_residual-in_err-tape.ensures.1 in
    rw (p.1, p.2) (loads_then (λ s. s) _ _ _ _ _ _ c.in_ok-study.study _ c.in_ok-study.ensures (loads_refused (λ t. t.lanes) _ _ _ _ _ _ c.in_err-tape.ensures.loads))

pub returns-in_err-schedule-clause-loads : goal.returns-in_err-schedule-clause-loads
unfolding right_inputs
returns-in_err-schedule-clause-loads g c = λ ending.
    let p = err_from_is_err_and c.from_residual-in_err-schedule.result c.from_residual-in_err-schedule.ensures.1 in
    let own = rw (c.in_ok-tape.ensures.ranks) at c.in_err-schedule.ensures.loads in
    rw (p.1, p.2) (loads_then (λ s. s) _ _ _ _ _ _ c.in_ok-study.study _ c.in_ok-study.ensures (loads_then (λ t. t.lanes) _ _ _ _ _ _ c.in_ok-tape.tape _ c.in_ok-tape.ensures.loads (loads_refused (λ s. s) _ _ _ _ _ _ own)))

pub returns-clause-loads : goal.returns-clause-loads
unfolding right_inputs
returns-clause-loads g c = λ ending.
    let own = rw (c.in_ok-tape.ensures.ranks) at c.in_ok-schedule.ensures.loads in
    loads_then (λ s. s) _ _ _ _ _ _ c.in_ok-study.study _ c.in_ok-study.ensures (loads_then (λ t. t.lanes) _ _ _ _ _ _ c.in_ok-tape.tape _ c.in_ok-tape.ensures.loads (loads_as (λ s. s) _ _ (λ orders. fold_over ending c.in_ok-study.study c.in_ok-tape.tape.lanes orders) _ _ c.in_ok-schedule.schedule _ refl own))
