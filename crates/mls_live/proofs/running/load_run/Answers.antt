-- The study and the tape, one after another.
use Rattle.std.proofs.Common.{refl}
use Rattle.std.proofs.lemmas.Result.{err_from_is_err_and}
use Rattle.mls_load.proofs.InputSteps.{loads_as, loads_refused, loads_then}
use Rattle.mls_live.specs.Running.{right_running, running_of}
use Rattle.mls_live.proofs.running.load_run.Goals as goal

pub returns-in_err-study-clause-loads : goal.returns-in_err-study-clause-loads
unfolding right_running
returns-in_err-study-clause-loads g c = λ name.
    let p = err_from_is_err_and c.from_residual.result c.from_residual.ensures.1 in
    rw (p.1, p.2) (loads_refused (λ s. s) _ _ _ _ _ _ c.in_err-study.ensures)

pub returns-in_err-tape-clause-loads : goal.returns-in_err-tape-clause-loads
unfolding right_running
returns-in_err-tape-clause-loads g c = λ name.
    let p = err_from_is_err_and c.from_residual-in_err-tape.result c.from_residual-in_err-tape.ensures.1 in
    rw (p.1, p.2) (loads_then (λ s. s) _ _ _ _ _ _ c.in_ok-study.study _ c.in_ok-study.ensures (loads_refused (λ t. t.lanes) _ _ _ _ _ _ c.in_err-tape.ensures.loads))

pub returns-clause-loads : goal.returns-clause-loads
unfolding right_running
returns-clause-loads g c = λ name.
    loads_then (λ s. s) _ _ _ _ _ _ c.in_ok-study.study _ c.in_ok-study.ensures (loads_as (λ t. t.lanes) _ _ (λ lanes. running_of c.in_ok-study.study lanes name) _ _ c.in_ok-tape.tape _ refl c.in_ok-tape.ensures.loads)
