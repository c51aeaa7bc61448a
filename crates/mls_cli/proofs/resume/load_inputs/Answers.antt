-- The study, what its ranks go on from, the tape and the schedule, one after another.
use Rattle.std.proofs.Common.{refl}
use Rattle.std.proofs.lemmas.Result.{err_from_is_err_and}
use Rattle.mls_resume.specs.Reads.{lists_of}
use Rattle.mls_cli.specs.Resume.{resumed_over, right_resume}
use Rattle.mls_cli.proofs.InputSteps.{loads_as, loads_refused, loads_then}
use Rattle.mls_cli.proofs.resume.load_inputs.Goals as goal

pub returns-in_err-study-clause-loads : goal.returns-in_err-study-clause-loads
unfolding right_resume
returns-in_err-study-clause-loads g c =
    let p = err_from_is_err_and c.from_residual.result c.from_residual.ensures.1 in
    rw (p.1, p.2) (loads_refused (λ s. s) _ _ _ _ _ _ c.in_err-study.ensures)

pub returns-in_err-openings-clause-loads : goal.returns-in_err-openings-clause-loads
unfolding right_resume
returns-in_err-openings-clause-loads g c =
    let p = err_from_is_err_and c.from_residual-in_err-openings.result c.from_residual-in_err-openings.ensures.1 in
    let own = rw (c.shape-shape.ensures) at c.in_err-openings.ensures.loads in
    rw (p.1, p.2) (loads_then (λ s. s) _ _ _ _ _ _ c.in_ok-study.study _ c.in_ok-study.ensures (loads_refused (λ l. lists_of l.items) _ _ _ _ _ _ own))

pub returns-in_err-tape-clause-loads : goal.returns-in_err-tape-clause-loads
unfolding right_resume
returns-in_err-tape-clause-loads g c =
    let p = err_from_is_err_and c.from_residual-in_err-tape.result c.from_residual-in_err-tape.ensures.1 in
    let openings = rw (c.shape-shape.ensures) at c.in_ok-openings.ensures.loads in
    rw (p.1, p.2) (loads_then (λ s. s) _ _ _ _ _ _ c.in_ok-study.study _ c.in_ok-study.ensures (loads_then (λ l. lists_of l.items) _ _ _ _ _ _ c.in_ok-openings.openings _ openings (loads_refused (λ t. t.lanes) _ _ _ _ _ _ c.in_err-tape.ensures.loads)))

pub returns-in_err-schedule-clause-loads : goal.returns-in_err-schedule-clause-loads
unfolding right_resume
returns-in_err-schedule-clause-loads g c =
    let p = err_from_is_err_and c.from_residual-in_err-schedule.result c.from_residual-in_err-schedule.ensures.1 in
    let openings = rw (c.shape-shape.ensures) at c.in_ok-openings.ensures.loads in
    let own = rw (c.in_ok-tape.ensures.ranks) at c.in_err-schedule.ensures.loads in
    rw (p.1, p.2) (loads_then (λ s. s) _ _ _ _ _ _ c.in_ok-study.study _ c.in_ok-study.ensures (loads_then (λ l. lists_of l.items) _ _ _ _ _ _ c.in_ok-openings.openings _ openings (loads_then (λ t. t.lanes) _ _ _ _ _ _ c.in_ok-tape.tape _ c.in_ok-tape.ensures.loads (loads_refused (λ s. s) _ _ _ _ _ _ own))))

pub returns-clause-loads : goal.returns-clause-loads
unfolding right_resume
returns-clause-loads g c =
    let openings = rw (c.shape-shape.ensures) at c.in_ok-openings.ensures.loads in
    let own = rw (c.in_ok-tape.ensures.ranks) at c.in_ok-schedule.ensures.loads in
    loads_then (λ s. s) _ _ _ _ _ _ c.in_ok-study.study _ c.in_ok-study.ensures (loads_then (λ l. lists_of l.items) _ _ _ _ _ _ c.in_ok-openings.openings _ openings (loads_then (λ t. t.lanes) _ _ _ _ _ _ c.in_ok-tape.tape _ c.in_ok-tape.ensures.loads (loads_as (λ s. s) _ _ (λ orders. resumed_over c.in_ok-study.study (lists_of c.in_ok-openings.openings.items) c.in_ok-tape.tape.lanes orders) _ _ c.in_ok-schedule.schedule _ refl own)))
