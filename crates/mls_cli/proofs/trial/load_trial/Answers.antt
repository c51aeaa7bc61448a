-- The study, and then what was made of it.
use Rattle.std.proofs.lemmas.Result.{err_from_is_err_and}
use Rattle.mls_cli.specs.Trial.{content_trial, right_trial}
use Rattle.mls_cli.proofs.InputSteps.{loads_nothing, loads_refused, loads_then}
use Rattle.mls_cli.proofs.trial.load_trial.Goals as goal

pub returns-in_err-study-clause-loads : goal.returns-in_err-study-clause-loads
unfolding right_trial
returns-in_err-study-clause-loads g c =
    let p = err_from_is_err_and c.from_residual.result c.from_residual.ensures.1 in
    rw (p.1, p.2) (loads_refused (λ s. s) _ _ (λ held. content_trial c.args.number) _ _ _ c.in_err-study.ensures)

pub returns-in_err-made-clause-loads : goal.returns-in_err-made-clause-loads
unfolding right_trial
returns-in_err-made-clause-loads g c =
    let p = err_from_is_err_and c.from_residual-in_err-made.result c.from_residual-in_err-made.ensures.1 in
    rw (p.1, p.2) (loads_then (λ s. s) _ _ (λ held. content_trial c.args.number) _ _ _ c.in_ok-study.study _ c.in_ok-study.ensures (loads_nothing _ _ _ _ c.in_err-made.ensures.right c.in_err-made.ensures.content))

pub returns-clause-loads : goal.returns-clause-loads
unfolding right_trial
returns-clause-loads g c =
    loads_then (λ s. s) _ _ (λ held. content_trial c.args.number) _ _ _ c.in_ok-study.study _ c.in_ok-study.ensures (loads_nothing _ _ _ _ c.in_ok-made.ensures.right tt)
