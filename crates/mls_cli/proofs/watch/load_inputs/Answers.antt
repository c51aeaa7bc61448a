-- The study and the events, one after the other.
use Rattle.std.proofs.Common.{refl}
use Rattle.std.proofs.lemmas.Result.{err_from_is_err_and}
use Rattle.mls_model.specs.WatchText.{watch_text}
use Rattle.mls_cli.specs.Watch.{right_watch}
use Rattle.mls_cli.proofs.InputSteps.{loads_as, loads_refused, loads_then}
use Rattle.mls_cli.proofs.watch.load_inputs.Goals as goal

pub returns-in_err-study : goal.returns-in_err-study
unfolding right_watch
returns-in_err-study g c =
    let p = err_from_is_err_and c.from_residual.result c.from_residual.ensures.1 in
    rw (p.1, p.2) (loads_refused (λ s. s) _ _ _ _ _ _ c.in_err-study.ensures)

pub returns-in_err-events : goal.returns-in_err-events
unfolding right_watch
returns-in_err-events g c =
    let p = err_from_is_err_and c.from_residual-in_err-events.result c.from_residual-in_err-events.ensures.1 in
    rw (p.1, p.2) (loads_then (λ s. s) _ _ _ _ _ _ c.in_ok-study.study _ c.in_ok-study.ensures (loads_refused (λ e. e.items) _ _ _ _ _ _ c.in_err-events.ensures))

pub returns : goal.returns
unfolding right_watch
returns g c =
    loads_then (λ s. s) _ _ _ _ _ _ c.in_ok-study.study _ c.in_ok-study.ensures (loads_as (λ e. e.items) _ _ (λ events. watch_text c.in_ok-study.study.sizes events) _ _ c.in_ok-events.events _ refl c.in_ok-events.ensures)
