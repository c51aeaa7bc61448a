-- The events of a name are those of its bytes.
use Rattle.std.proofs.Common.{sym}
use Rattle.std.proofs.lemmas.Result.{err_from_is_err_and}
use Rattle.mls_cli.specs.Watch.{content_events, right_events}
use Rattle.mls_cli.proofs.InputSteps.{content_of, loads_refused}
use Rattle.mls_cli.proofs.watch.load_events.Goals as goal

pub returns-in_err-bytes : goal.returns-in_err-bytes
unfolding right_events
returns-in_err-bytes g c =
    let p = err_from_is_err_and c.from_residual.result c.from_residual.ensures.1 in
    rw (p.1, p.2) (loads_refused _ _ _ (λ held. content_events) _ _ _ c.in_err-bytes.ensures.loads)

pub returns : goal.returns
unfolding right_events
returns g c =
    let h = c.in_ok-bytes.ensures.loads in
    content_of _ (λ e. e.items) _ content_events _ _ c.events_in.result h.right h.same h.sound h.loads h.saves (rw (sym c.as_slice.ensures.value) c.events_in.ensures.right) c.events_in.ensures.content
