-- The tape of a name is that of its bytes.
use Rattle.std.proofs.lemmas.Result.{err_from_is_err_and}
use Rattle.mls_load.specs.Tapes.{content_lanes, right_lanes}
use Rattle.mls_load.proofs.InputSteps.{content_of, loads_refused}
use Rattle.mls_load.proofs.tapes.load_tape.Goals as goal

pub returns-in_err-bytes-clause-loads : goal.returns-in_err-bytes-clause-loads
unfolding right_lanes
returns-in_err-bytes-clause-loads g c =
    let p = err_from_is_err_and c.from_residual.result c.from_residual.ensures.1 in
    rw (p.1, p.2) (loads_refused _ _ _ (λ held. content_lanes c.args.study.now) _ _ _ c.in_err-bytes.ensures.loads)

pub returns-clause-loads : goal.returns-clause-loads
unfolding right_lanes
returns-clause-loads g c =
    let h = c.in_ok-bytes.ensures.loads in
    content_of _ (λ t. t.lanes) _ (content_lanes c.args.study.now) _ _ c.tape_in.result h.right h.same h.sound h.loads h.saves c.tape_in.ensures.right c.tape_in.ensures.content
