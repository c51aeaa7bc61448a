use Rattle.std.proofs.lemmas.Result.{err_from_is_err_and}
use Rattle.mls_serve.specs.Steps.{Moving}
use Rattle.mls_serve.proofs.Connections.{stopped_first, stopped_between, stopped_last}
use Rattle.mls_serve.proofs.lane.serve_welcomed.Goals as goal

pub returns-in_err-tell-clause-stopped : goal.returns-in_err-tell-clause-stopped
returns-in_err-tell-clause-stopped g c =
    let old : Moving = record { told = g.L.Link.told c.args.link.now; faults = g.L.Link.faults c.args.link.now; posts = g.P.Post.told c.args.post.now; fed = c.args.feeder.now } in
    let p = err_from_is_err_and c.from_residual.result c.from_residual.ensures.1 in
    rw p.1 (stopped_first c.args.group c.args.life c.args.seat.rank c.args.seat.lane c.args.feeder.now.rest old (g.P.Post.told c.tell.new.post) c.args.feeder.now c.in_err-tell.ensures.kept)

pub returns-in_err-taken-clause-stopped : goal.returns-in_err-taken-clause-stopped
returns-in_err-taken-clause-stopped g c =
    let old : Moving = record { told = g.L.Link.told c.args.link.now; faults = g.L.Link.faults c.args.link.now; posts = g.P.Post.told c.args.post.now; fed = c.args.feeder.now } in
    let next : Moving = record { told = g.L.Link.told c.serve_frames.new.link; faults = g.L.Link.faults c.serve_frames.new.link; posts = g.P.Post.told c.serve_frames.new.post; fed = c.serve_frames.new.feeder } in
    let p = err_from_is_err_and c.from_residual-in_err-taken.result c.from_residual-in_err-taken.ensures.1 in
    rw p.1 (stopped_between c.args.group c.args.life c.args.seat.rank c.args.seat.lane c.args.feeder.now.rest old next (g.P.Post.told c.tell.new.post) c.in_ok-tell.ensures.posted c.in_err-taken.ensures.stopped)

pub returns-in_err-end_lane-clause-stopped : goal.returns-in_err-end_lane-clause-stopped
returns-in_err-end_lane-clause-stopped g c =
    let old : Moving = record { told = g.L.Link.told c.args.link.now; faults = g.L.Link.faults c.args.link.now; posts = g.P.Post.told c.args.post.now; fed = c.args.feeder.now } in
    let next : Moving = record { told = g.L.Link.told c.serve_frames.new.link; faults = g.L.Link.faults c.serve_frames.new.link; posts = g.P.Post.told c.serve_frames.new.post; fed = c.serve_frames.new.feeder } in
    let p = err_from_is_err_and c.from_residual-in_err-end_lane.result c.from_residual-in_err-end_lane.ensures.1 in
    rw p.1 (stopped_last c.args.group c.args.life c.args.seat.rank c.args.seat.lane c.in_ok-taken.taken.events c.in_ok-taken.taken.end c.args.feeder.now.rest old next (g.P.Post.told c.tell.new.post) (g.P.Post.told c.end_lane.new.post) c.in_ok-tell.ensures.posted c.in_ok-taken.ensures.served c.in_err-end_lane.ensures.part)
