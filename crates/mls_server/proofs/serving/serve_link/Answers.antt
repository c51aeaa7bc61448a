use Rattle.mls_serve.specs.Lanes.{talking}
use Rattle.mls_server.proofs.Connections.{line_of}
use Rattle.mls_server.proofs.serving.serve_link.Goals as goal

pub keep-requires-clause-own : goal.keep-requires-clause-own
keep-requires-clause-own g c =
    line_of c.args.shape.now g.N.Run.sizes c.args.lane c.in-Ok-Lane.field-0 c.in-Ok-Lane.line
    (talking (g.L.Link.told c.args.link.now) (g.L.Link.faults c.args.link.now) (g.P.Post.told c.args.post.now))
    (talking (g.L.Link.told c.serve_lane.new.link) (g.L.Link.faults c.serve_lane.new.link) (g.P.Post.told c.serve_lane.new.post))
    c.requires.shape c.in-Ok-Lane.field-0-is c.in-Ok-Lane.ensures.served
