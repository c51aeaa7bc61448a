use Rattle.std.proofs.Common.{ℕ, sym, subst, refl}
use Rattle.mls_wire.specs.declared.greeting.Greeting.{Greeting}
use Rattle.mls_serve.specs.Steps.{Moving}
use Rattle.mls_serve.specs.Lanes.{WelcomesBelow, Talking}
use Rattle.mls_serve.proofs.Connections.{greets_below, all_served, all_stopped, as_greeted}
use Rattle.mls_serve.specs.declared.opening.Opening.{Opening}
use Rattle.mls_serve.specs.Openings.{HasOpened}
use Rattle.mls_serve.proofs.Early.{all_short, early_short}
use Rattle.mls_serve.proofs.lane.serve_lane.Goals as goal

pub serve_greeted-requires-clause-known : goal.serve_greeted-requires-clause-known
serve_greeted-requires-clause-known g c =
    let o = (as_greeted c.in-Ok.opening c.in-Greeted.greeting c.args.shape.now (g.L.Link.told c.args.link.now) (g.L.Link.told c.hear_first.new.link) (g.L.Link.faults c.args.link.now) (g.L.Link.faults c.hear_first.new.link) c.hear_first.new.feeder c.in-Greeted.is c.in-Ok.ensures.opened).0 in
    let s = c.args.shape.now in
    let below = subst (λ (x : Greeting). WelcomesBelow x s.ranks) (sym o.is_greeting) (greets_below s o.frame) in
    subst (λ (n : ℕ). WelcomesBelow c.in-Greeted.greeting n) (sym c.requires.ranks) below

pub returns-in-Greeted-clause-served : goal.returns-in-Greeted-clause-served
returns-in-Greeted-clause-served g c =
    let old : Talking = record { told = g.L.Link.told c.args.link.now; faults = g.L.Link.faults c.args.link.now; posts = g.P.Post.told c.args.post.now } in
    let mid : Moving = record { told = g.L.Link.told c.hear_first.new.link; faults = g.L.Link.faults c.hear_first.new.link; posts = g.P.Post.told c.args.post.now; fed = c.hear_first.new.feeder } in
    let new : Moving = record { told = g.L.Link.told c.serve_greeted.new.link; faults = g.L.Link.faults c.serve_greeted.new.link; posts = g.P.Post.told c.serve_greeted.new.post; fed = c.serve_greeted.new.feeder } in
    let o = as_greeted c.in-Ok.opening c.in-Greeted.greeting c.args.shape.now (g.L.Link.told c.args.link.now) (g.L.Link.told c.hear_first.new.link) (g.L.Link.faults c.args.link.now) (g.L.Link.faults c.hear_first.new.link) c.hear_first.new.feeder c.in-Greeted.is c.in-Ok.ensures.opened in
    all_served c.serve_greeted.result c.in-Greeted.greeting c.args.shape.now c.args.lane old mid new o.0 o.1 refl c.serve_greeted.ensures.served

pub returns-in-Greeted-clause-stopped : goal.returns-in-Greeted-clause-stopped
returns-in-Greeted-clause-stopped g c =
    let old : Talking = record { told = g.L.Link.told c.args.link.now; faults = g.L.Link.faults c.args.link.now; posts = g.P.Post.told c.args.post.now } in
    let mid : Moving = record { told = g.L.Link.told c.hear_first.new.link; faults = g.L.Link.faults c.hear_first.new.link; posts = g.P.Post.told c.args.post.now; fed = c.hear_first.new.feeder } in
    let new : Moving = record { told = g.L.Link.told c.serve_greeted.new.link; faults = g.L.Link.faults c.serve_greeted.new.link; posts = g.P.Post.told c.serve_greeted.new.post; fed = c.serve_greeted.new.feeder } in
    let o = as_greeted c.in-Ok.opening c.in-Greeted.greeting c.args.shape.now (g.L.Link.told c.args.link.now) (g.L.Link.told c.hear_first.new.link) (g.L.Link.faults c.args.link.now) (g.L.Link.faults c.hear_first.new.link) c.hear_first.new.feeder c.in-Greeted.is c.in-Ok.ensures.opened in
    all_stopped c.serve_greeted.result c.in-Greeted.greeting c.args.shape.now c.args.lane old mid new o.0 o.1 refl c.serve_greeted.ensures.stopped

pub returns-in-Greeted-clause-short : goal.returns-in-Greeted-clause-short
returns-in-Greeted-clause-short g c =
    let mid : Moving = record { told = g.L.Link.told c.hear_first.new.link; faults = g.L.Link.faults c.hear_first.new.link; posts = g.P.Post.told c.args.post.now; fed = c.hear_first.new.feeder } in
    let new : Moving = record { told = g.L.Link.told c.serve_greeted.new.link; faults = g.L.Link.faults c.serve_greeted.new.link; posts = g.P.Post.told c.serve_greeted.new.post; fed = c.serve_greeted.new.feeder } in
    all_short c.serve_greeted.result c.in-Greeted.greeting c.args.lane c.hear_first.new.feeder.rest mid new c.serve_greeted.ensures.served

pub returns-clause-short : goal.returns-clause-short
returns-clause-short g c =
    let opened = subst (λ (x : Opening). HasOpened x c.args.shape.now (g.L.Link.told c.args.link.now) (g.L.Link.told c.hear_first.new.link) (g.L.Link.faults c.args.link.now) (g.L.Link.faults c.hear_first.new.link) c.hear_first.new.feeder) c.in-Ended.is c.in-Ok.ensures.opened in
    early_short c.in-Ended.end (g.L.Link.told c.args.link.now) (g.L.Link.told c.hear_first.new.link) (g.L.Link.faults c.args.link.now) (g.L.Link.faults c.hear_first.new.link) opened
