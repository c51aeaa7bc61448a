use Rattle.std.proofs.Common.{arith, ◌≡◌, ◌++◌, ◌∙◌, ap}
use Rattle.std.specs.List.{flat_map}
use Rattle.mls_model.specs.Numbers.{below}
use Rattle.mls_design.specs.Trial.{route_of, rank_routes}
use Rattle.mls_design.proofs.Counting.{added_more}
use Rattle.mls_design.proofs.trial.routes.add_routes.Goals as goal

pub loop-client-preserved : goal.loop-client-preserved
loop-client-preserved c = added_more (route_of c.args.shape.now c.args.rank) c.loop-client.client _ _ _ c.loop-client.invariant c.in_ok-add_route.ensures

pub returns : goal.returns
unfolding rank_routes
returns c =
    let all : c.loop-client.client ≡ c.args.shape.now.clients = omega (arith, c.clients-client-end.ensures.value, c.loop-client-test.false, c.loop-client.auto.client-end) in
    c.loop-client.invariant ∙ ap (λ n. c.args.routes.now.items ++ flat_map (route_of c.args.shape.now c.args.rank) (below n)) all
