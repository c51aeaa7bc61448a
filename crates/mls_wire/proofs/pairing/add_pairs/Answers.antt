use Rattle.std.proofs.Common.{arith, ◌≡◌, ◌++◌, ◌∙◌, ap}
use Rattle.std.specs.List.{flat_map}
use Rattle.mls_model.specs.Numbers.{below}
use Rattle.mls_wire.specs.Sessions.{pair_of, rank_pairs}
use Rattle.mls_wire.proofs.Counting.{added_more}
use Rattle.mls_wire.proofs.pairing.add_pairs.Goals as goal

pub loop-client-preserved : goal.loop-client-preserved
loop-client-preserved c = added_more (pair_of c.args.shape.now c.args.rank) c.loop-client.client _ _ _ c.loop-client.invariant c.in_ok-add_pair.ensures

pub returns : goal.returns
unfolding rank_pairs
returns c =
    let all : c.loop-client.client ≡ c.args.shape.now.clients = omega (arith, c.clients-client-end.ensures.value, c.loop-client-test.false, c.loop-client.auto.client-end) in
    c.loop-client.invariant ∙ ap (λ n. c.args.pairs.now.items ++ flat_map (pair_of c.args.shape.now c.args.rank) (below n)) all
