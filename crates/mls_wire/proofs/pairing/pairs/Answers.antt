use Rattle.std.proofs.Common.{arith, ◌≡◌, ◌∙◌, ap, sym, subst}
use Rattle.std.specs.List.{flat_map, AllByRecursion}
use Rattle.mls_model.specs.Numbers.{below}
use Rattle.mls_wire.specs.Sessions.{IsPair, rank_pairs, pairs_of}
use Rattle.mls_wire.proofs.Known.{pairs_known}
use Rattle.mls_wire.proofs.Counting.{lists_more}
use Rattle.mls_wire.proofs.pairing.pairs.Goals as goal

pub loop-rank-preserved : goal.loop-rank-preserved
loop-rank-preserved c = lists_more (rank_pairs c.args.shape.now) c.loop-rank.rank _ _ c.loop-rank.invariant c.in_ok-add_pairs.ensures

pub returns : goal.returns
unfolding pairs_of
returns c =
    let all : c.loop-rank.rank ≡ c.args.shape.now.ranks = omega (arith, c.ranks-rank-end.ensures.value, c.loop-rank-test.false, c.loop-rank.auto.rank-end) in
    let exact = c.loop-rank.invariant ∙ ap (λ n. flat_map (rank_pairs c.args.shape.now) (below n)) all in
    record { exact = exact; each = subst (AllByRecursion (IsPair c.args.shape.now)) (sym exact) (pairs_known c.args.shape.now) }
