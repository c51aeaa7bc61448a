use Rattle.std.proofs.Common.{◌≡◌, ap, map, ◌∙◌, arith}
use Rattle.mls_model.specs.Numbers.{below}
use Rattle.mls_model.specs.Schedules.{plain, plain_order}
use Rattle.mls_tape.proofs.schedule.Schedule.plain.Goals as goal

pub returns : goal.returns
unfolding plain
returns c =
    let all : c.loop-rank.rank ≡ c.args.tape.now.ranks = omega (arith, c.ranks-rank-end.ensures, c.loop-rank-test.false, c.loop-rank.auto.rank-end) in
    c.loop-rank.invariant ∙ ap (λ n. map (plain_order c.args.tape.now.lanes) (below n)) all
