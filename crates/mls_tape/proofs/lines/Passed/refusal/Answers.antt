use Rattle.std.proofs.Common.{◌<◌, length, sym, ◌∙◌, arith}
use Rattle.mls_tape.proofs.Entries.{no_lane}
use Rattle.mls_tape.proofs.Passing.{any_default, own_lane, other_lane, rank_refused, lane_refused, count_refused, not_refused}
use Rattle.mls_tape.proofs.lines.Passed.refusal.Goals as goal
use Rattle.mls_tape.proofs.lines.Passed.refusal.Goals.{then-lane-lane_count-via-then-lane-lane_count, then-lane-lane_count-via-else-lane-lane_count+then-lane_rank-rank}

pub returns-then-rank-ranks-clause-exact : goal.returns-then-rank-ranks-clause-exact
returns-then-rank-ranks-clause-exact c = λ lines stands. sym (rank_refused c.args.tape.now.ranks c.args.tape.now.lanes lines c.args.rank c.args.lane (omega (arith, c.if-rank-ranks.true, c.ranks.ensures)))

pub returns-then-lane-lane_count-clause-exact : goal.returns-then-lane-lane_count-clause-exact
returns-then-lane-lane_count-clause-exact c = λ lines stands.
    let lanes = c.args.tape.now.lanes in
    let few : c.args.rank < c.args.tape.now.ranks = omega (arith, c.if-rank-ranks.false, c.ranks.ensures) in
    sym (lane_refused c.args.tape.now.ranks lanes lines c.args.rank c.args.lane few (elim c.then-lane-lane_count.branch [
      | then-lane-lane_count-via-then-lane-lane_count w ↦ no_lane lanes c.args.rank c.args.lane (omega (arith, w.if-lane-lane_count.true, c.lane_count.ensures))
      | then-lane-lane_count-via-else-lane-lane_count+then-lane_rank-rank w ↦ other_lane lanes c.args.rank c.args.lane w.lane_rank.result (omega (arith, w.if-lane-lane_count.false, c.lane_count.ensures)) w.lane_rank.ensures w.if-lane_rank-rank.true
    ]))

pub returns-then-index-events-clause-exact : goal.returns-then-index-events-clause-exact
returns-then-index-events-clause-exact c = λ lines stands.
    let lanes = c.args.tape.now.lanes in
    let few : c.args.rank < c.args.tape.now.ranks = omega (arith, c.if-rank-ranks.false, c.ranks.ensures) in
    let within : c.args.lane < length lanes = omega (arith, c.if-lane-lane_count.false, c.lane_count.ensures) in
    let count = c.index.ensures ∙ any_default c.args.self.now.counts.items c.args.lane c.index.result.now 0 (omega (arith, within, c.requires)) in
    sym (count_refused c.args.tape.now.ranks lanes lines c.args.rank c.args.lane few
    (own_lane lanes c.args.rank c.args.lane c.lane_rank.result within c.lane_rank.ensures c.if-lane_rank-rank.false)
    (omega (arith, c.if-index-events.true, c.events.ensures, count, stands.each c.args.lane within)))

pub returns-clause-exact : goal.returns-clause-exact
returns-clause-exact c = λ lines stands.
    let lanes = c.args.tape.now.lanes in
    let few : c.args.rank < c.args.tape.now.ranks = omega (arith, c.if-rank-ranks.false, c.ranks.ensures) in
    let within : c.args.lane < length lanes = omega (arith, c.if-lane-lane_count.false, c.lane_count.ensures) in
    let count = c.index.ensures ∙ any_default c.args.self.now.counts.items c.args.lane c.index.result.now 0 (omega (arith, within, c.requires)) in
    sym (not_refused c.args.tape.now.ranks lanes lines c.args.rank c.args.lane few
    (own_lane lanes c.args.rank c.args.lane c.lane_rank.result within c.lane_rank.ensures c.if-lane_rank-rank.false)
    (omega (arith, c.if-index-events.false, c.events.ensures, count, stands.each c.args.lane within)))
