use Rattle.std.proofs.Common.{eqb, sym, ap, ◌∙◌, arith}
use Rattle.std.proofs.lemmas.Bool.{le-ltb}
use Rattle.mls_tape.proofs.Entries.{lane_there, lane_of_rank, no_lane}
use Rattle.mls_tape.proofs.tape.RefTapeLanes.belongs.Goals as goal

pub returns-then-lane-lane_count : goal.returns-then-lane-lane_count
returns-then-lane-lane_count c =
    let lanes = c.args.self.now.now.lanes in
    let there = lane_there lanes c.args.lane (omega (arith, c.if-lane-lane_count.true, c.lane_count.ensures)) in
    ap (λ n. eqb n c.args.rank) (c.lane_rank.ensures there.0 there.1) ∙ sym (lane_of_rank lanes c.args.rank c.args.lane there.0 there.1)

pub returns-else-lane-lane_count : goal.returns-else-lane-lane_count
returns-else-lane-lane_count c =
    let lanes = c.args.self.now.now.lanes in
    le-ltb _ _ c.if-lane-lane_count.false ∙ sym (no_lane lanes c.args.rank c.args.lane (omega (arith, c.if-lane-lane_count.false, c.lane_count.ensures)))
