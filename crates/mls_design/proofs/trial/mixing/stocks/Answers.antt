use Rattle.std.proofs.Common.{◌≡◌, ◌++◌, [], take, sym, ap, ◌∙◌, arith}
use Rattle.std.proofs.lemmas.List.{append-nil}
use Rattle.mls_design.specs.TrialSchedule.{stocks}
use Rattle.mls_design.specs.TrialMixing.{rest_by, rests}
use Rattle.mls_tape.proofs.Entries.{lane_there, count_of}
use Rattle.mls_design.proofs.TrialStocks.{stocks_more, own_stock, other_stock, no_stocks}
use Rattle.mls_design.proofs.trial.mixing.stocks.Goals as goal
use Rattle.mls_design.proofs.trial.mixing.stocks.Goals.{then-lane_rank-rank+in_ok-add_stock, else-lane_rank-rank}

pub loop-lane-init : goal.loop-lane-init
loop-lane-init c = rw c.new-all.ensures.items (sym (no_stocks c.args.rank c.args.tape.now.lanes))

pub loop-lane-preserved : goal.loop-lane-preserved
loop-lane-preserved c =
    let lanes = c.args.tape.now.lanes in
    let k = c.loop-lane.lane in
    let there = lane_there lanes k (omega (arith, c.loop-lane-test.true, c.requires)) in
    let rank : c.lane_rank.result ≡ there.0.rank = c.lane_rank.ensures there.0 there.1 in
    let more = stocks_more lanes c.args.rank k there.0 there.1 in
    elim c.if-lane_rank-rank.branch [
      | then-lane_rank-rank+in_ok-add_stock w ↦
          let own = own_stock c.args.rank k w.events-events.result there.0 (sym rank ∙ w.if-lane_rank-rank.true) (w.events-events.ensures ∙ count_of lanes k there.0 there.1) in
          rw (w.all-is, w.in_ok-add_stock.ensures) (ap (λ xs. xs ++ rest_by 0 (record { lane = k; events = w.events-events.result })) c.loop-lane.invariant ∙ ap (λ xs. rests (stocks c.args.rank 0 (take k lanes)) [] ++ xs) (sym own) ∙ sym more)
      | else-lane_rank-rank w ↦
          let other = other_stock c.args.rank k there.0 (λ e. w.if-lane_rank-rank.false (rank ∙ e)) in
          rw w.all-is (c.loop-lane.invariant ∙ sym (append-nil (rests (stocks c.args.rank 0 (take k lanes)) [])) ∙ ap (λ xs. rests (stocks c.args.rank 0 (take k lanes)) [] ++ xs) (sym other) ∙ sym more)
    ]
