use Rattle.std.proofs.Common.{◌≡◌, ℕ, ◌+◌, ◌++◌, drop, List, sym, ap, subst, ◌∙◌, arith}
use Rattle.std.proofs.lemmas.List.{append-nil}
use Rattle.mls_tape.proofs.Entries.{lane_there, count_of}
use Rattle.mls_tape.proofs.Plain.{turns, turns_from, turns_step, turns_taken, turns_left}
use Rattle.mls_design.specs.TrialSchedule.{stocks, whole_lanes}
use Rattle.mls_design.proofs.TrialStocks.{turns_are}
use Rattle.mls_design.proofs.trial.mixing.add_resent.Goals as goal
use Rattle.mls_design.proofs.trial.mixing.add_resent.Goals.{then-lane_rank-rank+in_ok-add_whole, else-lane_rank-rank}

pub loop-lane-init : goal.loop-lane-init
loop-lane-init c = ap (λ xs. c.args.order.now.items ++ xs) (turns_are c.args.rank c.args.from (drop c.args.from c.args.tape.now.lanes))

pub loop-lane-preserved : goal.loop-lane-preserved
loop-lane-preserved c =
    let lanes = c.args.tape.now.lanes in
    let k = c.loop-lane.lane in
    let total = c.args.order.now.items ++ whole_lanes (stocks c.args.rank c.args.from (drop c.args.from lanes)) in
    let there = lane_there lanes k (omega (arith, c.loop-lane-test.true, c.lane_count-lane-end.ensures)) in
    let step = turns_step lanes c.args.rank k there.0 c.loop-lane.order.items total there.1 c.loop-lane.invariant in
    let rank : c.lane_rank.result ≡ there.0.rank = c.lane_rank.ensures there.0 there.1 in
    let rest = turns_from c.args.rank (k + 1) (drop (k + 1) lanes) in
    elim c.if-lane_rank-rank.branch [
      | then-lane_rank-rank+in_ok-add_whole w ↦
          let taken = turns_taken c.args.rank k there.0 w.events-events.result (sym rank ∙ w.if-lane_rank-rank.true) (w.events-events.ensures ∙ count_of lanes k there.0 there.1) in
          rw (w.order-is, w.in_ok-add_whole.ensures) (subst (λ (xs : List ℕ). (c.loop-lane.order.items ++ xs) ++ rest ≡ total) taken step)
      | else-lane_rank-rank w ↦
          let left : c.loop-lane.order.items ++ turns c.args.rank (k, there.0) ≡ c.loop-lane.order.items = ap (λ (xs : List ℕ). c.loop-lane.order.items ++ xs) (turns_left c.args.rank k there.0 (λ e. w.if-lane_rank-rank.false (rank ∙ e))) ∙ append-nil c.loop-lane.order.items in
          rw w.order-is (subst (λ (xs : List ℕ). xs ++ rest ≡ total) left step)
    ]
