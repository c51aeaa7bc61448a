use Rattle.std.proofs.Common.{◌≡◌, ℕ, ◌+◌, ◌++◌, drop, List, sym, ap, subst, ◌∙◌, arith}
use Rattle.std.proofs.lemmas.List.{append-nil}
use Rattle.mls_model.specs.Schedules.{plain_order}
use Rattle.mls_tape.proofs.Entries.{lane_there, count_of}
use Rattle.mls_tape.proofs.Plain.{turns, turns_from, turns_step, turns_taken, turns_left, plain_start}
use Rattle.mls_tape.proofs.schedule.plain_order.Goals as goal
use Rattle.mls_tape.proofs.schedule.plain_order.Goals.{then-lane_rank-rank+in_ok-add_lane, else-lane_rank-rank}

pub loop-lane-init : goal.loop-lane-init
loop-lane-init c = rw c.new-order.ensures.items (plain_start c.args.tape.now.lanes c.args.rank)

pub loop-lane-preserved : goal.loop-lane-preserved
loop-lane-preserved c =
    let lanes = c.args.tape.now.lanes in
    let total = plain_order lanes c.args.rank in
    let there = lane_there lanes c.loop-lane.lane (omega (arith, c.loop-lane-test.true, c.lane_count-lane-end.ensures)) in
    let step = turns_step lanes c.args.rank c.loop-lane.lane there.0 c.loop-lane.order.items total there.1 c.loop-lane.invariant in
    let rank : c.lane_rank.result ≡ there.0.rank = c.lane_rank.ensures there.0 there.1 in
    let rest = turns_from c.args.rank (c.loop-lane.lane + 1) (drop (c.loop-lane.lane + 1) lanes) in
    elim c.if-lane_rank-rank.branch [
      | then-lane_rank-rank+in_ok-add_lane w ↦
          let taken = turns_taken c.args.rank c.loop-lane.lane there.0 w.events.result (sym rank ∙ w.if-lane_rank-rank.true) (w.events.ensures ∙ count_of lanes c.loop-lane.lane there.0 there.1) in
          rw (w.order-is, w.in_ok-add_lane.ensures) (subst (λ (xs : List ℕ). (c.loop-lane.order.items ++ xs) ++ rest ≡ total) taken step)
      | else-lane_rank-rank w ↦
          let left : c.loop-lane.order.items ++ turns c.args.rank (c.loop-lane.lane, there.0) ≡ c.loop-lane.order.items = ap (λ (xs : List ℕ). c.loop-lane.order.items ++ xs) (turns_left c.args.rank c.loop-lane.lane there.0 (λ e. w.if-lane_rank-rank.false (rank ∙ e))) ∙ append-nil c.loop-lane.order.items in
          rw w.order-is (subst (λ (xs : List ℕ). xs ++ rest ≡ total) left step)
    ]
