use Rattle.std.proofs.Common.{◌++◌, take, drop, ap, ◌∙◌}
use Rattle.mls_design.specs.TrialSchedule.{stocks, whole_lanes}
use Rattle.mls_design.proofs.TrialOrders.{stocks_rise}
use Rattle.mls_design.proofs.trial.mixing.rank_order.Goals as goal

pub returns : goal.returns
returns c = λ number at h.
    let lanes = c.args.tape.now.lanes in
    let all = stocks c.args.rank 0 (take c.args.earlier lanes) in
    let made = c.in_ok-mix.ensures number at all (stocks_rise c.args.rank 0 (take c.args.earlier lanes)) c.in_ok-order.ensures.items c.in_ok-still.ensures h in
    record {
      order_is = c.in_ok-add_resent.ensures ∙ ap (λ o. o ++ whole_lanes (stocks c.args.rank c.args.earlier (drop c.args.earlier lanes))) made.order_is;
      drawn = made.drawn;
    }
