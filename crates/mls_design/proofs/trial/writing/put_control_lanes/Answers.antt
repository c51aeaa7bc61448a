use Rattle.std.proofs.Common.{arith, ◌≡◌, ap, refl, ◌∙◌}
use Rattle.mls_model.specs.Studies.{Sizes}
use Rattle.mls_design.proofs.TrialBytes.{nothing_more, control_bytes_more, control_bytes_done}
use Rattle.mls_design.proofs.trial.writing.put_control_lanes.Goals as goal

pub loop-rank-init : goal.loop-rank-init
loop-rank-init c = nothing_more c.args.out.now.items

pub loop-rank-preserved : goal.loop-rank-preserved
loop-rank-preserved c =
    control_bytes_more c.loop-rank.rank _ c.args.out.now.items c.loop-rank.out.items c.put_head.new.out.items c.put_control.new.out.items refl c.loop-rank.invariant c.in_ok-put_head.ensures c.in_ok-put_control.ensures

pub returns : goal.returns
returns c =
    let ranks = c.ranks-rank-end.ensures.value ∙ ap (λ (s : Sizes). s.ranks) c.shape.ensures in
    let all : c.loop-rank.rank ≡ c.args.study.now.sizes.ranks = omega (arith, c.loop-rank-test.false, c.loop-rank.auto.rank-end, ranks) in
    control_bytes_done c.args.study.now.sizes c.loop-rank.rank c.args.out.now.items c.loop-rank.out.items all c.loop-rank.invariant
