use Rattle.std.proofs.Common.{arith, ◌<◌, ap, ◌∙◌}
use Rattle.mls_design.specs.Trial.{is_restarted}
use Rattle.mls_design.specs.TrialSizes.{beats_by, pieces_by}
use Rattle.mls_design.proofs.TrialLanes.{plan_more, restarted_at}
use Rattle.mls_design.proofs.trial.planning.plan_of.Goals as goal

pub loop-group-preserved : goal.loop-group-preserved
loop-group-preserved c =
    let study = c.args.study.now in
    let group = c.loop-group.group in
    let here : group < study.sizes.groups = omega (arith, c.loop-group-test.true, c.requires) in
    record {
      beats = omega (arith, c.loop-group.invariant.beats, c.beats_by-beats.ensures.few);
      pieces = omega (arith, c.loop-group.invariant.pieces, c.pieces_by-pieces.ensures.few);
      sum_beats = λ number are. plan_more (λ g. beats_by (is_restarted number g)) group c.loop-group.beats c.beats_by-beats.result (c.loop-group.invariant.sum_beats number are) (c.beats_by-beats.ensures.value ∙ ap beats_by (restarted_at number study.sizes.groups group c.args.restarted.now _ are here));
      sum_pieces = λ number are. plan_more (λ g. pieces_by study (is_restarted number g)) group c.loop-group.pieces c.pieces_by-pieces.result (c.loop-group.invariant.sum_pieces number are) (c.pieces_by-pieces.ensures.value ∙ ap (pieces_by study) (restarted_at number study.sizes.groups group c.args.restarted.now _ are here));
    }
