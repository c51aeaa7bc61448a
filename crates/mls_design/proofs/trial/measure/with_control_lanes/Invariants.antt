use Rattle.std.proofs.Common.{◌≡◌, ◌++◌, false, List, map}
use Rattle.mls_model.specs.Numbers.{below}
use Rattle.mls_model.specs.Lanes.{Lane}
use Rattle.mls_design.specs.Trial.{control_lane}
use Rattle.mls_design.specs.TrialSizes.{size_of, is_over}
use Rattle.mls_design.proofs.trial.measure.with_control_lanes.Given as goal

abbrev pub invariant-loop-rank : goal.invariant-loop-rank
invariant-loop-rank l = record {
  fits : is_over l.size ≡ false;
  front : (before : List Lane) → l.fn.total ≡ size_of l.study.sizes.signed before → l.size ≡ size_of l.study.sizes.signed (before ++ map control_lane (below l._rank));
}
