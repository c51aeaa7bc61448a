use Rattle.std.proofs.Common.{◌≡◌, ◌++◌, false, List, map, take}
use Rattle.mls_model.specs.Lanes.{Lane}
use Rattle.mls_design.specs.Trial.{resent_lane}
use Rattle.mls_design.specs.TrialSizes.{size_of, is_over}
use Rattle.mls_design.proofs.trial.measure.with_resent_lanes.Given as goal

abbrev pub invariant-loop-k : goal.invariant-loop-k
invariant-loop-k l = record {
  fits : is_over l.size ≡ false;
  front : (before : List Lane) → l.fn.total ≡ size_of l.study.sizes.signed before → l.size ≡ size_of l.study.sizes.signed (before ++ map (resent_lane l.study) (take l.k l.all));
}
