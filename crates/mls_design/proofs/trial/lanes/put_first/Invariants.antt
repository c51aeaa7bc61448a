use Rattle.std.proofs.Common.{◌≡◌, ℕ, map}
use Rattle.std.specs.List.{flat_map}
use Rattle.mls_model.specs.Numbers.{below}
use Rattle.mls_design.specs.Trial.{is_restarted, group_frames}
use Rattle.mls_design.specs.TrialSizes.{HasDrawn}
use Rattle.mls_design.specs.TrialWriting.{Sends}
use Rattle.mls_design.proofs.trial.lanes.put_first.Given as goal

abbrev pub invariant-loop-group : goal.invariant-loop-group
invariant-loop-group l = (number n : ℕ) → l.restarted ≡ map (is_restarted number) (below l.study.sizes.groups) → HasDrawn number n l.fn.words → Sends number n (flat_map (group_frames l.study number l.route) (below l.group)) l.fn.out.items l.out.items l.words
