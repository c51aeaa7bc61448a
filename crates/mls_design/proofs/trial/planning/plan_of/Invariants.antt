use Rattle.std.proofs.Common.{◌≡◌, ℕ, ◌*◌, ◌≤◌, map}
use Rattle.std.specs.Prelude.{sum_by}
use Rattle.mls_model.specs.Numbers.{below}
use Rattle.mls_design.specs.Trial.{is_restarted}
use Rattle.mls_design.specs.TrialSizes.{beats_by, pieces_by}
use Rattle.mls_design.proofs.trial.planning.plan_of.Given as goal

abbrev pub invariant-loop-group : goal.invariant-loop-group
invariant-loop-group l = record {
  beats : l.beats ≤ 2 * l.group;
  pieces : l.pieces ≤ l.group * (2 * (l.study.sizes.steps * l.study.sizes.fields));
  sum_beats : (number : ℕ) → l.restarted ≡ map (is_restarted number) (below l.study.sizes.groups) → l.beats ≡ sum_by (λ group. beats_by (is_restarted number group)) (below l.group);
  sum_pieces : (number : ℕ) → l.restarted ≡ map (is_restarted number) (below l.study.sizes.groups) → l.pieces ≡ sum_by (λ group. pieces_by l.study (is_restarted number group)) (below l.group);
}
