use Rattle.mls_trial.specs.Added.{AreSums, ArePlaneSums}
use Rattle.mls_trial.specs.Kept.{first_of, second_of, kept_over_plane}
use Rattle.mls_trial.proofs.added.all_sums.Given as goal

abbrev pub invariant-loop-plane : goal.invariant-loop-plane
invariant-loop-plane l = record {
  sums : AreSums (kept_over_plane l.study.sizes l.cores (first_of l.study.sizes)) (kept_over_plane l.study.sizes l.cores (second_of l.study.sizes)) l.plane l.sums;
  within : ArePlaneSums l.plane l.sums;
}
