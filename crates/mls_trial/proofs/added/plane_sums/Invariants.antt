use Rattle.mls_result.specs.Histories.{kept_sums}
use Rattle.mls_trial.specs.Added.{AreSums, AreCellSums}
use Rattle.mls_trial.specs.Kept.{first_of, second_of}
use Rattle.mls_trial.proofs.added.plane_sums.Given as goal

abbrev pub invariant-loop-cell : goal.invariant-loop-cell
invariant-loop-cell l = record {
  sums : AreSums (λ x. first_of l.study.sizes (kept_sums l.study.sizes l.cores l.plane x)) (λ x. second_of l.study.sizes (kept_sums l.study.sizes l.cores l.plane x)) l.cell l.sums;
  within : AreCellSums l.cell l.sums;
}
