use Rattle.mls_model.specs.Numbers.{square, cube}
use Rattle.mls_model.specs.Statistics.{outputs}
use Rattle.mls_orders.proofs.Statistics.{length_permuted, sum_permuted, variance_permuted, third_permuted, least_permuted, most_permuted, above_permuted, outputs_permuted, covariance_permuted}
use Rattle.mls_orders.proofs.CellTexts.{spread_same, first_same, total_same}
use Rattle.mls_orders.proofs.permuted_rows.statistics_of_permuted_rows.Goals as goal

pub returns : goal.returns
returns c = record {
  number = length_permuted;
  first = λ xs ys h. sum_permuted (λ w. w) (outputs xs) (outputs ys) (outputs_permuted xs ys h);
  second = λ xs ys h. sum_permuted square (outputs xs) (outputs ys) (outputs_permuted xs ys h);
  third = λ xs ys h. sum_permuted cube (outputs xs) (outputs ys) (outputs_permuted xs ys h);
  fourth = λ xs ys h. sum_permuted (λ w. square (square w)) (outputs xs) (outputs ys) (outputs_permuted xs ys h);
  variance = λ xs ys h. variance_permuted (outputs xs) (outputs ys) (outputs_permuted xs ys h);
  third_moment = λ xs ys h. third_permuted (outputs xs) (outputs ys) (outputs_permuted xs ys h);
  least = λ xs ys h. least_permuted (outputs xs) (outputs ys) (outputs_permuted xs ys h);
  most = λ xs ys h. most_permuted (outputs xs) (outputs ys) (outputs_permuted xs ys h);
  above = λ threshold xs ys h. above_permuted threshold (outputs xs) (outputs ys) (outputs_permuted xs ys h);
  covariance = covariance_permuted;
  spread = spread_same;
  first_index = first_same;
  total_index = total_same;
}
