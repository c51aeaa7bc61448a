use Rattle.std.proofs.Common.{◌∙◌, sym}
use Rattle.mls_cov.proofs.RowColumns.{one_pass, one_pass_values}
use Rattle.mls_cov.proofs.laws.covariance_of_shifted_values.Goals as goal

pub returns : goal.returns
returns c = λ signed rows i j left right. one_pass_values signed rows i j left right ∙ sym (one_pass rows i j)
