use Rattle.std.proofs.Common.{arith}
use Rattle.mls_cov.proofs.Bounds.{variances_small, covariance_small}
use Rattle.mls_cov.proofs.ranges.are_products.Goals as goal

pub returns-then-covariance : goal.returns-then-covariance
returns-then-covariance c =
    let a = c.args in
    (λ h. absurd (cc), λ h. absurd (omega (arith, covariance_small a.count a.x a.xx a.y a.yy a.xy c.requires.few c.requires.left c.requires.right h)))

pub overflow_mul-result-2 : goal.overflow_mul-result-2
overflow_mul-result-2 c =
    let a = c.args in
    omega (arith, variances_small a.count a.x a.xx a.y a.yy c.requires.few c.requires.left c.requires.right)
