use Rattle.std.proofs.Common.{ℤ, pos, negsuc, ◌≤ℤ◌, Option, Some, None, IfSome}
use Rattle.mls_num.proofs.Index.{rho6_bounded}
use Rattle.mls_num.proofs.laws.index_is_bounded.Goals as goal

low_part : (o : Option ℤ) → IfSome o (λ r. (negsuc 999999 ≤ℤ r) × (r ≤ℤ pos 1000000)) → IfSome o (λ r. negsuc 999999 ≤ℤ r)
low_part (Some r) h = h.0
low_part None h = h

high_part : (o : Option ℤ) → IfSome o (λ r. (negsuc 999999 ≤ℤ r) × (r ≤ℤ pos 1000000)) → IfSome o (λ r. r ≤ℤ pos 1000000)
high_part (Some r) h = h.1
high_part None h = h

pub returns-clause-low : goal.returns-clause-low
returns-clause-low c = λ k v w h. low_part _ (rho6_bounded k v w h)

pub returns-clause-high : goal.returns-clause-high
returns-clause-high c = λ k v w h. high_part _ (rho6_bounded k v w h)
