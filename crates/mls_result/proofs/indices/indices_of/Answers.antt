use Rattle.std.proofs.Common.{Option, Some, None, IfSome, ℤ, pos, negsuc, ◌≤ℤ◌, FitsSigned, to_z-of_z, sym, ap, ◌∙◌, subst, arith, rules}
use Rattle.std.specs.Int.{w128}
use Rattle.std.proofs.lemmas.Int.{ints}
use Rattle.mls_model.specs.Indices.{rho6}
use Rattle.mls_num.proofs.Index.{rho6_bounded}
use Rattle.mls_result.proofs.indices.indices_of.Goals as goal

low_of : (o : Option ℤ) → IfSome o (λ r. (negsuc 999999 ≤ℤ r) × (r ≤ℤ pos 1000000)) → IfSome o (λ r. negsuc 999999 ≤ℤ r)
low_of None h = h
low_of (Some r) h = h.0

high_of : (o : Option ℤ) → IfSome o (λ r. (negsuc 999999 ≤ℤ r) × (r ≤ℤ pos 1000000)) → IfSome o (λ r. r ≤ℤ pos 1000000)
high_of None h = h
high_of (Some r) h = h.1

lower : (o : Option ℤ) → IfSome o (λ r. (negsuc 999999 ≤ℤ r) × (r ≤ℤ pos 1000000)) → IfSome o (λ r. negsuc 1999999 ≤ℤ r)
lower None h = h
lower (Some r) h = omega (arith, ints, h.0)

higher : (o : Option ℤ) → IfSome o (λ r. (negsuc 999999 ≤ℤ r) × (r ≤ℤ pos 1000000)) → IfSome o (λ r. r ≤ℤ pos 2000000)
higher None h = h
higher (Some r) h = omega (arith, ints, h.1)

pub rest_of-requires-clause-low : goal.rest_of-requires-clause-low
rest_of-requires-clause-low c =
    let p = c.args.parts.now in
    let fits : FitsSigned w128 p.cov_a = search rules in
    subst (λ (o : Option ℤ). IfSome o (λ r. negsuc 999999 ≤ℤ r)) (sym (c.rho6-other.ensures ∙ ap (λ (x : ℤ). rho6 x p.var_a p.var_c) (to_z-of_z fits))) (low_of (rho6 p.cov_a p.var_a p.var_c) (rho6_bounded p.cov_a p.var_a p.var_c c.requires.within_a))

pub rest_of-requires-clause-high : goal.rest_of-requires-clause-high
rest_of-requires-clause-high c =
    let p = c.args.parts.now in
    let fits : FitsSigned w128 p.cov_a = search rules in
    subst (λ (o : Option ℤ). IfSome o (λ r. r ≤ℤ pos 1000000)) (sym (c.rho6-other.ensures ∙ ap (λ (x : ℤ). rho6 x p.var_a p.var_c) (to_z-of_z fits))) (high_of (rho6 p.cov_a p.var_a p.var_c) (rho6_bounded p.cov_a p.var_a p.var_c c.requires.within_a))

pub returns-clause-first_low : goal.returns-clause-first_low
returns-clause-first_low c =
    let p = c.args.parts.now in
    let fits : FitsSigned w128 p.cov_b = search rules in
    subst (λ (o : Option ℤ). IfSome o (λ r. negsuc 1999999 ≤ℤ r)) (sym (c.rho6-first.ensures ∙ ap (λ (x : ℤ). rho6 x p.var_b p.var_c) (to_z-of_z fits))) (lower (rho6 p.cov_b p.var_b p.var_c) (rho6_bounded p.cov_b p.var_b p.var_c c.requires.within_b))

pub returns-clause-first_high : goal.returns-clause-first_high
returns-clause-first_high c =
    let p = c.args.parts.now in
    let fits : FitsSigned w128 p.cov_b = search rules in
    subst (λ (o : Option ℤ). IfSome o (λ r. r ≤ℤ pos 2000000)) (sym (c.rho6-first.ensures ∙ ap (λ (x : ℤ). rho6 x p.var_b p.var_c) (to_z-of_z fits))) (higher (rho6 p.cov_b p.var_b p.var_c) (rho6_bounded p.cov_b p.var_b p.var_c c.requires.within_b))
