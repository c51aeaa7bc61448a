use Rattle.std.proofs.Common.{◌≡◌, ℕ, ◌*◌, ◌/◌, ◌≤◌, ℤ, Some, sym, ap, subst, ◌∙◌, arith, inl, inr, to_z-of_z}
use Rattle.std.specs.Prelude.{unsigned_abs}
use Rattle.std.proofs.lemmas.Int.{ints}
use Rattle.std.proofs.lemmas.Nat.{mul-le}
use Rattle.mls_model.specs.Indices.{millionths}
use Rattle.mls_num.proofs.Index.{rho6_none, rho6_is, root_is, positive, negative}
use Rattle.mls_num.proofs.Division.{at_most_one}
use Rattle.mls_num.proofs.fractions.rho6.Goals as goal
use Rattle.mls_num.proofs.fractions.rho6.Goals.{After-root_below-millionths}

-- the root that the code takes is the number of millionths
root_found : (c : After-root_below-millionths) → (c.root_below-millionths.result ≡ millionths (unsigned_abs c.args.c) c.args.v c.args.w) × (c.root_below-millionths.result ≤ 1000000)
root_found c =
    let size : c.unsigned_abs-size.result ≡ unsigned_abs c.args.c = c.unsigned_abs-size.ensures.value ∙ ap unsigned_abs (to_z-of_z c.ranges.c) in
    let quotient = c.digits12.ensures ∙ ap (λ (n : ℕ). n * n * 1000000000000 / (c.args.v * c.args.w)) size in
    root_is c.root_below-millionths.result c.digits12.result (unsigned_abs c.args.c) c.args.v c.args.w c.requires.within (omega arith) (omega arith) quotient c.root_below-millionths.ensures.within c.root_below-millionths.ensures.greatest

pub root_below-millionths-requires-clause-end : goal.root_below-millionths-requires-clause-end
root_below-millionths-requires-clause-end c =
    let size : c.unsigned_abs-size.result ≡ unsigned_abs c.args.c = c.unsigned_abs-size.ensures.value ∙ ap unsigned_abs (to_z-of_z c.ranges.c) in
    let within : c.unsigned_abs-size.result * c.unsigned_abs-size.result ≤ c.args.v * c.args.w = subst (λ (n : ℕ). n * n ≤ c.args.v * c.args.w) (sym size) c.requires.within in
    omega (arith, c.digits12.ensures, at_most_one (c.unsigned_abs-size.result * c.unsigned_abs-size.result) (c.args.v * c.args.w) within (omega (arith, mul-le 1 1 c.args.v c.args.w (omega arith) (omega arith))))

pub returns-then-v-eq0 : goal.returns-then-v-eq0
returns-then-v-eq0 c = sym (rho6_none c.args.c c.args.v c.args.w (elim c.then-v-eq0.either [ inl e ↦ inl e | inr b ↦ inr b.1 ]))

pub overflow_cast-millionths : goal.overflow_cast-millionths
overflow_cast-millionths c = omega (arith, ints, (root_found c).1)

pub overflow_sub-result : goal.overflow_sub-result
overflow_sub-result c = omega (arith, ints, (root_found (goal.at.overflow_sub-result c).After-root_below-millionths).1)

pub returns-then-c-lt0 : goal.returns-then-c-lt0
returns-then-c-lt0 c =
    let found = root_found (goal.at.returns-then-c-lt0 c).After-root_below-millionths in
    let sign = negative c.args.c c.root_below-millionths.result (rw (to_z-of_z c.ranges.c) at c.if-c-lt0.true) found.1 in
    ap (λ (z : ℤ). Some z) sign ∙ rho6_is c.args.c c.args.v c.args.w c.root_below-millionths.result (omega arith) (omega arith) found.0

pub returns-else-c-lt0 : goal.returns-else-c-lt0
returns-else-c-lt0 c =
    let found = root_found (goal.at.returns-else-c-lt0 c).After-root_below-millionths in
    let sign = positive c.args.c c.root_below-millionths.result (rw (to_z-of_z c.ranges.c) at c.if-c-lt0.false) found.1 in
    ap (λ (z : ℤ). Some z) sign ∙ rho6_is c.args.c c.args.v c.args.w c.root_below-millionths.result (omega arith) (omega arith) found.0
