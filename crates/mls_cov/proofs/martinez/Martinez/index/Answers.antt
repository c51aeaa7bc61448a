use Rattle.std.proofs.Common.{◌+◌, ◌∙◌, arith, rules, FitsSigned, to_z-of_z}
use Rattle.std.specs.Int.{w128}
use Rattle.mls_cov.proofs.Bounds.{products_small, variance_small}
use Rattle.mls_cov.proofs.Parts.{read_covariance, read_variance, read_within}
use Rattle.mls_cov.proofs.martinez.Martinez.index.Goals as goal

pub covariance_top-requires-clause-third : goal.covariance_top-requires-clause-third
covariance_top-requires-clause-third c =
    let m = c.args.self.now in
    let column = m.rules.columns c.args.k c.requires in
    products_small m.count _ _ _ _ _ m.few m.rules.b column.sums_in column.with_b

pub covariance_top-requires-2-clause-third : goal.covariance_top-requires-2-clause-third
covariance_top-requires-2-clause-third c =
    let m = c.args.self.now in
    let column = m.rules.columns c.args.k c.requires in
    products_small m.count _ _ _ _ _ m.few m.rules.a column.sums_in column.with_a

pub returns-clause-cov_b : goal.returns-clause-cov_b
returns-clause-cov_b c = λ signed rows h. (
    let fits : FitsSigned w128 c.covariance_top.result = search rules in
    let column = h.sums.columns c.args.k c.requires in
    to_z-of_z fits ∙ (c.covariance_top.ensures ∙ read_covariance signed c.args.self.now.parameters _ _ _ _ 1 (2 + c.args.k) rows h.sums.rows_in (omega arith) (omega (arith, c.requires)) h.count h.sums.b column.first column.with_b)
    )

pub returns-clause-cov_a : goal.returns-clause-cov_a
returns-clause-cov_a c = λ signed rows h. (
    let fits : FitsSigned w128 c.covariance_top-2.result = search rules in
    let column = h.sums.columns c.args.k c.requires in
    to_z-of_z fits ∙ (c.covariance_top-2.ensures ∙ read_covariance signed c.args.self.now.parameters _ _ _ _ 0 (2 + c.args.k) rows h.sums.rows_in (omega arith) (omega (arith, c.requires)) h.count h.sums.a column.first column.with_a)
    )

pub returns-clause-var_a : goal.returns-clause-var_a
returns-clause-var_a c = λ signed rows h. (
    let m = c.args.self.now in
    c.spread_top.ensures ∙ read_variance signed m.parameters m.count _ _ 0 rows h.sums.rows_in (omega arith) h.count h.sums.a h.sums.aa m.rules.a.spread
    )

pub returns-clause-var_b : goal.returns-clause-var_b
returns-clause-var_b c = λ signed rows h. (
    let m = c.args.self.now in
    c.spread_top-2.ensures ∙ read_variance signed m.parameters m.count _ _ 1 rows h.sums.rows_in (omega arith) h.count h.sums.b h.sums.bb m.rules.b.spread
    )

pub returns-clause-var_c : goal.returns-clause-var_c
returns-clause-var_c c = λ signed rows h. (
    let m = c.args.self.now in
    let column = h.sums.columns c.args.k c.requires in
    c.spread_top-3.ensures ∙ read_variance signed m.parameters m.count _ _ (2 + c.args.k) rows h.sums.rows_in (omega (arith, c.requires)) h.count column.first column.second (m.rules.columns c.args.k c.requires).sums_in.spread
    )

pub returns-clause-within_b : goal.returns-clause-within_b
returns-clause-within_b c =
    let fits : FitsSigned w128 c.covariance_top.result = search rules in
    let m = c.args.self.now in
    read_within _ _ _ m.count _ _ _ _ _ (to_z-of_z fits ∙ c.covariance_top.ensures) c.spread_top-2.ensures c.spread_top-3.ensures (m.rules.columns c.args.k c.requires).with_b

pub returns-clause-within_a : goal.returns-clause-within_a
returns-clause-within_a c =
    let fits : FitsSigned w128 c.covariance_top-2.result = search rules in
    let m = c.args.self.now in
    read_within _ _ _ m.count _ _ _ _ _ (to_z-of_z fits ∙ c.covariance_top-2.ensures) c.spread_top.ensures c.spread_top-3.ensures (m.rules.columns c.args.k c.requires).with_a

pub returns-clause-small_a : goal.returns-clause-small_a
returns-clause-small_a c = let m = c.args.self.now in rw c.spread_top.ensures (variance_small m.count _ _ m.few m.rules.a)

pub returns-clause-small_b : goal.returns-clause-small_b
returns-clause-small_b c = let m = c.args.self.now in rw c.spread_top-2.ensures (variance_small m.count _ _ m.few m.rules.b)

pub returns-clause-small_c : goal.returns-clause-small_c
returns-clause-small_c c = let m = c.args.self.now in rw c.spread_top-3.ensures (variance_small m.count _ _ m.few (m.rules.columns c.args.k c.requires).sums_in)
