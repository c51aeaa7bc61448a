use Rattle.std.proofs.Common.{ℕ, ◌+◌, ◌*◌, min, max, ap, ◌∙◌, arith}
use Rattle.mls_model.specs.CellSums.{sample}
use Rattle.mls_power.specs.ColumnSteps.{sample_at}
use Rattle.mls_field.specs.OutputSteps.{ends_step}
use Rattle.mls_field.specs.Gathered.{row_behind}
use Rattle.mls_field.proofs.Behind.{in_first, in_second}
use Rattle.mls_field.proofs.Walks.{no_columns, whole_column}
use Rattle.mls_field.proofs.columns.add_to_ends.Goals as goal

pub returns : goal.returns
returns c =
    let n = c.args.parameters + 2 in
    let places = c.args.places in
    let samples = c.args.samples.now in
    let start = c.args.start in
    let row = c.args.row in
    let step : ℕ → ℕ → ℕ → ℕ → ℕ = λ d i g m. ends_step d (row_behind n places samples start i g) m in
    let a = λ (k g : ℕ). in_first n places samples start k g (omega arith) in
    let b = λ (k g : ℕ). in_second n places samples start k g (omega arith) in
    whole_column row 1 places _ c.args.ends.now _ _ _ step (omega arith)
    (whole_column row 0 places _ c.args.ends.now c.args.ends.now _ _ step (omega arith) (no_columns row places 0 places c.args.ends.now step) c.take_least.ensures
    (λ k g m. ap (λ (x : ℕ). min (min m x) (sample_at samples (n * places) (start + places + k) g)) (a k g) ∙ ap (λ (y : ℕ). min (min m (sample 0 (row_behind n places samples start k g))) y) (b k g)))
    c.take_greatest.ensures
    (λ k g m. ap (λ (x : ℕ). max (max m x) (sample_at samples (n * places) (start + places + k) g)) (a k g) ∙ ap (λ (y : ℕ). max (max m (sample 0 (row_behind n places samples start k g))) y) (b k g))
