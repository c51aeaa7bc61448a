use Rattle.std.proofs.Common.{◌≡◌, ℕ, ◌+◌, ◌*◌, ◌≤◌, length, slice_index, ap, ◌∙◌, sym, subst, arith}
use Rattle.mls_model.specs.CellSums.{sample}
use Rattle.mls_power.specs.ColumnSteps.{sample_at, one_above}
use Rattle.mls_field.specs.OutputSteps.{numbers_step}
use Rattle.mls_field.specs.Gathered.{row_behind}
use Rattle.mls_field.specs.Walk.{Walk}
use Rattle.mls_field.proofs.Behind.{in_first, in_second}
use Rattle.mls_field.proofs.Grid.{plane_before}
use Rattle.mls_field.proofs.Walks.{whole_column, column_waits}
use Rattle.mls_field.proofs.columns.add_to_numbers.Goals as goal

pub loop-c-preserved : goal.loop-c-preserved
loop-c-preserved c =
    let n = c.args.shape.now.parameters + 2 in
    let ts = c.args.shape.now.thresholds in
    let places = c.args.places in
    let samples = c.args.samples.now in
    let start = c.args.start in
    let step : ℕ → ℕ → ℕ → ℕ → ℕ = λ d i g m. numbers_step ts d (row_behind n places samples start i g) m in
    let b = sample_at samples (n * places) in
    whole_column c.args.row c.loop-c.c places ((c.args.row + c.loop-c.c) * places) c.args.numbers.now c.loop-c.numbers c.count_above.new.numbers _ step (omega arith) c.loop-c.invariant c.count_above.ensures
    (λ k g m. let row = row_behind n places samples start k g in
    ap (λ (q : ℕ). m + one_above c.threshold.result (sample_at samples ((q + 2) * places) (start + k) g) + one_above c.threshold.result (sample_at samples ((q + 2) * places) (start + places + k) g)) c.parameters.ensures.value ∙
    (ap (λ (u : ℕ). m + one_above u (b (start + k) g) + one_above u (b (start + places + k) g)) c.threshold.ensures.value ∙
    (ap (λ (x : ℕ). m + one_above (slice_index ts c.loop-c.c) x + one_above (slice_index ts c.loop-c.c) (b (start + places + k) g)) (in_first n places samples start k g (omega arith)) ∙
    ap (λ (y : ℕ). m + one_above (slice_index ts c.loop-c.c) (sample 0 row) + one_above (slice_index ts c.loop-c.c) y) (in_second n places samples start k g (omega arith)))))

pub count_above-requires-clause-numbers : goal.count_above-requires-clause-numbers
count_above-requires-clause-numbers c = omega (arith, plane_before (c.args.row + c.loop-c.c) (c.args.row + length c.args.shape.now.thresholds) c.args.places (omega arith))

pub count_above-requires-clause-room : goal.count_above-requires-clause-room
count_above-requires-clause-room c = λ k low. subst (λ (x : ℕ). x ≤ 131070) (sym (column_waits _ _ _ _ _ _ c.loop-c.invariant k low)) (c.requires.room c.loop-c.c k (omega arith) low)

pub returns : goal.returns
returns c =
    let ts = c.args.shape.now.thresholds in
    let n = c.args.shape.now.parameters + 2 in
    let all : c.loop-c.c ≡ length ts = omega arith in
    subst (λ (columns : ℕ). Walk c.args.row columns c.args.places 0 c.args.places c.args.numbers.now c.loop-c.numbers (λ d i g m. numbers_step ts d (row_behind n c.args.places c.args.samples.now c.args.start i g) m)) all c.loop-c.invariant
