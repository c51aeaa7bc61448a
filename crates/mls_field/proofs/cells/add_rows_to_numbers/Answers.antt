use Rattle.std.proofs.Common.{◌≡◌, ℕ, ◌+◌, ◌<◌, ◌≤◌, length, slice_index, subst, arith}
use Rattle.std.proofs.lemmas.Bool.Decides.{nat_tests}
use Rattle.mls_model.specs.CellSums.{sample}
use Rattle.mls_power.specs.ColumnSteps.{one_above}
use Rattle.mls_field.specs.Cells.{with_rows}
use Rattle.mls_field.specs.OutputSteps.{numbers_step}
use Rattle.mls_field.specs.Gathered.{row_behind}
use Rattle.mls_field.specs.OneCell.{SameFront, Stepped}
use Rattle.mls_field.proofs.Fronts.{first_at, second_at, front_more, none_same}
use Rattle.mls_field.proofs.cells.add_rows_to_numbers.Goals as goal
use Rattle.mls_field.proofs.cells.add_rows_to_numbers.Goals.{After-add_pair_to_numbers}

one_small : (t x : ℕ) → one_above t x ≤ 1
one_small t x = grind (arith, nat_tests)

pub loop-g-init : goal.loop-g-init
loop-g-init c = record {
  small = λ d d_in. omega arith;
  whole = λ cell long same. none_same _ _ _ _ _ same;
}

stepped : (c : After-add_pair_to_numbers) → 1 < c.args.shape.now.parameters + 2 → Stepped (numbers_step c.args.shape.now.thresholds) (length c.args.shape.now.thresholds) (row_behind (c.args.shape.now.parameters + 2) c.args.places c.args.samples.now c.args.start c.args.place c.loop-g.g) c.loop-g.numbers c.add_pair_to_numbers.new.numbers
stepped c two =
    let places = c.args.places in
    subst (λ (q : ℕ). Stepped (numbers_step c.args.shape.now.thresholds) (length c.args.shape.now.thresholds) (row_behind (q + 2) places c.args.samples.now c.args.start c.args.place c.loop-g.g) c.loop-g.numbers c.add_pair_to_numbers.new.numbers) c.parameters.ensures.value
    (c.add_pair_to_numbers.ensures (row_behind (c.parameters.result + 2) places c.args.samples.now c.args.start c.args.place c.loop-g.g) (first_at (c.parameters.result + 2) places c.args.samples.now c.args.start c.args.place c.loop-g.g (omega arith)) (second_at (c.parameters.result + 2) places c.args.samples.now c.args.start c.args.place c.loop-g.g (omega arith)))

pub loop-g-preserved : goal.loop-g-preserved
loop-g-preserved c =
    let n = c.args.shape.now.parameters + 2 in
    let ts = c.args.shape.now.thresholds in
    let g = c.loop-g.g in
    let row = row_behind n c.args.places c.args.samples.now c.args.start c.args.place in
    let done = stepped (goal.at.loop-g-preserved c).After-add_pair_to_numbers (omega arith) in
    record {
      small = λ d d_in. omega (arith, done.each d d_in, c.loop-g.invariant.small d d_in, one_small (slice_index ts d) (sample 0 (row g)), one_small (slice_index ts d) (sample 1 (row g)));
      whole = λ cell long same. front_more (numbers_step ts) (length ts) row g cell c.loop-g.numbers c.add_pair_to_numbers.new.numbers long (c.loop-g.invariant.whole cell long same) done;
    }

pub returns : goal.returns
returns c =
    let all : c.loop-g.g ≡ c.args.waiting = omega arith in
    let ts = c.args.shape.now.thresholds in
    record { whole = λ cell long same. subst (λ (g : ℕ). SameFront (length ts) c.loop-g.numbers (with_rows (numbers_step ts) (row_behind (c.args.shape.now.parameters + 2) c.args.places c.args.samples.now c.args.start c.args.place) g cell)) all (c.loop-g.invariant.whole cell long same) }
