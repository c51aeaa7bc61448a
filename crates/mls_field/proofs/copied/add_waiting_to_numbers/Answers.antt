use Rattle.std.proofs.Common.{◌≡◌, ℕ, ◌+◌, ◌*◌, ◌<◌, ◌≤◌, length, slice_index, ap, ◌∙◌, subst, arith}
use Rattle.std.proofs.lemmas.Bool.Decides.{nat_tests}
use Rattle.mls_model.specs.CellSums.{sample}
use Rattle.mls_power.specs.ColumnSteps.{one_above}
use Rattle.mls_field.specs.Cells.{with_rows}
use Rattle.mls_field.specs.Copied.{copied}
use Rattle.mls_field.specs.OutputSteps.{numbers_step}
use Rattle.mls_field.specs.Gathered.{row_behind}
use Rattle.mls_field.specs.OneCell.{SameFront, Stepped}
use Rattle.mls_field.proofs.Fronts.{first_at, second_at, front_more, none_same}
use Rattle.mls_field.proofs.FourCopied.{entry}
use Rattle.mls_field.proofs.copied.add_waiting_to_numbers.Goals as goal
use Rattle.mls_field.proofs.copied.add_waiting_to_numbers.Goals.{After-add_row_to_numbers}

one_small : (t x : ℕ) → one_above t x ≤ 1
one_small t x = grind (arith, nat_tests)

pub loop-g-init : goal.loop-g-init
loop-g-init c = record {
  small = λ d k d_in k_in. omega arith;
  whole = λ k cell k_in long same. none_same _ _ _ _ _ same;
}

stepped : (c : After-add_row_to_numbers) → (k : ℕ) → k < c.args.count → Stepped (numbers_step c.args.shape.now.thresholds) (length c.args.shape.now.thresholds) (row_behind (c.args.shape.now.parameters + 2) c.args.places c.args.samples.now c.args.start (c.args.from + k) c.loop-g.g) (copied (length c.args.shape.now.thresholds) c.loop-g.numbers k) (copied (length c.args.shape.now.thresholds) c.add_row_to_numbers.new.numbers k)
stepped c k k_in =
    let places = c.args.places in
    let samples = c.args.samples.now in
    let start = c.args.start in
    let from = c.args.from in
    let g = c.loop-g.g in
    let q = c.parameters.result in
    let size = length c.args.shape.now.thresholds in
    let at = g * ((q + 2) * places) + start + from in
    subst (λ (p : ℕ). Stepped (numbers_step c.args.shape.now.thresholds) size (row_behind (p + 2) places samples start (from + k) g) (copied size c.loop-g.numbers k) (copied size c.add_row_to_numbers.new.numbers k)) c.parameters.ensures.value
    (c.add_row_to_numbers.ensures k (row_behind (q + 2) places samples start (from + k) g) k_in
    (first_at (q + 2) places samples start (from + k) g (omega arith) ∙ ap (slice_index samples) (let e : g * ((q + 2) * places) + start + (from + k) ≡ at + k = omega arith in e))
    (second_at (q + 2) places samples start (from + k) g (omega arith) ∙ ap (slice_index samples) (let e : g * ((q + 2) * places) + start + (from + k) + places ≡ at + places + k = omega arith in e)))

pub loop-g-preserved : goal.loop-g-preserved
loop-g-preserved c =
    let ts = c.args.shape.now.thresholds in
    let size = length ts in
    let g = c.loop-g.g in
    let row : ℕ → ℕ → _ = λ k. row_behind (c.args.shape.now.parameters + 2) c.args.places c.args.samples.now c.args.start (c.args.from + k) in
    let done = stepped (goal.at.loop-g-preserved c).After-add_row_to_numbers in
    record {
      small = λ d k d_in k_in. omega (arith, (done k k_in).each d d_in, entry size k c.loop-g.numbers d d_in, entry size k c.add_row_to_numbers.new.numbers d d_in, c.loop-g.invariant.small d k d_in k_in, one_small (slice_index ts d) (sample 0 (row k g)), one_small (slice_index ts d) (sample 1 (row k g)));
      whole = λ k cell k_in long same. front_more (numbers_step ts) size (row k) g cell (copied size c.loop-g.numbers k) (copied size c.add_row_to_numbers.new.numbers k) long (c.loop-g.invariant.whole k cell k_in long same) (done k k_in);
    }

pub returns : goal.returns
returns c =
    let all : c.loop-g.g ≡ c.args.waiting = omega arith in
    let ts = c.args.shape.now.thresholds in
    λ k k_in cell long same. subst (λ (g : ℕ). SameFront (length ts) (copied (length ts) c.loop-g.numbers k) (with_rows (numbers_step ts) (row_behind (c.args.shape.now.parameters + 2) c.args.places c.args.samples.now c.args.start (c.args.from + k)) g cell)) all (c.loop-g.invariant.whole k cell k_in long same)
