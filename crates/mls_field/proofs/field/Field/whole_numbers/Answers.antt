use Rattle.std.proofs.Common.{ℕ, ◌+◌, ◌≤◌, List, length, ap, ◌∙◌, subst, arith}
use Rattle.std.proofs.lemmas.Nat.{mul-le}
use Rattle.mls_model.specs.Studies.{planes}
use Rattle.mls_field.specs.Cells.{cell_of, with_rows}
use Rattle.mls_field.specs.OutputSteps.{numbers_step}
use Rattle.mls_field.specs.Gathered.{row_behind, plane_start}
use Rattle.mls_field.specs.OneCell.{SameFront}
use Rattle.mls_field.proofs.WholeCells.{length-cell}
use Rattle.mls_field.proofs.Whole.{here, columns_fit, cell_read, room_for_numbers_read}
use Rattle.mls_field.proofs.field.Field.whole_numbers.Goals as goal
use Rattle.mls_field.proofs.field.Field.whole_numbers.Goals.{After-read_numbers-numbers}

pub read_numbers-numbers-requires-clause-place : goal.read_numbers-numbers-requires-clause-place
read_numbers-numbers-requires-clause-place c = here c.args.self.now c.args.cell c.requires.cell_in

pub read_numbers-numbers-requires-clause-row : goal.read_numbers-numbers-requires-clause-row
read_numbers-numbers-requires-clause-row c = rw c.thresholds-size.ensures.value (let v = c.thresholds-size.ensures.valid in let f = c.args.self.now in let few : length f.shape.thresholds ≤ 8 = v.thresholds in omega (arith, mul-le c.args.step (length f.shape.thresholds) 4294967295 8 (omega arith) few, few))

pub read_numbers-numbers-requires-clause-numbers : goal.read_numbers-numbers-requires-clause-numbers
read_numbers-numbers-requires-clause-numbers c =
    let f = c.args.self.now in
    rw c.thresholds-size.ensures.value (columns_fit (length f.shape.thresholds) f.places c.args.step (planes f.shape) _ c.requires.step_in (ap length c.as_slice.ensures.value ∙ f.kept.numbers_in.long))

-- what was read
read : (c : After-read_numbers-numbers) → let f = c.args.self.now in SameFront (length f.shape.thresholds) c.read_numbers-numbers.result (cell_of (length f.shape.thresholds) f.places f.numbers.items c.args.step c.args.cell)
read c =
    let f = c.args.self.now in
    subst (λ (n : ℕ). SameFront n c.read_numbers-numbers.result (cell_of n f.places f.numbers.items c.args.step c.args.cell)) c.thresholds-size.ensures.value
    (cell_read c.thresholds-size.result f.places c.args.step c.args.cell f.numbers.items c.as_slice.result.now c.read_numbers-numbers.result c.as_slice.ensures.value c.read_numbers-numbers.ensures)

pub add_rows_to_numbers-requires-clause-place : goal.add_rows_to_numbers-requires-clause-place
add_rows_to_numbers-requires-clause-place c = here c.args.self.now c.args.cell c.requires.cell_in

pub add_rows_to_numbers-requires-clause-samples : goal.add_rows_to_numbers-requires-clause-samples
add_rows_to_numbers-requires-clause-samples c = omega (arith, c.first_sample-start.ensures.fits, ap length c.as_slice-samples.ensures.value)

pub add_rows_to_numbers-requires-clause-room : goal.add_rows_to_numbers-requires-clause-room
add_rows_to_numbers-requires-clause-room c =
    let f = c.args.self.now in
    room_for_numbers_read f c.args.step c.args.cell c.waiting_rows-waiting.result c.read_numbers-numbers.result c.requires.step_in (here f c.args.cell c.requires.cell_in) c.waiting_rows-waiting.ensures.value (read (goal.at.add_rows_to_numbers-requires-clause-room c).After-read_numbers-numbers)

pub returns : goal.returns
returns c =
    let f = c.args.self.now in
    let w = f.places in
    let step = c.args.step in
    let place = c.args.cell in
    let p = f.shape.parameters in
    let ts = f.shape.thresholds in
    let g = c.waiting_rows-waiting.result in
    let cell = cell_of (length ts) w f.numbers.items step place in
    let Family : ℕ → List ℕ → ℕ → Type 0 = λ at samples more. SameFront (length ts) c.add_rows_to_numbers.new.numbers (with_rows (numbers_step ts) (row_behind (p + 2) w samples at place) more cell) in
    subst (λ (more : ℕ). Family (plane_start (p + 2) w step) f.samples.items more) c.waiting_rows-waiting.ensures.value
    (subst (λ (xs : List ℕ). Family (plane_start (p + 2) w step) xs g) c.as_slice-samples.ensures.value
    (subst (λ (at : ℕ). Family at c.as_slice-samples.result.now g) c.first_sample-start.ensures.value
    (c.add_rows_to_numbers.ensures.whole cell (length-cell (length ts) w f.numbers.items step place) (read (goal.at.returns c).After-read_numbers-numbers))))
