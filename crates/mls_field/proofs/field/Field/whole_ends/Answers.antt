use Rattle.std.proofs.Common.{ℕ, ◌+◌, List, length, ap, ◌∙◌, subst, arith}
use Rattle.mls_model.specs.Studies.{planes}
use Rattle.mls_field.specs.Cells.{cell_of, with_rows}
use Rattle.mls_field.specs.OutputSteps.{ends_step}
use Rattle.mls_field.specs.Gathered.{row_behind, plane_start}
use Rattle.mls_field.specs.OneCell.{SameFront}
use Rattle.mls_field.proofs.WholeCells.{length-cell}
use Rattle.mls_field.proofs.Whole.{here, columns_fit, ends_read}
use Rattle.mls_field.proofs.field.Field.whole_ends.Goals as goal

pub read_ends-ends-requires-clause-place : goal.read_ends-ends-requires-clause-place
read_ends-ends-requires-clause-place c = here c.args.self.now c.args.cell c.requires.cell_in

pub read_ends-ends-requires-clause-ends : goal.read_ends-ends-requires-clause-ends
read_ends-ends-requires-clause-ends c =
    let f = c.args.self.now in
    columns_fit 2 f.places c.args.step (planes f.shape) _ c.requires.step_in (ap length c.as_slice.ensures.value ∙ f.kept.extrema_in.long)

pub add_rows_to_ends-requires-clause-place : goal.add_rows_to_ends-requires-clause-place
add_rows_to_ends-requires-clause-place c = here c.args.self.now c.args.cell c.requires.cell_in

pub add_rows_to_ends-requires-clause-samples : goal.add_rows_to_ends-requires-clause-samples
add_rows_to_ends-requires-clause-samples c = rw c.parameters-parameters.ensures.value (omega (arith, c.first_sample-start.ensures.fits, ap length c.as_slice-samples.ensures.value))

pub returns : goal.returns
returns c =
    let f = c.args.self.now in
    let w = f.places in
    let step = c.args.step in
    let place = c.args.cell in
    let p = f.shape.parameters in
    let g = c.waiting_rows-waiting.result in
    let cell = cell_of 2 w f.ends.items step place in
    let Family : ℕ → ℕ → List ℕ → ℕ → Type 0 = λ n at samples more. SameFront 2 c.add_rows_to_ends.new.ends (with_rows ends_step (row_behind (n + 2) w samples at place) more cell) in
    let read = ends_read w step place f.ends.items c.as_slice.result.now c.read_ends-ends.result c.as_slice.ensures.value c.read_ends-ends.ensures.least c.read_ends-ends.ensures.greatest in
    subst (λ (more : ℕ). Family p (plane_start (p + 2) w step) f.samples.items more) c.waiting_rows-waiting.ensures.value
    (subst (λ (xs : List ℕ). Family p (plane_start (p + 2) w step) xs g) c.as_slice-samples.ensures.value
    (subst (λ (at : ℕ). Family p at c.as_slice-samples.result.now g) c.first_sample-start.ensures.value
    (subst (λ (n : ℕ). Family n c.first_sample-start.result c.as_slice-samples.result.now g) c.parameters-parameters.ensures.value
    (c.add_rows_to_ends.ensures.whole cell (length-cell 2 w f.ends.items step place) read))))
