use Rattle.std.proofs.Common.{◌≡◌, ℕ, ◌+◌, ◌*◌, List, length, ap, refl, ◌∙◌, subst}
use Rattle.mls_model.specs.Studies.{planes}
use Rattle.mls_field.specs.Cells.{cell_of, with_rows}
use Rattle.mls_field.specs.Copied.{copied}
use Rattle.mls_field.specs.OutputSteps.{ends_step}
use Rattle.mls_field.specs.Gathered.{row_behind, plane_start}
use Rattle.mls_field.proofs.WholeCells.{length-cell}
use Rattle.mls_field.proofs.Whole.{columns_fit}
use Rattle.mls_field.proofs.CopiedCells.{copy_is, copy_whole}
use Rattle.mls_field.proofs.field.Field.copy_ends.Goals as goal

pub copy_ends-requires-clause-ends : goal.copy_ends-requires-clause-ends
copy_ends-requires-clause-ends c =
    let f = c.args.self.now in
    columns_fit 2 f.places c.args.step (planes f.shape) _ c.requires.step_in (ap length c.as_slice.ensures.value ∙ f.kept.extrema_in.long)

pub returns : goal.returns
returns c = λ k k_in.
    let f = c.args.self.now in
    let w = f.places in
    let step = c.args.step in
    let place = c.args.from + k in
    let p = f.shape.parameters in
    let q = c.parameters.result in
    let g = c.waiting_rows.result in
    let cell = cell_of 2 w f.ends.items step place in
    let new = c.add_waiting_to_ends.new.ends in
    let Family : ℕ → ℕ → List ℕ → ℕ → Type 0 = λ n at samples more. copied 2 new k ≡ with_rows ends_step (row_behind (n + 2) w samples at place) more cell in
    subst (λ (more : ℕ). Family p (plane_start (p + 2) w step) f.samples.items more) c.waiting_rows.ensures.value
    (subst (λ (xs : List ℕ). Family p (plane_start (p + 2) w step) xs g) c.as_slice-2.ensures.value
    (subst (λ (at : ℕ). Family p at c.as_slice-2.result.now g) c.first_sample.ensures.value
    (subst (λ (n : ℕ). Family n c.first_sample.result c.as_slice-2.result.now g) c.parameters.ensures.value
    (copy_whole ends_step 2 g k (row_behind (q + 2) w c.as_slice-2.result.now c.first_sample.result place) c.copy_ends.new.columns new cell (length-cell 2 w f.ends.items step place)
    (copy_is 2 w step (step * 2) c.args.from c.args.count k f.ends.items c.as_slice.result.now c.copy_ends.new.columns c.as_slice.ensures.value refl k_in c.copy_ends.ensures)
    (c.add_waiting_to_ends.ensures k k_in)))))
