use Rattle.std.proofs.Common.{◌≡◌, ℕ, ◌+◌, ◌*◌, ◌<◌, List, length, ap, refl, ◌∙◌, subst, arith}
use Rattle.mls_model.specs.Studies.{planes}
use Rattle.mls_field.specs.Cells.{cell_of, with_rows}
use Rattle.mls_field.specs.Copied.{copied}
use Rattle.mls_field.specs.OutputSteps.{numbers_step}
use Rattle.mls_field.specs.Gathered.{row_behind, plane_start}
use Rattle.mls_field.specs.OneCell.{SameFront}
use Rattle.mls_field.proofs.WholeCells.{length-cell}
use Rattle.mls_field.proofs.Whole.{columns_fit, room_for_numbers_read}
use Rattle.mls_field.proofs.FourCopied.{entry}
use Rattle.mls_field.proofs.CopiedCells.{copy_is, copy_whole}
use Rattle.mls_field.proofs.field.Field.copy_numbers.Goals as goal
use Rattle.mls_field.proofs.field.Field.copy_numbers.Goals.{After-copy_numbers}

pub copy_numbers-requires-clause-numbers : goal.copy_numbers-requires-clause-numbers
copy_numbers-requires-clause-numbers c =
    let f = c.args.self.now in
    rw c.thresholds-size.ensures.value (columns_fit (length f.shape.thresholds) f.places c.args.step (planes f.shape) _ c.requires.step_in (ap length c.as_slice.ensures.value ∙ f.kept.numbers_in.long))

-- what was copied
read : (c : After-copy_numbers) → (k : ℕ) → k < c.args.count → let f = c.args.self.now in SameFront (length f.shape.thresholds) (copied (length f.shape.thresholds) c.copy_numbers.new.columns k) (cell_of (length f.shape.thresholds) f.places f.numbers.items c.args.step (c.args.from + k))
read c k k_in =
    let f = c.args.self.now in
    let q = c.thresholds-size.result in
    subst (λ (n : ℕ). SameFront n (copied n c.copy_numbers.new.columns k) (cell_of n f.places f.numbers.items c.args.step (c.args.from + k))) c.thresholds-size.ensures.value
    (copy_is q f.places c.args.step (c.args.step * q) c.args.from c.args.count k f.numbers.items c.as_slice.result.now c.copy_numbers.new.columns c.as_slice.ensures.value refl k_in c.copy_numbers.ensures)

pub add_waiting_to_numbers-requires-clause-room : goal.add_waiting_to_numbers-requires-clause-room
add_waiting_to_numbers-requires-clause-room c = λ d k d_in k_in.
    let f = c.args.self.now in
    let size = length f.shape.thresholds in
    let columns = c.copy_numbers.new.columns in
    omega (arith, entry size k columns d d_in, room_for_numbers_read f c.args.step (c.args.from + k) c.waiting_rows.result (copied size columns k) c.requires.step_in (omega (arith, f.kept.block_width, c.requires.inside, k_in)) c.waiting_rows.ensures.value (read (goal.at.add_waiting_to_numbers-requires-clause-room c).After-copy_numbers k k_in) d d_in)

pub returns : goal.returns
returns c = λ k k_in.
    let f = c.args.self.now in
    let w = f.places in
    let step = c.args.step in
    let place = c.args.from + k in
    let p = f.shape.parameters in
    let ts = f.shape.thresholds in
    let g = c.waiting_rows.result in
    let cell = cell_of (length ts) w f.numbers.items step place in
    let new = c.add_waiting_to_numbers.new.numbers in
    let Family : ℕ → List ℕ → ℕ → Type 0 = λ at samples more. copied (length ts) new k ≡ with_rows (numbers_step ts) (row_behind (p + 2) w samples at place) more cell in
    subst (λ (more : ℕ). Family (plane_start (p + 2) w step) f.samples.items more) c.waiting_rows.ensures.value
    (subst (λ (xs : List ℕ). Family (plane_start (p + 2) w step) xs g) c.as_slice-2.ensures.value
    (subst (λ (at : ℕ). Family at c.as_slice-2.result.now g) c.first_sample.ensures.value
    (copy_whole (numbers_step ts) (length ts) g k (row_behind (p + 2) w c.as_slice-2.result.now c.first_sample.result place) c.copy_numbers.new.columns new cell (length-cell (length ts) w f.numbers.items step place)
    (read (goal.at.returns c).After-copy_numbers k k_in) (c.add_waiting_to_numbers.ensures k k_in))))
