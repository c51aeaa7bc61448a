use Rattle.std.proofs.Common.{ℕ, ◌+◌, ◌*◌, List, length, ap, ◌∙◌, sym, subst, arith}
use Rattle.mls_model.specs.Studies.{planes}
use Rattle.mls_field.specs.Cells.{cell_of, with_rows}
use Rattle.mls_field.specs.ColumnSums.{sums_size, sums_step}
use Rattle.mls_field.specs.Gathered.{row_behind, plane_start}
use Rattle.mls_field.specs.Kinds.{SumsWithin}
use Rattle.mls_field.specs.Kept.{sums_in_cell}
use Rattle.mls_field.specs.OneCell.{SameFront, HasRoomFor}
use Rattle.mls_field.specs.Stands.{row_count}
use Rattle.mls_field.proofs.WholeCells.{length-cell}
use Rattle.mls_field.proofs.Whole.{here, columns_fit, cell_read, sums_front, sums_whole, room_for_rows}
use Rattle.mls_field.proofs.field.Field.whole_sums.Goals as goal
use Rattle.mls_field.proofs.field.Field.whole_sums.Goals.{After-read_sums-sums, After-add_rows_to_sums}

pub read_sums-sums-requires-clause-place : goal.read_sums-sums-requires-clause-place
read_sums-sums-requires-clause-place c = here c.args.self.now c.args.cell c.requires.cell_in

pub read_sums-sums-requires-clause-words : goal.read_sums-sums-requires-clause-words
read_sums-sums-requires-clause-words c =
    let f = c.args.self.now in
    rw c.parameters-parameters.ensures.value (columns_fit (sums_size f.shape.parameters) f.places c.args.step (planes f.shape) _ c.requires.step_in (ap length c.as_slice.ensures.value ∙ f.kept.sums_in.long))

-- what was read
read : (c : After-read_sums-sums) → let f = c.args.self.now in let q = c.parameters-parameters.result in SameFront (sums_size q) c.read_sums-sums.result (cell_of (sums_size q) f.places f.sums.items c.args.step c.args.cell)
read c =
    let f = c.args.self.now in
    cell_read (8 + 4 * c.parameters-parameters.result) f.places c.args.step c.args.cell f.sums.items c.as_slice.result.now c.read_sums-sums.result c.as_slice.ensures.value c.read_sums-sums.ensures

pub add_rows_to_sums-requires-clause-place : goal.add_rows_to_sums-requires-clause-place
add_rows_to_sums-requires-clause-place c = here c.args.self.now c.args.cell c.requires.cell_in

pub add_rows_to_sums-requires-clause-samples : goal.add_rows_to_sums-requires-clause-samples
add_rows_to_sums-requires-clause-samples c = rw c.parameters-parameters.ensures.value (omega (arith, c.first_sample-start.ensures.fits, ap length c.as_slice-samples.ensures.value))

pub add_rows_to_sums-requires-clause-room : goal.add_rows_to_sums-requires-clause-room
add_rows_to_sums-requires-clause-room c =
    let f = c.args.self.now in
    let d = (goal.at.add_rows_to_sums-requires-clause-room c).After-read_sums-sums in
    let sums = c.read_sums-sums.result in
    subst (λ (q : ℕ). HasRoomFor (SumsWithin q) c.waiting_rows-waiting.result sums) (sym c.parameters-parameters.ensures.value)
    (room_for_rows f c.args.step c.args.cell c.waiting_rows-waiting.result sums c.requires.step_in (here f c.args.cell c.requires.cell_in) c.waiting_rows-waiting.ensures.value
    (subst (λ (q : ℕ). SameFront (sums_size q) sums (cell_of (sums_size q) f.places f.sums.items c.args.step c.args.cell)) c.parameters-parameters.ensures.value (read d)))

-- the rows that wait were added to it
front : (c : After-add_rows_to_sums) → let f = c.args.self.now in SameFront (sums_size f.shape.parameters) c.add_rows_to_sums.new.sums (sums_in_cell f c.args.step c.args.cell)
front c =
    let f = c.args.self.now in
    let w = f.places in
    let step = c.args.step in
    let place = c.args.cell in
    let p = f.shape.parameters in
    let q = c.parameters-parameters.result in
    let g = c.waiting_rows-waiting.result in
    let start = plane_start (p + 2) w step in
    let Family : ℕ → ℕ → List ℕ → ℕ → Type 0 = λ n at samples more. SameFront (sums_size n) c.add_rows_to_sums.new.sums (with_rows (sums_step n) (row_behind (n + 2) w samples at place) more (cell_of (sums_size n) w f.sums.items step place)) in
    subst (λ (more : ℕ). Family p start f.samples.items more) c.waiting_rows-waiting.ensures.value
    (subst (λ (xs : List ℕ). Family p start xs g) c.as_slice-samples.ensures.value
    (subst (λ (at : ℕ). Family p at c.as_slice-samples.result.now g) c.first_sample-start.ensures.value
    (subst (λ (n : ℕ). Family n c.first_sample-start.result c.as_slice-samples.result.now g) c.parameters-parameters.ensures.value
    (c.add_rows_to_sums.ensures.whole (cell_of (sums_size q) w f.sums.items step place) (length-cell (sums_size q) w f.sums.items step place)
    (cell_read (8 + 4 * q) w step place f.sums.items c.as_slice.result.now c.read_sums-sums.result c.as_slice.ensures.value c.read_sums-sums.ensures)))))

pub returns-clause-front : goal.returns-clause-front
returns-clause-front c = front (goal.at.returns-clause-front c).After-add_rows_to_sums

pub returns-clause-range : goal.returns-clause-range
returns-clause-range c =
    let f = c.args.self.now in
    sums_front f.shape.parameters (row_count f c.args.step) c.add_rows_to_sums.new.sums (sums_in_cell f c.args.step c.args.cell) (front (goal.at.returns-clause-range c).After-add_rows_to_sums)
    (sums_whole f c.args.step c.args.cell c.requires.step_in (here f c.args.cell c.requires.cell_in))
