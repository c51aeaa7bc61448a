use Rattle.std.proofs.Common.{◌≡◌, ℕ, ◌+◌, ◌*◌, ◌<◌, List, length, ap, refl, ◌∙◌, sym, subst, arith}
use Rattle.mls_model.specs.Studies.{planes}
use Rattle.mls_field.specs.Cells.{cell_of, with_rows}
use Rattle.mls_field.specs.ColumnSums.{sums_size, sums_step}
use Rattle.mls_field.specs.Copied.{copied}
use Rattle.mls_field.specs.Gathered.{row_behind, plane_start}
use Rattle.mls_field.specs.Kinds.{SumsWithin}
use Rattle.mls_field.specs.OneCell.{SameFront, HasRoomFor}
use Rattle.mls_field.proofs.WholeCells.{length-cell}
use Rattle.mls_field.proofs.Whole.{columns_fit, room_for_rows}
use Rattle.mls_field.proofs.CopiedCells.{copy_is, copy_whole}
use Rattle.mls_field.proofs.field.Field.copy_sums.Goals as goal
use Rattle.mls_field.proofs.field.Field.copy_sums.Goals.{After-copy_sums}

pub copy_sums-requires-clause-words : goal.copy_sums-requires-clause-words
copy_sums-requires-clause-words c =
    let f = c.args.self.now in
    rw c.parameters-parameters.ensures.value (columns_fit (sums_size f.shape.parameters) f.places c.args.step (planes f.shape) _ c.requires.step_in (ap length c.as_slice.ensures.value ∙ f.kept.sums_in.long))

-- what was copied
read : (c : After-copy_sums) → (k : ℕ) → k < c.args.count → let f = c.args.self.now in let q = c.parameters-parameters.result in SameFront (sums_size q) (copied (sums_size q) c.copy_sums.new.columns k) (cell_of (sums_size q) f.places f.sums.items c.args.step (c.args.from + k))
read c k k_in =
    let f = c.args.self.now in
    let q = c.parameters-parameters.result in
    copy_is (sums_size q) f.places c.args.step (c.args.step * sums_size q) c.args.from c.args.count k f.sums.items c.as_slice.result.now c.copy_sums.new.columns c.as_slice.ensures.value refl k_in c.copy_sums.ensures

pub add_waiting_to_sums-requires-clause-room : goal.add_waiting_to_sums-requires-clause-room
add_waiting_to_sums-requires-clause-room c = λ k k_in.
    let f = c.args.self.now in
    let d = (goal.at.add_waiting_to_sums-requires-clause-room c).After-copy_sums in
    let columns = c.copy_sums.new.columns in
    subst (λ (q : ℕ). HasRoomFor (SumsWithin q) c.waiting_rows.result (copied (sums_size q) columns k)) (sym c.parameters-parameters.ensures.value)
    (room_for_rows f c.args.step (c.args.from + k) c.waiting_rows.result (copied (sums_size f.shape.parameters) columns k) c.requires.step_in (omega (arith, f.kept.block_width, c.requires.inside, k_in)) c.waiting_rows.ensures.value
    (subst (λ (q : ℕ). SameFront (sums_size q) (copied (sums_size q) columns k) (cell_of (sums_size q) f.places f.sums.items c.args.step (c.args.from + k))) c.parameters-parameters.ensures.value (read d k k_in)))

pub returns : goal.returns
returns c = λ k k_in.
    let f = c.args.self.now in
    let w = f.places in
    let step = c.args.step in
    let place = c.args.from + k in
    let p = f.shape.parameters in
    let q = c.parameters-parameters.result in
    let g = c.waiting_rows.result in
    let start = plane_start (p + 2) w step in
    let new = c.add_waiting_to_sums.new.sums in
    let Family : ℕ → ℕ → List ℕ → ℕ → Type 0 = λ n at samples more. copied (sums_size n) new k ≡ with_rows (sums_step n) (row_behind (n + 2) w samples at place) more (cell_of (sums_size n) w f.sums.items step place) in
    subst (λ (more : ℕ). Family p start f.samples.items more) c.waiting_rows.ensures.value
    (subst (λ (xs : List ℕ). Family p start xs g) c.as_slice-2.ensures.value
    (subst (λ (at : ℕ). Family p at c.as_slice-2.result.now g) c.first_sample.ensures.value
    (subst (λ (n : ℕ). Family n c.first_sample.result c.as_slice-2.result.now g) c.parameters-parameters.ensures.value
    (copy_whole (sums_step q) (sums_size q) g k (row_behind (q + 2) w c.as_slice-2.result.now c.first_sample.result place) c.copy_sums.new.columns new (cell_of (sums_size q) w f.sums.items step place) (length-cell (sums_size q) w f.sums.items step place)
    (read (goal.at.returns c).After-copy_sums k k_in) (c.add_waiting_to_sums.ensures k k_in)))))
