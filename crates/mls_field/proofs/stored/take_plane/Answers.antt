use Rattle.std.proofs.Common.{◌≡◌, ℕ, ◌+◌, ◌-◌, ◌<◌, List, length, inl, inr, refl, ap, ◌∙◌, sym, subst, arith}
use Rattle.std.proofs.lemmas.Bool.{cases_lt}
use Rattle.mls_model.specs.CellSums.{CellSums}
use Rattle.mls_ckpt.specs.Reading.{many}
use Rattle.mls_ckpt.specs.States.{after_one}
use Rattle.mls_ckpt.specs.Places.{cursor_of}
use Rattle.mls_ckpt.specs.CellParts.{cell_at}
use Rattle.mls_field.specs.Answered.{before}
use Rattle.mls_field.specs.PackedCells.{PackedWithin, packed_plane}
use Rattle.mls_field.specs.Taken.{cell_taken}
use Rattle.mls_field.proofs.ReadInOrder.{goes_on, none_read}
use Rattle.mls_field.proofs.StoredPlaces.{IsStored, other_cells, cell_stored, stored_within, same_within, same_trans, plane_more, no_cells, plane_done, plane_refused, answers_fault}
use Rattle.mls_field.proofs.stored.take_plane.Goals as goal

pub loop-place-init : goal.loop-place-init
loop-place-init c =
    let s = c.args.shape.now in
    let w = c.args.places in
    let start = cursor_of c.args.from.now in
    record {
      read = ap (λ (xs : List CellSums). before xs (many (λ i from. cell_at s c.args.n from) after_one (w - 0) 0 start)) (no_cells s w c.args.sums.now c.args.ends.now c.args.numbers.now c.args.n c.args.plane) ∙ none_read (λ i from. cell_at s c.args.n from) after_one w 0 start _ refl;
      within = λ place low. absurd (omega (arith, low));
      others = λ other place low inside. record { sums_same = refl; ends_same = refl; numbers_same = refl };
    }

pub loop-place-preserved : goal.loop-place-preserved
loop-place-preserved c =
    let s = c.args.shape.now in
    let w = c.args.places in
    let n = c.args.n in
    let plane = c.args.plane in
    let h = c.loop-place.invariant in
    let place = c.loop-place.place in
    let cell = c.in_ok-cell.cell in
    let inside : place < w = omega arith in
    let is : IsStored s w plane place c.loop-place.sums c.loop-place.ends c.loop-place.numbers c.store.new.sums c.store.new.ends c.store.new.numbers cell.sums cell.ends cell.numbers = record { inside = inside; sums_put = c.store.ensures.sums; ends_put = c.store.ensures.ends; numbers_put = c.store.ensures.numbers; sums_long = c.store.ensures.room_for_sums; numbers_long = c.store.ensures.room_for_numbers } in
    record {
      read = ap (λ (xs : List CellSums). before xs (many (λ i from. cell_at s n from) after_one (w - (place + 1)) (place + 1) (cursor_of c.take_cell.new.from)))
          (sym (plane_more s w c.loop-place.sums c.loop-place.ends c.loop-place.numbers c.store.new.sums c.store.new.ends c.store.new.numbers n plane place (cell_taken s.parameters (length s.thresholds) n cell)
          (λ at low. other_cells s w plane place _ _ _ _ _ _ cell.sums cell.ends cell.numbers is plane at (omega (arith, low, inside)) (λ _ e. omega (arith, e, low)))
          (cell_stored s w plane place _ _ _ _ _ _ cell.sums cell.ends cell.numbers is n))) ∙
          goes_on (λ i from. cell_at s n from) after_one w place place (packed_plane s w c.loop-place.sums c.loop-place.ends c.loop-place.numbers n plane place) (cell_taken s.parameters (length s.thresholds) n cell) (cursor_of c.loop-place.from) (cursor_of c.take_cell.new.from) _ inside c.in_ok-cell.ensures.exact h.read;
      within = λ at low. elim (cases_lt at place) [
        | inl before' ↦ same_within s w c.loop-place.sums c.loop-place.ends c.loop-place.numbers c.store.new.sums c.store.new.ends c.store.new.numbers n plane at (other_cells s w plane place _ _ _ _ _ _ cell.sums cell.ends cell.numbers is plane at (omega (arith, before', inside)) (λ _ e. omega (arith, e, before'))) (h.within at before')
        | inr after ↦ subst (λ (m : ℕ). PackedWithin s w c.store.new.sums c.store.new.ends c.store.new.numbers n plane m) (let e : place ≡ at = omega (arith, low, after) in e) (stored_within s w plane place _ _ _ _ _ _ cell.sums cell.ends cell.numbers is n c.in_ok-cell.ensures.within)
      ];
      others = λ other at low at_in. same_trans s w c.args.sums.now c.args.ends.now c.args.numbers.now c.loop-place.sums c.loop-place.ends c.loop-place.numbers c.store.new.sums c.store.new.ends c.store.new.numbers other at (h.others other at low at_in)
          (other_cells s w plane place _ _ _ _ _ _ cell.sums cell.ends cell.numbers is other at at_in (λ e _. omega (arith, e, low)));
    }

pub returns-in_err-cell-clause-exact : goal.returns-in_err-cell-clause-exact
returns-in_err-cell-clause-exact c = λ rank wide.
    answers_fault _ _ c.from_residual.result c.in_err-cell.field-0.0 _ c.from_residual.ensures.1
    (plane_refused c.args.shape.now rank c.args.places c.args.n c.loop-place.place _ (cursor_of c.args.from.now) (cursor_of c.loop-place.from) c.in_err-cell.field-0.0 wide (omega arith) c.in_err-cell.ensures.exact c.loop-place.invariant.read)

pub returns-clause-exact : goal.returns-clause-exact
returns-clause-exact c = λ rank wide. plane_done c.args.shape.now rank c.args.places c.args.n c.args.plane c.loop-place.place c.loop-place.sums c.loop-place.ends c.loop-place.numbers (cursor_of c.args.from.now) (cursor_of c.loop-place.from) wide (omega arith) c.loop-place.invariant.read
