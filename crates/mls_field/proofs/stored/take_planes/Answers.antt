use Rattle.std.proofs.Common.{◌≡◌, ℕ, ◌+◌, ◌-◌, ◌<◌, List, get_or, inl, inr, refl, ap, ◌∙◌, sym, subst, arith}
use Rattle.std.proofs.lemmas.Bool.{cases_lt}
use Rattle.mls_model.specs.CellSums.{CellSums}
use Rattle.mls_model.specs.Studies.{planes}
use Rattle.mls_ckpt.specs.Reading.{many}
use Rattle.mls_ckpt.specs.States.{after_one}
use Rattle.mls_ckpt.specs.Places.{cursor_of}
use Rattle.mls_ckpt.specs.CellParts.{plane_at}
use Rattle.mls_field.specs.Answered.{before}
use Rattle.mls_field.specs.PackedCells.{PackedWithin, packed_plane, packed_cells}
use Rattle.mls_field.proofs.ReadInOrder.{goes_on, none_read}
use Rattle.mls_field.proofs.StoredPlaces.{same_within, cells_more, no_planes, cells_done, cells_refused, answers_fault}
use Rattle.mls_field.proofs.stored.take_planes.Goals as goal

pub loop-plane-init : goal.loop-plane-init
loop-plane-init c =
    let s = c.args.shape.now in
    let w = c.args.places in
    let start = cursor_of c.args.from.now in
    record {
      read = λ rank wide.
          ap (λ (xs : List (List CellSums)). before xs (many (λ plane from. plane_at s rank (get_or c.args.counts.now plane 0) from) after_one (planes s - 0) 0 start)) (no_planes s w c.args.sums.now c.args.ends.now c.args.numbers.now c.args.counts.now) ∙ none_read (λ plane from. plane_at s rank (get_or c.args.counts.now plane 0) from) after_one (planes s) 0 start _ refl;
      within = λ plane place low inside. absurd (omega (arith, low));
    }

pub loop-plane-preserved : goal.loop-plane-preserved
loop-plane-preserved c =
    let s = c.args.shape.now in
    let w = c.args.places in
    let counts = c.args.counts.now in
    let h = c.loop-plane.invariant in
    let plane = c.loop-plane.plane in
    let n = get_or counts plane 0 in
    let made = c.in_ok-take_plane.ensures in
    let inside : plane < planes s = omega (arith, c.requires.each) in
    record {
      read = λ rank wide.
          ap (λ (xs : List (List CellSums)). before xs (many (λ plane from. plane_at s rank (get_or counts plane 0) from) after_one (planes s - (plane + 1)) (plane + 1) (cursor_of c.take_plane.new.from)))
          (sym (cells_more s w c.loop-plane.sums c.loop-plane.ends c.loop-plane.numbers c.take_plane.new.sums c.take_plane.new.ends c.take_plane.new.numbers counts plane made.others)) ∙
          goes_on (λ plane from. plane_at s rank (get_or counts plane 0) from) after_one (planes s) plane plane (packed_cells s w c.loop-plane.sums c.loop-plane.ends c.loop-plane.numbers counts plane) (packed_plane s w c.take_plane.new.sums c.take_plane.new.ends c.take_plane.new.numbers n plane w) (cursor_of c.loop-plane.from) (cursor_of c.take_plane.new.from) _ inside (made.exact rank wide) (h.read rank wide);
      within = λ other at low at_in. elim (cases_lt other plane) [
        | inl before' ↦ same_within s w c.loop-plane.sums c.loop-plane.ends c.loop-plane.numbers c.take_plane.new.sums c.take_plane.new.ends c.take_plane.new.numbers (get_or counts other 0) other at (made.others other at before' at_in) (h.within other at before' at_in)
        | inr after ↦ subst (λ (m : ℕ). PackedWithin s w c.take_plane.new.sums c.take_plane.new.ends c.take_plane.new.numbers (get_or counts m 0) m at) (let e : plane ≡ other = omega (arith, low, after) in e) (made.within at at_in)
      ];
    }

pub returns-clause-exact : goal.returns-clause-exact
returns-clause-exact c = λ rank wide. cells_done c.args.shape.now rank c.args.places c.loop-plane.plane c.args.counts.now c.loop-plane.sums c.loop-plane.ends c.loop-plane.numbers (cursor_of c.args.from.now) (cursor_of c.loop-plane.from) (omega (arith, c.requires.each)) (c.loop-plane.invariant.read rank wide)

pub returns-in_err-take_plane-clause-exact : goal.returns-in_err-take_plane-clause-exact
returns-in_err-take_plane-clause-exact c = λ rank wide.
    answers_fault _ _ c.from_residual.result c.in_err-take_plane.field-0.0 _ c.from_residual.ensures.1
    (cells_refused c.args.shape.now rank c.loop-plane.plane c.args.counts.now _ (cursor_of c.args.from.now) (cursor_of c.loop-plane.from) c.in_err-take_plane.field-0.0 (omega (arith, c.requires.each)) (c.in_err-take_plane.ensures.exact rank wide) (c.loop-plane.invariant.read rank wide))
