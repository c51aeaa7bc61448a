use Rattle.std.proofs.Common.{◌≡◌, ℕ, ◌+◌, ◌-◌, ◌*◌, List, length, get_or, inl, inr, refl, ap, ◌∙◌, sym, subst, arith}
use Rattle.std.specs.Prelude.{sum}
use Rattle.std.proofs.lemmas.Bool.{cases_lt}
use Rattle.mls_ckpt.specs.Reading.{many}
use Rattle.mls_ckpt.specs.States.{after_one}
use Rattle.mls_ckpt.specs.Places.{cursor_of}
use Rattle.mls_field.specs.Answered.{before}
use Rattle.mls_field.proofs.Grid.{plane_before}
use Rattle.mls_field.proofs.ReadInOrder.{goes_on, none_read}
use Rattle.mls_field.proofs.StoredPlaces.{answers_fault}
use Rattle.mls_hist.specs.HistPart.{plane_at}
use Rattle.mls_hist.specs.Histograms.{cell_start}
use Rattle.mls_hist.specs.Packed.{counts_from, packed_plane, packed_cells}
use Rattle.mls_hist.proofs.Taking.{cells_none, cells_more, counts_kept, cells_done, cells_refused}
use Rattle.mls_hist.proofs.taken.take_planes.Goals as goal

pub loop-plane-init : goal.loop-plane-init
loop-plane-init c =
    let n = length c.args.counts.now in
    let start = cursor_of c.args.from.now in
    record {
      read = λ s rank wide.
          ap (λ (xs : List (List (List ℕ))). before xs (many (λ plane from. plane_at s rank (get_or c.args.counts.now plane 0) from) after_one (n - 0) 0 start)) (cells_none c.args.places c.args.bins.now) ∙ none_read (λ plane from. plane_at s rank (get_or c.args.counts.now plane 0) from) after_one n 0 start _ refl;
      whole = λ plane place low inside. absurd (omega (arith, low));
    }

pub loop-plane-preserved : goal.loop-plane-preserved
loop-plane-preserved c =
    let w = c.args.places in
    let counts = c.args.counts.now in
    let h = c.loop-plane.invariant in
    let plane = c.loop-plane.plane in
    let made = c.in_ok-take_plane.ensures in
    let old = c.loop-plane.bins in
    let new = c.take_plane.new.bins in
    record {
      read = λ s rank wide.
          ap (λ (xs : List (List (List ℕ))). before xs (many (λ plane from. plane_at s rank (get_or counts plane 0) from) after_one (length counts - (plane + 1)) (plane + 1) (cursor_of c.take_plane.new.from))) (sym (cells_more w plane old new made.before)) ∙
          goes_on (λ plane from. plane_at s rank (get_or counts plane 0) from) after_one (length counts) plane plane (packed_cells w old plane) (packed_plane w new plane w) (cursor_of c.loop-plane.from) (cursor_of c.take_plane.new.from) _ (omega arith) (made.exact s rank wide) (h.read s rank wide);
      whole = λ other at low at_in. elim (cases_lt other plane) [
        | inl before' ↦ sym (ap sum (counts_kept old new (plane * w * 64) (cell_start w other at) (omega (arith, plane_before other plane w before', at_in)) made.before)) ∙ h.whole other at before' at_in
        | inr after ↦ subst (λ (m : ℕ). sum (counts_from new (cell_start w m at)) ≡ 2 * get_or counts m 0) (let e : plane ≡ other = omega (arith, low, after) in e) (made.whole at at_in)
      ];
    }

pub returns-clause-exact : goal.returns-clause-exact
returns-clause-exact c = λ s rank size wide. cells_done s rank c.args.places c.loop-plane.plane c.args.counts.now c.loop-plane.bins (cursor_of c.args.from.now) (cursor_of c.loop-plane.from) size (omega arith) (c.loop-plane.invariant.read s rank wide)

pub returns-in_err-take_plane-clause-exact : goal.returns-in_err-take_plane-clause-exact
returns-in_err-take_plane-clause-exact c = λ s rank size wide.
    answers_fault _ _ c.from_residual.result c.in_err-take_plane.field-0.0 _ c.from_residual.ensures.1
    (cells_refused s rank c.loop-plane.plane c.args.counts.now _ (cursor_of c.args.from.now) (cursor_of c.loop-plane.from) c.in_err-take_plane.field-0.0 size (omega arith) (c.in_err-take_plane.ensures.exact s rank wide) (c.loop-plane.invariant.read s rank wide))
