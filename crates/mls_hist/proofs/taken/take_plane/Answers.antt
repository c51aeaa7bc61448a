use Rattle.std.proofs.Common.{◌≡◌, ℕ, ◌+◌, ◌-◌, ◌*◌, List, inl, inr, refl, ap, ◌∙◌, sym, subst, arith}
use Rattle.std.specs.Prelude.{sum}
use Rattle.std.proofs.lemmas.Bool.{cases_lt}
use Rattle.mls_ckpt.specs.Reading.{many}
use Rattle.mls_ckpt.specs.States.{after_one}
use Rattle.mls_ckpt.specs.Places.{cursor_of}
use Rattle.mls_field.specs.Answered.{before}
use Rattle.mls_field.proofs.ReadInOrder.{goes_on, none_read}
use Rattle.mls_field.proofs.StoredPlaces.{answers_fault}
use Rattle.mls_hist.specs.HistPart.{counts_at}
use Rattle.mls_hist.specs.Histograms.{cell_start}
use Rattle.mls_hist.specs.Packed.{counts_from, packed_plane}
use Rattle.mls_hist.proofs.Taking.{plane_none, plane_more, counts_kept, plane_done, plane_refused}
use Rattle.mls_hist.proofs.taken.take_plane.Goals as goal

pub loop-place-init : goal.loop-place-init
loop-place-init c =
    let w = c.args.places in
    let start = cursor_of c.args.from.now in
    record {
      read = ap (λ (xs : List (List ℕ)). before xs (many (λ i from. counts_at c.args.n from) after_one (w - 0) 0 start)) (plane_none w c.args.plane c.args.bins.now) ∙ none_read (λ i from. counts_at c.args.n from) after_one w 0 start _ refl;
      whole = λ place low. absurd (omega (arith, low));
      earlier = λ j low. refl;
    }

pub loop-place-preserved : goal.loop-place-preserved
loop-place-preserved c =
    let w = c.args.places in
    let n = c.args.n in
    let plane = c.args.plane in
    let h = c.loop-place.invariant in
    let place = c.loop-place.place in
    let old = c.loop-place.bins in
    let new = c.take_counts.new.bins in
    let same = c.in_ok-take_counts.ensures.others.before in
    record {
      read = ap (λ (xs : List (List ℕ)). before xs (many (λ i from. counts_at n from) after_one (w - (place + 1)) (place + 1) (cursor_of c.take_counts.new.from))) (sym (plane_more w plane place old new same)) ∙
          goes_on (λ i from. counts_at n from) after_one w place place (packed_plane w old plane place) (counts_from new (cell_start w plane place)) (cursor_of c.loop-place.from) (cursor_of c.take_counts.new.from) _ (omega arith) c.in_ok-take_counts.ensures.exact h.read;
      whole = λ at low. elim (cases_lt at place) [
        | inl before' ↦ sym (ap sum (counts_kept old new (cell_start w plane place) (cell_start w plane at) (omega (arith, before')) same)) ∙ h.whole at before'
        | inr after ↦ subst (λ (m : ℕ). sum (counts_from new (cell_start w plane m)) ≡ 2 * n) (let e : place ≡ at = omega (arith, low, after) in e) c.in_ok-take_counts.ensures.whole
      ];
      earlier = λ j low. same j (omega (arith, low)) ∙ h.earlier j low;
    }

pub returns-in_err-take_counts-clause-exact : goal.returns-in_err-take_counts-clause-exact
returns-in_err-take_counts-clause-exact c = λ s rank wide.
    answers_fault _ _ c.from_residual.result c.in_err-take_counts.field-0.0 _ c.from_residual.ensures.1
    (plane_refused s rank c.args.places c.args.n c.loop-place.place _ (cursor_of c.args.from.now) (cursor_of c.loop-place.from) c.in_err-take_counts.field-0.0 wide (omega arith) c.in_err-take_counts.ensures.exact c.loop-place.invariant.read)

pub returns-clause-exact : goal.returns-clause-exact
returns-clause-exact c = λ s rank wide. plane_done s rank c.args.places c.args.n c.args.plane c.loop-place.place c.loop-place.bins (cursor_of c.args.from.now) (cursor_of c.loop-place.from) wide (omega arith) c.loop-place.invariant.read
