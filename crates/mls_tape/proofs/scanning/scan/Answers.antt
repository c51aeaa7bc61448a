use Rattle.std.proofs.Common.{◌≡◌, length, map, refl, sym, ap, ◌∙◌, arith, List}
use Rattle.mls_model.specs.Numbers.{joined}
use Rattle.mls_model.specs.Frames.{Frame, spelling}
use Rattle.mls_model.specs.Lanes.{lane_frames, lane_rest, end_at}
use Rattle.mls_frame.specs.Views.{frame_of}
use Rattle.mls_frame.proofs.Places.{AreBytes-drop}
use Rattle.mls_tape.proofs.LaneLemmas.{is_step, stops}
use Rattle.mls_tape.proofs.scanning.scan.Goals as goal

pub loop-used-init : goal.loop-used-init
loop-used-init c = record { bytes = λ i. omega (arith, c.type_inv.lane i); events = omega arith; place = omega arith; left = refl; few = omega arith; within = omega arith }

pub loop-used-preserved : goal.loop-used-preserved
loop-used-preserved c =
    let s = is_step c.loop-used.rest.now (frame_of c.in-Whole.frame) c.in-Whole.used c.loop-used.invariant.bytes (sym c.in-Whole.ensures.exact) in
    let i = c.loop-used.invariant in
    rw c.split_at.ensures.back (record {
      bytes = AreBytes-drop c.in-Whole.used c.loop-used.rest.now i.bytes;
      events = omega (arith, s.count, i.events);
      place = omega (arith, s.size, i.place);
      left = sym s.rest ∙ i.left;
      few = omega (arith, s.left, s.some, i.few);
      within = omega (arith, s.left, i.within);
    })

pub returns-clause-events : goal.returns-clause-events
returns-clause-events c =
    let e = stops c.loop-used.rest.now c.view.result c.view.ensures.exact c.in_default.not-Whole in
    omega (arith, ap (λ (fs : List Frame). length fs) e.0, c.loop-used.invariant.events)

pub returns-clause-end : goal.returns-clause-end
returns-clause-end c =
    let e = stops c.loop-used.rest.now c.view.result c.view.ensures.exact c.in_default.not-Whole in
    let place : c.loop-used.at ≡ length (joined (map spelling (lane_frames c.args.lane.now))) = omega (arith, ap (λ (fs : List Frame). length (joined (map spelling fs))) e.0, c.loop-used.invariant.place) in
    let left : c.loop-used.rest.now ≡ lane_rest c.args.lane.now = sym e.1 ∙ c.loop-used.invariant.left in
    c.end_at.ensures ∙ ap (λ n. end_at n c.loop-used.rest.now) place ∙ ap (λ t. end_at (length (joined (map spelling (lane_frames c.args.lane.now)))) t) left
