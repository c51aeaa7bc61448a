use Rattle.std.proofs.Common.{◌++◌, List, refl, sym, ap, ◌∙◌, arith}
use Rattle.std.proofs.lemmas.List.{append-nil}
use Rattle.mls_model.specs.Frames.{Frame}
use Rattle.mls_frame.specs.Views.{frame_of}
use Rattle.mls_frame.proofs.Places.{AreBytes-drop}
use Rattle.mls_tape.specs.Scans.{starts_from}
use Rattle.mls_tape.proofs.LaneLemmas.{is_step, stops, starts_step}
use Rattle.mls_tape.proofs.scanning.add_starts.Goals as goal

pub loop-used-init : goal.loop-used-init
loop-used-init c = record { bytes = λ i. omega (arith, c.type_inv.lane i); starts = refl; within = refl }

pub loop-used-preserved : goal.loop-used-preserved
loop-used-preserved c =
    let s = is_step c.loop-used.rest.now (frame_of c.in-Whole.frame) c.in-Whole.used c.loop-used.invariant.bytes (sym c.in-Whole.ensures.exact) in
    rw (c.split_at.ensures.back, c.in_ok-push.ensures.items) (record {
      bytes = AreBytes-drop c.in-Whole.used c.loop-used.rest.now c.loop-used.invariant.bytes;
      starts = starts_step c.loop-used.starts.items c.loop-used.at c.loop-used.rest.now (frame_of c.in-Whole.frame) c.in-Whole.used s ∙ c.loop-used.invariant.starts;
      within = omega (arith, s.left, c.loop-used.invariant.within);
    })

pub returns : goal.returns
returns c =
    let e = stops c.loop-used.rest.now c.view.result c.view.ensures.exact c.in_default.not-Whole in
    sym (append-nil c.loop-used.starts.items) ∙ ap (λ (fs : List Frame). c.loop-used.starts.items ++ starts_from c.loop-used.at fs) (sym e.0) ∙ c.loop-used.invariant.starts
