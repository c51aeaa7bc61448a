use Rattle.std.proofs.Common.{arith, ◌≡◌, ◌+◌, ◌%◌, ap, ◌∙◌}
use Rattle.mls_model.specs.Designs.{response}
use Rattle.mls_design.proofs.Pieces.{row_more}
use Rattle.mls_design.proofs.Inputs.{same_response, turn_of}
use Rattle.mls_design.proofs.piece.add_row.Goals as goal

pub loop-place-preserved : goal.loop-place-preserved
loop-place-preserved c =
    let first = c.args.cells.first in
    let step = c.args.step in
    let field = c.args.field in
    let inputs = c.args.inputs.now in
    let shift = first + step + field in
    let place = c.loop-place.place in
    let start : shift ≡ shift + 0 = omega arith in
    let own = c.response_at.ensures (λ k. response (shift + k) inputs) (c.cycle_of-cycle.ensures.first ∙ ap (λ s. response s inputs) start) c.cycle_of-cycle.ensures.second c.cycle_of-cycle.ensures.third c.cycle_of-cycle.ensures.fourth in
    row_more (λ x. response (first + x + step + field) inputs) place c.response_at.result c.args.samples.now c.loop-place.samples c.push.new.self c.loop-place.invariant c.in_ok-push.ensures.ok
    (own ∙ same_response (shift + place % 4) (first + place + step + field) inputs (turn_of first place step field))
