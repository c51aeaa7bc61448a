use Rattle.std.proofs.Common.{arith, ◌+◌, ◌≤◌, ◌∙◌, subst, sym, map}
use Rattle.mls_model.specs.Numbers.{below}
use Rattle.mls_model.specs.Blocks.{width}
use Rattle.mls_model.specs.Designs.{response, solved_row}
use Rattle.mls_design.proofs.Drawing.{groups_are}
use Rattle.mls_design.proofs.Inputs.{response_of_inputs}
use Rattle.mls_design.proofs.Pieces.{row_is, rows_more}
use Rattle.mls_design.proofs.piece.group_rows.Goals as goal

pub inputs-inputs-requires : goal.inputs-inputs-requires
inputs-inputs-requires c = omega (arith, groups_are c.args.study.now c.args.design.now c.requires.made)

pub add_row-requires-clause-fits : goal.add_row-requires-clause-fits
add_row-requires-clause-fits c = λ shift.
    subst (λ ss. response shift ss ≤ 65535) (sym (c.as_slice.ensures.value ∙ c.inputs-inputs.ensures.value c.args.study.now c.requires.made))
    (response_of_inputs c.args.study.now c.args.group c.loop-sim.sim shift (omega (arith, c.valid.ensures.count, c.valid.ensures.sizes.parameters)))

pub loop-sim-preserved : goal.loop-sim-preserved
loop-sim-preserved c =
    let study = c.args.study.now in
    let cells = c.args.cells in
    rows_more (λ sim. solved_row study c.args.group sim c.args.step c.args.field cells.first (width cells)) c.loop-sim.sim
    (map (λ x. response (cells.first + x + c.args.step + c.args.field) c.as_slice.result.now) (below (width cells)))
    c.loop-sim.samples c.add_row.new.samples c.loop-sim.invariant c.in_ok-add_row.ensures
    (row_is study c.args.group c.loop-sim.sim c.args.step c.args.field cells.first (width cells) c.as_slice.result.now (c.as_slice.ensures.value ∙ c.inputs-inputs.ensures.value study c.requires.made))
