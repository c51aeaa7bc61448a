use Rattle.std.proofs.Common.{◌∙◌, arith}
use Rattle.mls_field.specs.Kept.{sums_at, HasEnds}
use Rattle.mls_field.proofs.Kept.{extrema_stand}
use Rattle.mls_field.proofs.Rows.{outputs_are}
use Rattle.mls_field.proofs.Whole.{here}
use Rattle.mls_field.proofs.field.Field.extrema.Goals as goal
use Rattle.mls_field.proofs.field.Field.extrema.Goals.{After-unpacked}

kept : (c : After-unpacked) → HasEnds (sums_at c.args.self.now c.args.step c.args.cell) c.unpacked.result
kept c = record { least = c.unpacked.ensures.least ∙ c.whole_ends-ends.ensures.each 0 (omega arith); greatest = c.unpacked.ensures.greatest ∙ c.whole_ends-ends.ensures.each 1 (omega arith) }

pub returns-clause-kept : goal.returns-clause-kept
returns-clause-kept c = kept (goal.at.returns-clause-kept c).After-unpacked

pub returns-clause-ends : goal.returns-clause-ends
returns-clause-ends c = λ t stands.
    let f = c.args.self.now in
    extrema_stand f t c.args.step c.args.cell c.unpacked.result (kept (goal.at.returns-clause-ends c).After-unpacked) stands c.requires.step_in (here f c.args.cell c.requires.cell_in)

pub returns-clause-outputs : goal.returns-clause-outputs
returns-clause-outputs c = λ t stands.
    let f = c.args.self.now in
    outputs_are f.shape.signed f.shape.parameters (t c.args.step c.args.cell) (stands.whole c.args.step c.args.cell c.requires.step_in (here f c.args.cell c.requires.cell_in))
