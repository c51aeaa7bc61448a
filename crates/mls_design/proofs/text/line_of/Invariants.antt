use Rattle.mls_model.specs.Designs.{values}
use Rattle.mls_design.specs.Lines.{line_start}
use Rattle.mls_design.proofs.Texts.{Lined}
use Rattle.mls_design.proofs.text.line_of.Given as goal

abbrev pub invariant-loop-parameter : goal.invariant-loop-parameter
invariant-loop-parameter l = Lined (line_start l.group l.sim) l.line (values l.study l.group l.sim) l.parameter
