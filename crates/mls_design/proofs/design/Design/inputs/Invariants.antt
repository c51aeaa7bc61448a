use Rattle.std.proofs.Common.{◌≡◌, take, length}
use Rattle.mls_model.specs.Studies.{Study}
use Rattle.mls_model.specs.Designs.{inputs}
use Rattle.mls_design.specs.Kept.{design_of}
use Rattle.mls_design.proofs.design.Design.inputs.Given as goal

abbrev pub invariant-loop-parameter : goal.invariant-loop-parameter
invariant-loop-parameter l = record {
  size : length l.inputs.items ≡ l.parameter;
  text : (study : Study) → l.self ≡ design_of study → l.inputs.items ≡ take l.parameter (inputs study l.group l.sim);
}
