use Rattle.mls_ckpt.proofs.CellLaws.{sums_are_spelled}
use Rattle.mls_ckpt.proofs.WholeStates.{sums_are_parts}
use Rattle.mls_ckpt.proofs.laws.sums_are_spelled.Goals as goal

pub returns : goal.returns
returns c = record {
  spelled = λ s rank marks old new bytes is. sums_are_spelled s rank marks old new bytes is;
  parts = sums_are_parts;
}
