use Rattle.mls_ckpt.proofs.WholeStates.{sums_are_parts}
use Rattle.mls_field.proofs.FieldParts.{part_again, part_spelled, stand_alike}
use Rattle.mls_field.proofs.field.FieldRowFold.part_laws.Goals as goal

pub returns : goal.returns
returns c = record {
  read_again = λ f. part_again f;
  takes = sums_are_parts;
  spelled = λ f t stands. part_spelled f t stands;
  agree = λ f g t shapes ranks counts same stands. stand_alike f g t (record { shapes = shapes; ranks = ranks; counts = counts }) same stands;
}
