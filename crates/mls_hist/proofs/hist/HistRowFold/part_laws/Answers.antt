use Rattle.mls_hist.proofs.PartLaws.{hist_are_parts}
use Rattle.mls_hist.proofs.Parts.{part_again, part_spelled, stand_alike}
use Rattle.mls_hist.proofs.hist.HistRowFold.part_laws.Goals as goal

pub returns : goal.returns
returns c = record {
  read_again = λ h. part_again h;
  takes = hist_are_parts;
  spelled = λ h t stands. part_spelled h t stands;
  agree = λ f g t shapes ranks counts same stands. stand_alike f g t (record { shapes = shapes; ranks = ranks; counts = counts }) same stands;
}
