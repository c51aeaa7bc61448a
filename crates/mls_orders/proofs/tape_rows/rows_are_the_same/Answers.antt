use Rattle.mls_model.specs.ResultText.{histories_of}
use Rattle.mls_orders.proofs.TapePieces.{complete_takes}
use Rattle.mls_orders.proofs.SameLines.{rows_of_taken, shifted_of_taken}
use Rattle.mls_orders.proofs.tape_rows.rows_are_the_same.Goals as goal

pub returns : goal.returns
returns c = record {
  taken = rows_of_taken;
  complete = λ s lanes a b plane x free complete too. rows_of_taken s lanes (histories_of lanes a) (histories_of lanes b) plane x free (complete_takes s.ranks lanes a complete) (complete_takes s.ranks lanes b too);
  shifted = shifted_of_taken;
}
