use Rattle.mls_orders.proofs.SameLines.{completed_of_taken}
use Rattle.mls_model.specs.ResultText.{histories_of}
use Rattle.mls_orders.proofs.TapePieces.{complete_takes}
use Rattle.mls_orders.proofs.completed_keys.keys_are_completed_by_the_tape.Goals as goal

pub returns : goal.returns
returns c = record {
  taken = completed_of_taken;
  complete = λ s lanes orders rank key free complete within. completed_of_taken s lanes (histories_of lanes orders) rank key free (complete_takes s.ranks lanes orders complete) within;
}
