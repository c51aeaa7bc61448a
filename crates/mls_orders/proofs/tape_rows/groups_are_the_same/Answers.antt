use Rattle.mls_model.specs.ResultText.{histories_of}
use Rattle.mls_orders.proofs.TapePieces.{complete_takes}
use Rattle.mls_orders.proofs.SameLines.{accepted_of_taken}
use Rattle.mls_orders.proofs.tape_rows.groups_are_the_same.Goals as goal

pub returns : goal.returns
returns c = record {
  taken = accepted_of_taken;
  complete = λ s lanes a b rank plane free complete too within. accepted_of_taken s lanes (histories_of lanes a) (histories_of lanes b) rank plane free (complete_takes s.ranks lanes a complete) (complete_takes s.ranks lanes b too) within;
}
