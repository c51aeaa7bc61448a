use Rattle.mls_laws.proofs.OneClient.{outcome_of_piece, completed_where_found}
use Rattle.mls_laws.proofs.Fits.{all_fit}
use Rattle.mls_model.specs.Fitting.{fitting}
use Rattle.mls_laws.proofs.one_client.accepted_or_replay.Goals as goal

pub returns : goal.returns
returns c = record {
  outcome = λ s rank one before e p h. outcome_of_piece s rank before e p one h;
  completed = λ s rank one key events. completed_where_found s rank key (fitting s rank events) one (all_fit s rank events);
}
