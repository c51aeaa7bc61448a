use Rattle.mls_laws.proofs.Table.{table_accepted, table_replay}
use Rattle.mls_laws.proofs.OneClient.{is_block, completed_more}
use Rattle.mls_laws.proofs.Fits.{all_fit, event_fits}
use Rattle.mls_model.specs.Fitting.{fitting}
use Rattle.mls_laws.proofs.one_client.rows_of_piece.Goals as goal

pub returns : goal.returns
returns c = record {
  completed = λ s rank one key before e p h. completed_more s rank key (fitting s rank before) p one (all_fit s rank before) (event_fits s rank e p h);
  accepted = λ s rank sizes one within before e p h new. table_accepted s rank (fitting s rank before) p one (is_block s rank sizes within) (all_fit s rank before) (event_fits s rank e p h) new;
  replay = λ s rank one before e p h seen. table_replay s rank (fitting s rank before) p one (all_fit s rank before) (event_fits s rank e p h) seen;
}
