use Rattle.mls_text.proofs.Writing.{line_writes}
use Rattle.mls_model.specs.ResultText.{histories_of}
use Rattle.mls_trial.proofs.Whole.{summary_is}
use Rattle.mls_trial.proofs.summary.write_trial.Goals as goal

pub returns-clause-histories : goal.returns-clause-histories
returns-clause-histories g c = λ orders stand.
    let study = c.args.study.now in
    let lanes = c.args.tape.now.lanes in
    let cores = c.args.cores.now in
    let keep = c.cores_keep_histories.ensures study.sizes cores (histories_of lanes orders) c.valid.ensures.sizes c.requires.cores stand in
    line_writes _ _ _ _ _ (summary_is study c.args.number lanes orders cores c.requires.cores stand keep) c.put_summary.ensures
