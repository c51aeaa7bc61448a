use Rattle.mls_trial.proofs.laws.complete_trials_accept_all.Goals as goal

pub returns : goal.returns
returns c = λ study lanes orders ok all. c.trials_accept_all_groups.ensures.line study.sizes lanes orders ok.sizes all
