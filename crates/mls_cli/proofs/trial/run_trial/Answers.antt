-- What a trial answers is right.
use Rattle.mls_cli.proofs.Carrying.{carried_refused, no_usage}
use Rattle.mls_cli.proofs.Folded.{carried_fold, fits_fold, refused_text, some_trial}
use Rattle.mls_cli.proofs.SaveSteps.{carried_unsaved, no_usage_unsaved, saved_named}
use Rattle.mls_cli.proofs.trial.run_trial.Goals as goal

pub returns-in-Err-clause-carried : goal.returns-in-Err-clause-carried
returns-in-Err-clause-carried g c =
    rw (c.into.ensures) (carried_refused _ _ _ _ _ _ _ _ _ c.in-Err.refusal (λ held is. refused_text _ c.in-Err.refusal _ is) (λ held is. fits_fold _ c.in-Err.refusal _ is) c.in-Err.ensures.loads)

pub returns-in-Err-clause-no_usage : goal.returns-in-Err-clause-no_usage
returns-in-Err-clause-no_usage g c = rw (c.into.ensures) (no_usage c.in-Err.refusal)

pub returns-in-Err-save_made-clause-carried : goal.returns-in-Err-save_made-clause-carried
returns-in-Err-save_made-clause-carried g c =
    let saves = rw (c.in-Ok.ensures.tape) at c.in-Err-save_made.ensures in
    rw (c.save_status.ensures) (carried_unsaved _ c.args.names.now _ _ _ _ _ _ _ c.in-Ok.inputs c.in-Err-save_made.fault c.in-Ok.ensures.loads c.in-Ok.ensures.groups saves)

pub returns-in-Err-save_made-clause-no_usage : goal.returns-in-Err-save_made-clause-no_usage
returns-in-Err-save_made-clause-no_usage g c = rw (c.save_status.ensures) (no_usage_unsaved c.in-Err-save_made.fault)

pub returns-clause-carried : goal.returns-clause-carried
returns-clause-carried g c =
    let saves = rw (c.in-Ok.ensures.tape) at c.in-Ok-save_made.ensures in
    let some = some_trial c.args.number _ _ c.fold_trial-answer.result.0 _ _ c.fold_trial-answer.ensures.cores in
    rw (c.fold_status.ensures) (carried_fold c.args.names.now _ _ _ _ _ _ _ _ _ c.in-Ok.inputs c.fold_trial-answer.result.0 c.in-Ok.ensures.loads (saved_named c.args.names.now _ _ _ _ saves) (record { text = c.fold_trial-answer.ensures.text; cores = some; after = c.fold_trial-answer.ensures.keepers; all_groups = c.in-Ok.ensures.groups }))
