-- What a fold answers is right.
use Rattle.std.proofs.Common.{None}
use Rattle.mls_cli.specs.Tasks.{saves_none}
use Rattle.mls_cli.specs.Fold.{results}
use Rattle.mls_cli.proofs.Carrying.{carried_refused, no_usage}
use Rattle.mls_cli.proofs.Folded.{carried_fold, fits_fold, none_saved, refused_text, some_sums}
use Rattle.mls_cli.proofs.fold.run_fold.Goals as goal

pub returns-in-Err-clause-carried : goal.returns-in-Err-clause-carried
returns-in-Err-clause-carried g c =
    rw (c.into.ensures) (carried_refused saves_none _ _ _ _ _ _ _ _ c.in-Err.refusal (λ held is. refused_text _ c.in-Err.refusal _ is) (λ held is. fits_fold _ c.in-Err.refusal _ is) (c.in-Err.ensures.loads results))

pub returns-in-Err-clause-no_usage : goal.returns-in-Err-clause-no_usage
returns-in-Err-clause-no_usage g c = rw (c.into.ensures) (no_usage c.in-Err.refusal)

pub returns-clause-carried : goal.returns-clause-carried
returns-clause-carried g c =
    let some = some_sums _ _ c.fold-answer.result.0 _ _ c.fold-answer.ensures.cores in
    rw (c.fold_status.ensures) (carried_fold None _ _ _ _ _ _ _ _ _ c.in-Ok.inputs c.fold-answer.result.0 (c.in-Ok.ensures.loads results) (none_saved _ _) (record { text = c.fold-answer.ensures.text; cores = some; after = c.fold-answer.ensures.keepers; all_groups = tt }))
