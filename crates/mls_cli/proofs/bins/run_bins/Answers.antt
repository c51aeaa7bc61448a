-- What a fold over histograms answers is right.
use Rattle.std.proofs.Common.{None}
use Rattle.mls_cli.specs.Tasks.{saves_none}
use Rattle.mls_cli.specs.Fold.{histograms}
use Rattle.mls_cli.proofs.Carrying.{carried_refused, no_usage}
use Rattle.mls_cli.proofs.Folded.{carried_fold, fits_fold, none_saved, refused_text, some_histograms}
use Rattle.mls_cli.proofs.bins.run_bins.Goals as goal

pub returns-in-Err-clause-carried : goal.returns-in-Err-clause-carried
returns-in-Err-clause-carried g c =
    rw (c.into.ensures) (carried_refused saves_none _ _ _ _ _ _ _ _ c.in-Err.refusal (λ held is. refused_text _ c.in-Err.refusal _ is) (λ held is. fits_fold _ c.in-Err.refusal _ is) (c.in-Err.ensures.loads histograms))

pub returns-in-Err-clause-no_usage : goal.returns-in-Err-clause-no_usage
returns-in-Err-clause-no_usage g c = rw (c.into.ensures) (no_usage c.in-Err.refusal)

pub returns-clause-carried : goal.returns-clause-carried
returns-clause-carried g c =
    let some = some_histograms _ _ c.fold_bins-answer.result.0 _ _ c.fold_bins-answer.ensures.cores in
    rw (c.fold_status.ensures) (carried_fold None _ _ _ _ _ _ _ _ _ c.in-Ok.inputs c.fold_bins-answer.result.0 (c.in-Ok.ensures.loads histograms) (none_saved _ _) (record { text = c.fold_bins-answer.ensures.text; cores = some; after = c.fold_bins-answer.ensures.keepers; all_groups = tt }))
