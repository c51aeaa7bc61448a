-- What a resume answers is right.
use Rattle.mls_cli.specs.Tasks.{saves_none}
use Rattle.mls_cli.proofs.Carrying.{carried_refused, no_usage}
use Rattle.mls_cli.proofs.Resumed.{carried_resume, fits_resume, unresumed_text}
use Rattle.mls_cli.proofs.resume.run_resume.Goals as goal

pub returns-in-Err-clause-carried : goal.returns-in-Err-clause-carried
returns-in-Err-clause-carried g c =
    rw (c.into.ensures) (carried_refused saves_none _ _ _ _ _ _ _ _ c.in-Err.refusal (λ held is. unresumed_text _ c.in-Err.refusal _ is) (λ held is. fits_resume _ c.in-Err.refusal _ is) c.in-Err.ensures.loads)

pub returns-in-Err-clause-no_usage : goal.returns-in-Err-clause-no_usage
returns-in-Err-clause-no_usage g c = rw (c.into.ensures) (no_usage c.in-Err.refusal)

pub returns-clause-carried : goal.returns-clause-carried
returns-clause-carried g c =
    rw (c.fold_status.ensures) (carried_resume _ _ _ _ _ _ _ _ c.in-Ok.inputs c.resume_fold-answer.result.0 c.in-Ok.ensures.loads (record { text = c.resume_fold-answer.ensures.text; cores = c.resume_fold-answer.ensures.cores; after = c.resume_fold-answer.ensures.keepers }))
