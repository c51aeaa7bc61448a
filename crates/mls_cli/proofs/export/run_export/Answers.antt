-- What an export answers is right.
use Rattle.std.proofs.Common.{Ok, refl}
use Rattle.mls_cli.specs.Export.{export_over, right_export}
use Rattle.mls_cli.specs.Tasks.{saves_states}
use Rattle.mls_cli.proofs.Carrying.{carried_refused, no_usage}
use Rattle.mls_cli.proofs.Exported.{carried_export, fits_export, no_usage_exported, unexported_text}
use Rattle.mls_cli.proofs.InputSteps.{loads_as, loads_refused}
use Rattle.mls_cli.proofs.export.run_export.Goals as goal

pub returns-in-Err-clause-carried : goal.returns-in-Err-clause-carried
unfolding right_export
returns-in-Err-clause-carried g c = λ out.
    rw (c.into.ensures) (carried_refused saves_states (λ s. export_over c.args.prefix.now s) _ _ _ _ _ out _ c.in-Err.refusal (λ held is. unexported_text _ c.in-Err.refusal _ is) (λ held is. fits_export _ c.in-Err.refusal _ is) (loads_refused (λ s. s) (λ s. export_over c.args.prefix.now s) _ (λ held s. Ok (export_over c.args.prefix.now s)) _ _ _ c.in-Err.ensures))

pub returns-in-Err-clause-no_usage : goal.returns-in-Err-clause-no_usage
returns-in-Err-clause-no_usage g c = rw (c.into.ensures) (no_usage c.in-Err.refusal)

pub returns-clause-carried : goal.returns-clause-carried
unfolding right_export
returns-clause-carried g c = λ out.
    rw (c.export_status.ensures) (carried_export (λ s. export_over c.args.prefix.now s) _ _ _ _ out _ _ c.in-Ok.study c.export-answer.result.0 (loads_as (λ s. s) (λ s. export_over c.args.prefix.now s) _ (λ s. export_over c.args.prefix.now s) _ _ c.in-Ok.study c.in-Ok.study refl c.in-Ok.ensures) (rw (c.shape-shape.ensures) at c.export-answer.ensures.exports))

pub returns-clause-no_usage : goal.returns-clause-no_usage
returns-clause-no_usage g c = rw (c.export_status.ensures) (no_usage_exported c.export-answer.result.0)
