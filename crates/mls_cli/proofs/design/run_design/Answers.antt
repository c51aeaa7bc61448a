-- What a design answers is right.
use Rattle.std.proofs.Common.{Ok, refl}
use Rattle.mls_model.specs.Designs.{design_text}
use Rattle.mls_cli.specs.Tasks.{nothing, saves_none}
use Rattle.mls_cli.specs.Design.{right_design}
use Rattle.mls_cli.proofs.Carrying.{carried_out, carried_refused, fits_nothing, no_usage}
use Rattle.mls_cli.proofs.InputSteps.{loads_as, loads_refused}
use Rattle.mls_cli.proofs.design.run_design.Goals as goal

pub returns-in-Ok-clause-carried : goal.returns-in-Ok-clause-carried
unfolding right_design
returns-in-Ok-clause-carried g c = λ keepers.
    rw (c.out_status.ensures) (carried_out (λ s. design_text s) _ _ _ _ _ keepers c.in-Ok.study c.write_drawn-answer.result (loads_as (λ s. s) (λ s. design_text s) _ (λ s. design_text s) _ _ c.in-Ok.study c.in-Ok.study refl c.in-Ok.ensures) c.write_drawn-answer.ensures)

pub returns-in-Err-clause-carried : goal.returns-in-Err-clause-carried
unfolding right_design
returns-in-Err-clause-carried g c = λ keepers.
    rw (c.into.ensures) (carried_refused saves_none (λ s. design_text s) _ _ (λ held. nothing) _ _ _ keepers c.in-Err.refusal (λ held is. is) (λ held is. fits_nothing c.in-Err.refusal) (loads_refused (λ s. s) (λ s. design_text s) _ (λ held s. Ok (design_text s)) _ _ _ c.in-Err.ensures))

pub returns-in-Err-clause-no_usage : goal.returns-in-Err-clause-no_usage
returns-in-Err-clause-no_usage g c = rw (c.into.ensures) (no_usage c.in-Err.refusal)
