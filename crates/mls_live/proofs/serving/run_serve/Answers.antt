-- What a server answers is right.
use Rattle.std.proofs.Common.{refl}
use Rattle.mls_load.proofs.InputSteps.{loads_as, loads_refused}
use Rattle.mls_live.specs.Ideal.{right_serving, serving_of}
use Rattle.mls_live.proofs.Carrying.{no_usage}
use Rattle.mls_live.proofs.Tasks.{carries_served, carries_unserved}
use Rattle.mls_live.proofs.serving.run_serve.Goals as goal

pub returns-in-Ok-clause-carried : goal.returns-in-Ok-clause-carried
unfolding right_serving
returns-in-Ok-clause-carried g c =
    carries_served (serving_of c.args.connections) _ _ _ _ _ _ _ _ _ c.in-Ok.study _ (loads_as (λ s. s) _ _ (serving_of c.args.connections) _ _ c.in-Ok.study _ refl c.in-Ok.ensures) c.serve_study.ensures.serves

pub returns-in-Err-clause-carried : goal.returns-in-Err-clause-carried
unfolding right_serving
returns-in-Err-clause-carried g c = rw (c.into.ensures) (carries_unserved (serving_of c.args.connections) _ _ _ _ _ _ c.in-Err.refusal (loads_refused (λ s. s) _ _ _ _ _ _ c.in-Err.ensures))

pub returns-in-Err-clause-no_usage : goal.returns-in-Err-clause-no_usage
returns-in-Err-clause-no_usage g c = rw (c.into.ensures) (no_usage c.in-Err.refusal)
