use Rattle.std.proofs.Common.{ℕ, List, ap}
use Rattle.std.specs.List.{flat_map}
use Rattle.mls_model.specs.Numbers.{below}
use Rattle.mls_model.specs.ResultText.{step_text, cells_text}
use Rattle.mls_text.proofs.Writing.{line_out, line_failed, failed_writes}
use Rattle.mls_bins.specs.Folding.{kept_said}
use Rattle.mls_text.proofs.Counted.{number_more, number_failed, number_all}
use Rattle.mls_bins.proofs.text.put_steps.Goals as goal

pub returns-in_err-put_fields : goal.returns-in_err-put_fields
unfolding cells_text
returns-in_err-put_fields g c =
    let said : ℕ → List ℕ = (λ step. step_text c.args.study.now (kept_said c.args.study.now c.args.cores.now step)) in
    failed_writes _ _ _ _ _ c.from_residual.ensures.1
    (line_failed _ _ _ _ (ap (λ n. flat_map said (below n)) c.requires.steps)
    (number_failed said c.loop-step.step c.args.steps _ _ _ _ c.loop-step-test.true c.loop-step.invariant c.in_err-put_fields.ensures))

pub loop-step-preserved : goal.loop-step-preserved
loop-step-preserved g c =
    let said : ℕ → List ℕ = (λ step. step_text c.args.study.now (kept_said c.args.study.now c.args.cores.now step)) in
    number_more said c.loop-step.step c.args.steps _ _ _ _ c.loop-step-test.true c.loop-step.invariant c.in_ok-put_fields.ensures

pub returns : goal.returns
unfolding cells_text
returns g c =
    let said : ℕ → List ℕ = (λ step. step_text c.args.study.now (kept_said c.args.study.now c.args.cores.now step)) in
    line_out _ _ _ _ (ap (λ n. flat_map said (below n)) c.requires.steps) (number_all said c.loop-step.step c.args.steps _ _ _ c.loop-step-test.false c.loop-step.invariant)
