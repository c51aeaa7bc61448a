use Rattle.std.proofs.Common.{ℕ, List, ap}
use Rattle.std.specs.List.{flat_map}
use Rattle.mls_model.specs.Numbers.{below}
use Rattle.mls_model.specs.ResultText.{field_text, step_text}
use Rattle.mls_text.proofs.Writing.{line_out, line_failed, failed_writes}
use Rattle.mls_bins.specs.Folding.{kept_said}
use Rattle.mls_text.proofs.Counted.{number_more, number_failed, number_all}
use Rattle.mls_bins.proofs.text.put_fields.Goals as goal

pub returns-in_err-put_cells : goal.returns-in_err-put_cells
unfolding step_text
returns-in_err-put_cells g c =
    let said : ℕ → List ℕ = (λ field. field_text c.args.study.now (kept_said c.args.study.now c.args.cores.now c.args.step field)) in
    failed_writes _ _ _ _ _ c.from_residual.ensures.1
    (line_failed _ _ _ _ (ap (λ n. flat_map said (below n)) c.requires.fields)
    (number_failed said c.loop-field.field c.args.fields _ _ _ _ c.loop-field-test.true c.loop-field.invariant c.in_err-put_cells.ensures))

pub loop-field-preserved : goal.loop-field-preserved
loop-field-preserved g c =
    let said : ℕ → List ℕ = (λ field. field_text c.args.study.now (kept_said c.args.study.now c.args.cores.now c.args.step field)) in
    number_more said c.loop-field.field c.args.fields _ _ _ _ c.loop-field-test.true c.loop-field.invariant c.in_ok-put_cells.ensures

pub returns : goal.returns
unfolding step_text
returns g c =
    let said : ℕ → List ℕ = (λ field. field_text c.args.study.now (kept_said c.args.study.now c.args.cores.now c.args.step field)) in
    line_out _ _ _ _ (ap (λ n. flat_map said (below n)) c.requires.fields) (number_all said c.loop-field.field c.args.fields _ _ _ c.loop-field-test.false c.loop-field.invariant)
