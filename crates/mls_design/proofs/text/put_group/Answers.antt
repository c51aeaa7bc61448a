use Rattle.std.proofs.Common.{ap, List, ℕ}
use Rattle.std.specs.List.{flat_map}
use Rattle.mls_model.specs.Numbers.{below}
use Rattle.mls_model.specs.Designs.{design_line, group_lines}
use Rattle.mls_text.proofs.Writing.{line_out, line_failed, failed_writes}
use Rattle.mls_text.proofs.Counted.{number_more, number_failed, number_all}
use Rattle.mls_design.proofs.text.put_group.Goals as goal

pub returns-in_err-put : goal.returns-in_err-put
unfolding group_lines
returns-in_err-put g c =
    let f : ℕ → List ℕ = λ sim. design_line c.args.study.now c.args.group sim in
    failed_writes _ _ _ _ _ c.from_residual.ensures.1
    (line_failed _ _ _ _ (ap (λ n. flat_map f (below n)) c.requires.sims)
    (number_failed f c.loop-sim.sim c.args.sims _ _ _ _ c.loop-sim-test.true c.loop-sim.invariant (line_failed _ _ _ _ c.line_of.ensures c.in_err-put.ensures)))

pub loop-sim-preserved : goal.loop-sim-preserved
loop-sim-preserved g c =
    let f : ℕ → List ℕ = λ sim. design_line c.args.study.now c.args.group sim in
    number_more f c.loop-sim.sim c.args.sims _ _ _ _ c.loop-sim-test.true c.loop-sim.invariant (line_out _ _ _ _ c.line_of.ensures c.in_ok-put.ensures)

pub returns : goal.returns
unfolding group_lines
returns g c =
    let f : ℕ → List ℕ = λ sim. design_line c.args.study.now c.args.group sim in
    line_out _ _ _ _ (ap (λ n. flat_map f (below n)) c.requires.sims) (number_all f c.loop-sim.sim c.args.sims _ _ _ c.loop-sim-test.false c.loop-sim.invariant)
