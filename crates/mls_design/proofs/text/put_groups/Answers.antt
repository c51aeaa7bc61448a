use Rattle.std.proofs.Common.{ap, List, ℕ}
use Rattle.std.specs.List.{flat_map}
use Rattle.mls_model.specs.Numbers.{below}
use Rattle.mls_model.specs.Designs.{group_lines}
use Rattle.mls_text.proofs.Writing.{line_out, line_failed, failed_writes}
use Rattle.mls_design.specs.Lines.{all_lines}
use Rattle.mls_text.proofs.Counted.{number_more, number_failed, number_all}
use Rattle.mls_design.proofs.text.put_groups.Goals as goal

pub returns-in_err-put_group : goal.returns-in_err-put_group
unfolding all_lines
returns-in_err-put_group g c =
    let f : ℕ → List ℕ = λ group. group_lines c.args.study.now group in
    failed_writes _ _ _ _ _ c.from_residual.ensures.1
    (line_failed _ _ _ _ (ap (λ n. flat_map f (below n)) c.requires.groups)
    (number_failed f c.loop-group.group c.args.groups _ _ _ _ c.loop-group-test.true c.loop-group.invariant c.in_err-put_group.ensures))

pub loop-group-preserved : goal.loop-group-preserved
loop-group-preserved g c =
    let f : ℕ → List ℕ = λ group. group_lines c.args.study.now group in
    number_more f c.loop-group.group c.args.groups _ _ _ _ c.loop-group-test.true c.loop-group.invariant c.in_ok-put_group.ensures

pub returns : goal.returns
unfolding all_lines
returns g c =
    let f : ℕ → List ℕ = λ group. group_lines c.args.study.now group in
    line_out _ _ _ _ (ap (λ n. flat_map f (below n)) c.requires.groups) (number_all f c.loop-group.group c.args.groups _ _ _ c.loop-group-test.false c.loop-group.invariant)
