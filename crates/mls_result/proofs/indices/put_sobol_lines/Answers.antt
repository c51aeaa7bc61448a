use Rattle.std.proofs.Common.{◌<◌, length, arith}
use Rattle.std.specs.List.{enumerate_from}
use Rattle.std.proofs.lemmas.List.FromFn.{length-enumerate_from}
use Rattle.mls_model.specs.SumsText.{sums_indices}
use Rattle.mls_text.proofs.Writing.{line_out, line_failed, texts_more, texts_failed, texts_all, failed_writes}
use Rattle.mls_result.proofs.Parameters.{parameter_line, parameter_at, parts_are, some_pair}
use Rattle.mls_result.proofs.indices.put_sobol_lines.Goals as goal

pub returns-in_err-put_parameter : goal.returns-in_err-put_parameter
unfolding sums_indices
returns-in_err-put_parameter g c = λ sums has.
    let k = c.loop-k.k in
    let ps = c.args.study.now.parameters in
    let kept = c.loop-k.invariant sums has in
    let here : k < length ps = omega (arith, c.valid.ensures.count, c.requires.own, c.loop-k-test.true) in
    let there : k < length (enumerate_from 0 ps) = omega (arith, here, length-enumerate_from 0 ps) in
    let are = parts_are k c.args.study.now.sizes.parameters sums c.args.sums.now c.index-parts.result (omega (arith, c.requires.own, c.loop-k-test.true)) has c.index-parts.ensures.formulas in
    let is = parameter_at sums k ps c.name.result.now c.index-parts.result here c.name.ensures are in
    failed_writes _ _ _ _ _ c.from_residual.ensures.1
    (texts_failed (parameter_line sums) k (enumerate_from 0 ps) some_pair _ _ _ _ there kept (line_failed _ _ _ _ is c.in_err-put_parameter.ensures))

pub loop-k-preserved : goal.loop-k-preserved
loop-k-preserved g c = λ sums has.
    let k = c.loop-k.k in
    let ps = c.args.study.now.parameters in
    let kept = c.loop-k.invariant sums has in
    let here : k < length ps = omega (arith, c.valid.ensures.count, c.requires.own, c.loop-k-test.true) in
    let there : k < length (enumerate_from 0 ps) = omega (arith, here, length-enumerate_from 0 ps) in
    let are = parts_are k c.args.study.now.sizes.parameters sums c.args.sums.now c.index-parts.result (omega (arith, c.requires.own, c.loop-k-test.true)) has c.index-parts.ensures.formulas in
    let is = parameter_at sums k ps c.name.result.now c.index-parts.result here c.name.ensures are in
    texts_more (parameter_line sums) k (enumerate_from 0 ps) some_pair _ _ _ _ there kept (line_out _ _ _ _ is c.in_ok-put_parameter.ensures)

pub returns : goal.returns
unfolding sums_indices
returns g c = λ sums has.
    let ps = c.args.study.now.parameters in
    let kept = c.loop-k.invariant sums has in
    texts_all (parameter_line sums) c.loop-k.k (enumerate_from 0 ps) _ _ _ (omega (arith, c.valid.ensures.count, c.requires.own, c.loop-k-test.false, length-enumerate_from 0 ps)) kept
