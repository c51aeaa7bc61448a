use Rattle.std.proofs.Common.{arith, ◌+◌, ◌/◌, ◌∙◌, ap}
use Rattle.std.specs.Prelude.{sum_by}
use Rattle.std.specs.List.{enumerate_from}
use Rattle.mls_design.proofs.Inputs.{weighted_by, summed_more, summed_all}
use Rattle.mls_design.proofs.solver.response.Goals as goal

pub loop-place-preserved : goal.loop-place-preserved
loop-place-preserved c = summed_more c.args.shift c.args.inputs.now c.loop-place.place c.loop-place.sum c.weighted-sum.result c.loop-place.invariant (omega arith) c.weighted-sum.ensures.value c.weighted-sum.ensures.small

pub returns : goal.returns
returns c =
    ap (λ n. n + c.product.result / 16384) (summed_all c.args.shift c.args.inputs.now c.loop-place.place c.loop-place.sum c.loop-place.invariant (omega arith))
    ∙ ap (λ n. sum_by (weighted_by c.args.shift) (enumerate_from 0 c.args.inputs.now) + n / 16384) c.product.ensures.value
