use Rattle.std.proofs.Common.{◌≡◌, ℕ, ◌+◌, length, get_or, cond, nat_lt, ap, ◌∙◌, subst, arith}
use Rattle.std.proofs.lemmas.List.{length-set}
use Rattle.mls_power.proofs.Counted.{AreDone, counted, range_more}
use Rattle.mls_power.proofs.above.add_above.Goals as goal

pub loop-i-preserved : goal.loop-i-preserved
loop-i-preserved c =
    let ts = c.args.shape.now.thresholds in
    let x = c.args.x in
    let i = c.loop-i.i in
    let old = c.args.numbers.now in
    let now = c.loop-i.numbers in
    record {
      kept = omega (arith, length-set now i (get_or now i 0 + c.one_if_above.result), c.loop-i.invariant.kept);
      each = counted ts x i c.one_if_above.result old now (c.one_if_above.ensures.value ∙ ap (λ (t : ℕ). cond (nat_lt t x) 1 0) c.threshold.ensures.value) (omega arith) c.loop-i.invariant.each;
    }

pub returns-clause-range : goal.returns-clause-range
returns-clause-range c =
    let ts = c.args.shape.now.thresholds in
    let x = c.args.x in
    let old = c.args.numbers.now in
    let now = c.loop-i.numbers in
    let all : c.loop-i.i ≡ length ts = omega arith in
    range_more ts x old now (record {
      rises = c.thresholds-i-end.ensures.valid.thresholds_rise;
      each = subst (λ (end : ℕ). AreDone end ts x old now) all c.loop-i.invariant.each;
    })
