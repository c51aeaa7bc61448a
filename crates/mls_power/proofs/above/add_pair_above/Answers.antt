use Rattle.std.proofs.Common.{◌≡◌, ℕ, ◌+◌, length, get_or, cond, nat_lt, ap, ◌∙◌, subst, arith}
use Rattle.std.proofs.lemmas.List.{length-set}
use Rattle.mls_power.proofs.Counted.{more_by_pair, counted_pair, range_by_pair, holds_by_pair, AddsPair}
use Rattle.mls_power.proofs.above.add_pair_above.Goals as goal
use Rattle.mls_power.proofs.above.add_pair_above.Goals.{After-loop-i}

pub loop-i-preserved : goal.loop-i-preserved
loop-i-preserved c =
    let ts = c.args.shape.now.thresholds in
    let x = c.args.x in
    let y = c.args.y in
    let i = c.loop-i.i in
    let old = c.args.numbers.now in
    let now = c.loop-i.numbers in
    let m = c.one_if_above.result + c.one_if_above-in-loop-i.result in
    let is : m ≡ cond (nat_lt (get_or ts i 0) x) 1 0 + cond (nat_lt (get_or ts i 0) y) 1 0 = omega (arith, c.one_if_above.ensures.value ∙ ap (λ (t : ℕ). cond (nat_lt t x) 1 0) c.threshold-threshold.ensures.value, c.one_if_above-in-loop-i.ensures.value ∙ ap (λ (t : ℕ). cond (nat_lt t y) 1 0) c.threshold-threshold.ensures.value) in
    record {
      kept = omega (arith, length-set now i (get_or now i 0 + m), c.loop-i.invariant.kept);
      each = counted_pair ts x y i m old now is (omega arith) c.loop-i.invariant.each;
    }

added : (c : After-loop-i) → c.loop-i.i ≡ length c.args.shape.now.thresholds → AddsPair c.args.shape.now.thresholds c.args.x c.args.y c.args.numbers.now c.loop-i.numbers
added c all = record {
  rises = c.thresholds-i-end.ensures.valid.thresholds_rise;
  each = subst (λ (end : ℕ). (k : ℕ) → get_or c.loop-i.numbers k 0 ≡ get_or c.args.numbers.now k 0 + more_by_pair end c.args.shape.now.thresholds c.args.x c.args.y k) all c.loop-i.invariant.each;
}

pub returns-clause-range : goal.returns-clause-range
returns-clause-range c = range_by_pair c.args.shape.now.thresholds c.args.x c.args.y c.args.numbers.now c.loop-i.numbers (added c (omega arith))

pub returns-clause-adds : goal.returns-clause-adds
returns-clause-adds c = holds_by_pair c.args.shape.now.thresholds c.args.x c.args.y c.args.numbers.now c.loop-i.numbers (added c (omega arith))
