use Rattle.std.proofs.Common.{◌-◌, drop, sym, ◌∙◌, arith, length-drop}
use Rattle.mls_base.proofs.Rising.{rises-short, all_fit}
use Rattle.mls_base.proofs.shape.is_rising.Goals as goal

-- nothing is left to compare
pub returns-clause-value : goal.returns-clause-value
returns-clause-value c =
    let xs = c.args.numbers.now in
    sym (rises-short (drop (c.loop-i.i - 1) xs) (omega (arith, length-drop (c.loop-i.i - 1) xs))) ∙ c.loop-i.invariant

pub returns-clause-fit : goal.returns-clause-fit
returns-clause-fit c = all_fit c.args.numbers.now c.type_inv.numbers

pub returns-then-numbers-i-clause-fit : goal.returns-then-numbers-i-clause-fit
returns-then-numbers-i-clause-fit c = all_fit c.args.numbers.now c.type_inv.numbers
