use Rattle.std.proofs.Common.{sym, arith}
use Rattle.mls_hist.proofs.QuartileBins.{first_is, reach_is}
use Rattle.mls_hist.proofs.cells.bin_of_number.Goals as goal

pub returns-then-before-number-clause-value : goal.returns-then-before-number-clause-value
returns-then-before-number-clause-value c =
    sym (first_is c.args.counts.now c.args.number c.loop-bin.bin (omega arith) c.loop-bin.invariant.fewer
    (λ _. reach_is c.args.counts.now c.args.number c.loop-bin.bin c.loop-bin.before c.loop-bin.invariant.counted (omega (arith, c.told-counts)) c.if-before-number.true))

pub returns-clause-value : goal.returns-clause-value
returns-clause-value c = sym (first_is c.args.counts.now c.args.number 63 (omega arith) (λ i low. c.loop-bin.invariant.fewer i (omega (arith, low))) (λ h. absurd (omega (arith, h))))
