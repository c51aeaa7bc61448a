use Rattle.std.proofs.Common.{arith, ◌≡◌, ◌+◌, ap, subst, sym}
use Rattle.mls_design.specs.Trial.{copies}
use Rattle.mls_design.specs.TrialSizes.{HasDrawn}
use Rattle.mls_design.proofs.TrialFrames.{copies_more, copies_none}
use Rattle.mls_design.proofs.trial.words.copies_drawn.Goals as goal

pub loop-n-init : goal.loop-n-init
loop-n-init c = record {
  value = λ number n h. (sym (copies_none number n), let same : n ≡ n + 0 = omega arith in subst (λ m. HasDrawn number m c.args.words.now) same h);
  few = omega arith;
}

pub loop-n-preserved : goal.loop-n-preserved
loop-n-preserved c = record {
  value = λ number n h.
      let before = c.loop-n.invariant.value number n h in
      let drew = c.next.ensures number (n + c.loop-n._n) before.1 in
      let after : (n + c.loop-n._n) + 1 ≡ n + (c.loop-n._n + 1) = omega arith in
      (omega (arith, before.0, c.copies.ensures.value, ap copies drew.0, copies_more number n c.loop-n._n), subst (λ m. HasDrawn number m c.next.new.words) after drew.1);
  few = omega (arith, c.loop-n.invariant.few, c.copies.ensures.few);
}
