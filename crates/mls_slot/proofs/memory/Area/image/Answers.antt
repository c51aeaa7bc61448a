use Rattle.std.proofs.Common.{ℕ, List, length, get_or, ap, subst, arith}
use Rattle.mls_slot.specs.Disks.{Torn}
use Rattle.mls_slot.proofs.Torn.{next_torn}
use Rattle.mls_slot.proofs.memory.Area.image.Goals as goal

pub loop-range-preserved : goal.loop-range-preserved
loop-range-preserved c =
    let same = c.deref-range-items.ensures.value in
    let w = get_or c.deref-range-items.result.now c.loop-range.range-index (0, 0) in
    let torn = subst (λ (l : List ℕ). Torn w.0 w.1 l c.in_ok-image-2.image.items) c.deref-in-loop-range.ensures.value c.in_ok-image-2.ensures in
    next_torn c.args.self.now.ranges.items c.loop-range.range-index w c.args.self.now.synced.items c.loop-range.image.items c.in_ok-image-2.image.items (omega (arith, ap length same)) (ap (λ (l : List (ℕ × ℕ)). get_or l c.loop-range.range-index (0, 0)) same) c.loop-range.invariant torn
