use Rattle.std.proofs.Common.{◌≡◌, sym, ◌∙◌}
use Rattle.mls_slot.specs.Slots.{value}
use Rattle.mls_slot.proofs.Moments.{started, weaker}
use Rattle.mls_slot.proofs.Writes.{along}
use Rattle.mls_slot.proofs.Crash.{shutting_keeps}
use Rattle.mls_slot.proofs.Storing.{rest_value}
use Rattle.mls_slot.proofs.disk_calls.shut_gate.Goals as goal

pub returns-then-head-clause-moments : goal.returns-then-head-clause-moments
returns-then-head-clause-moments g c = λ t n target.
    let old = g.D.Disk.view c.args.disk.now in
    started old (λ image. value image ≡ value old.seen) (λ image left. g.met.D.Disk.only_now c.args.disk.now image t left) (rest_value old (c.requires.known t).0)

pub returns-in_err-write_gate-clause-moments : goal.returns-in_err-write_gate-clause-moments
returns-in_err-write_gate-clause-moments g c = λ t n target.
    let old = g.D.Disk.view c.args.disk.now in
    let known = c.requires.known (c.in_err-write_gate.ensures.ceased t) in
    weaker old _ _ (λ image. value image ≡ value old.seen) (c.in_err-write_gate.ensures.moments t known.0)
    (λ image changed. shutting_keeps old.seen image c.args.area n target (sym known.1.shut ∙ c.if-head.false) changed)

pub returns-clause-moments : goal.returns-clause-moments
returns-clause-moments g c = λ t n target.
    let old = g.D.Disk.view c.args.disk.now in
    let known = c.requires.known (along _ _ c.in_ok-write_gate.ensures.tells t) in
    weaker old _ _ (λ image. value image ≡ value old.seen) (c.in_ok-write_gate.ensures.moments t known.0)
    (λ image changed. shutting_keeps old.seen image c.args.area n target (sym known.1.shut ∙ c.if-head.false) changed)
