use Rattle.mls_slot.specs.Disks.{IsLeft}
use Rattle.mls_slot.proofs.Moments.{started, quiet_look}
use Rattle.mls_slot.proofs.Writes.{along}
use Rattle.mls_slot.proofs.keeper.SlotKeeper.payload.Goals as goal

pub returns-in-Ok-clause-moments : goal.returns-in-Ok-clause-moments
returns-in-Ok-clause-moments g c = λ t.
    let old = g.D.Disk.view c.args.self.now.disk in
    let t0 = along _ _ c.in-Ok.ensures.tells t in
    quiet_look old old _ (started old (IsLeft old) (λ image left. g.met.D.Disk.only_now c.args.self.now.disk image t0 left) (λ image left. left)) (c.in-Ok.ensures.same t)

pub returns-in-Err-clause-moments : goal.returns-in-Err-clause-moments
returns-in-Err-clause-moments g c = λ t.
    let old = g.D.Disk.view c.args.self.now.disk in
    let t0 = c.in-Err.ensures.ceased t in
    quiet_look old old _ (started old (IsLeft old) (λ image left. g.met.D.Disk.only_now c.args.self.now.disk image t0 left) (λ image left. left)) (c.in-Err.ensures.same t)
