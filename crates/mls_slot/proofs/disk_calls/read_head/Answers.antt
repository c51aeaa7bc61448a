use Rattle.std.proofs.Common.{length, refl, ◌∙◌, ap, sym}
use Rattle.mls_slot.specs.Disks.{IsLeft}
use Rattle.mls_slot.proofs.Moments.{started, quiet_sync, quiet_look}
use Rattle.mls_slot.proofs.Writes.{along, front_read, head_read}
use Rattle.mls_slot.proofs.disk_calls.read_head.Goals as goal

pub returns-in_err-sync-clause-moments : goal.returns-in_err-sync-clause-moments
returns-in_err-sync-clause-moments g c = λ t.
    let t0 = c.in_err-sync.ensures.ceased t in
    let s = c.in_err-sync.ensures.badly t in
    let old = g.D.Disk.view c.args.disk.now in
    quiet_sync c.args.area old old _ (started old (IsLeft old) (λ image left. g.met.D.Disk.only_now c.args.disk.now image t0 left) (λ image left. left)) s.fewer s.elsewhere

pub returns-in_err-len-clause-moments : goal.returns-in_err-len-clause-moments
returns-in_err-len-clause-moments g c = λ t.
    let t1 = c.in_err-len.ensures.ceased t in
    let t0 = along _ _ c.in_ok-sync.ensures.tells t1 in
    let s = c.in_ok-sync.ensures.synced t0 in
    let old = g.D.Disk.view c.args.disk.now in
    let synced = quiet_sync c.args.area old old _ (started old (IsLeft old) (λ image left. g.met.D.Disk.only_now c.args.disk.now image t0 left) (λ image left. left)) s.fewer s.elsewhere in
    quiet_look old _ _ synced (c.in_err-len.ensures.same t)

pub returns-in_err-n-clause-moments : goal.returns-in_err-n-clause-moments
returns-in_err-n-clause-moments g c = λ t.
    let t2 = c.in_err-n.ensures.ceased t in
    let t1 = along _ _ c.in_ok-len.ensures.tells t2 in
    let t0 = along _ _ c.in_ok-sync.ensures.tells t1 in
    let s = c.in_ok-sync.ensures.synced t0 in
    let old = g.D.Disk.view c.args.disk.now in
    let synced = quiet_sync c.args.area old old _ (started old (IsLeft old) (λ image left. g.met.D.Disk.only_now c.args.disk.now image t0 left) (λ image left. left)) s.fewer s.elsewhere in
    quiet_look old _ _ (quiet_look old _ _ synced (c.in_ok-len.ensures.same t2)) (c.in_err-n.ensures.same t)

pub returns-clause-moments : goal.returns-clause-moments
returns-clause-moments g c = λ t.
    let t2 = along _ _ c.in_ok-n.ensures.tells t in
    let t1 = along _ _ c.in_ok-len.ensures.tells t2 in
    let t0 = along _ _ c.in_ok-sync.ensures.tells t1 in
    let s = c.in_ok-sync.ensures.synced t0 in
    let old = g.D.Disk.view c.args.disk.now in
    let synced = quiet_sync c.args.area old old _ (started old (IsLeft old) (λ image left. g.met.D.Disk.only_now c.args.disk.now image t0 left) (λ image left. left)) s.fewer s.elsewhere in
    quiet_look old _ _ (quiet_look old _ _ synced (c.in_ok-len.ensures.same t2)) (c.in_ok-n.ensures.same t)

pub returns-clause-read : goal.returns-clause-read
returns-clause-read g c = λ t.
    let t1 = along _ _ (sym c.in_ok-sync.ensures.tells) t in
    let t2 = along _ _ (sym c.in_ok-len.ensures.tells) t1 in
    let t3 = along _ _ (sym c.in_ok-n.ensures.tells) t2 in
    let looked = c.in_ok-len.ensures.same t2 in
    let gave = c.in_ok-n.ensures.same t3 in
    let front = front_read _ _ _ _ c.in_ok-n.n refl (c.in_ok-n.ensures.bytes t2) c.split_at.ensures.front in
    let head = c.head_of.ensures ((g.D.Disk.view c.len.new.self).seen c.args.area) (ap length (looked.same c.args.area).seen ∙ sym (c.in_ok-len.ensures.length t1)) front in
    head_read c.args.area c.head_of.result _ _ _ _ (c.in_ok-sync.ensures.synced t) looked gave head c.requires
