use Rattle.std.proofs.Common.{ℕ, ◌<◌, List, subst, sym, ◌∙◌, arith}
use Rattle.mls_slot.specs.Runs.{LeavesOnly}
use Rattle.mls_slot.proofs.Writes.{along}
use Rattle.mls_slot.proofs.Storing.{Gives}
use Rattle.mls_slot.proofs.Giving.{quiet_more, put_leaves, same_value}
use Rattle.mls_slot.proofs.keeper.SlotKeeperKeeper.put.Goals as goal

pub returns-in_err-heads-clause-moments : goal.returns-in_err-heads-clause-moments
returns-in_err-heads-clause-moments g c = λ t values gives.
    quiet_more (g.D.Disk.view c.args.self.now.disk) _ values gives (c.in_err-heads.ensures.moments t) c.args.bytes.items

pub returns-in-Ok-clause-moments : goal.returns-in-Ok-clause-moments
returns-in-Ok-clause-moments g c = λ t values gives.
    let t1 = along _ _ c.in-Ok.ensures.tells t in
    let mid = g.D.Disk.view c.heads.new.self.disk in
    let puts = subst (λ (l : List ℕ). LeavesOnly mid (g.D.Disk.view c.store.new.disk) (Gives mid l)) c.deref.ensures.value (c.store.ensures.moments t) in
    put_leaves (g.D.Disk.view c.args.self.now.disk) mid values gives (c.in_ok-heads.ensures.moments t1) (g.D.Disk.view c.store.new.disk) c.args.bytes.items (g.met.D.Disk.seen_left c.heads.new.self.disk t1) puts

pub returns-clause-moments : goal.returns-clause-moments
returns-clause-moments g c = λ t values gives.
    let t1 = c.in-Err.ensures.ceased t in
    let mid = g.D.Disk.view c.heads.new.self.disk in
    let puts = subst (λ (l : List ℕ). LeavesOnly mid (g.D.Disk.view c.store.new.disk) (Gives mid l)) c.deref.ensures.value (c.store.ensures.moments t) in
    put_leaves (g.D.Disk.view c.args.self.now.disk) mid values gives (c.in_ok-heads.ensures.moments t1) (g.D.Disk.view c.store.new.disk) c.args.bytes.items (g.met.D.Disk.seen_left c.heads.new.self.disk t1) puts

pub returns-in-Ok-clause-first : goal.returns-in-Ok-clause-first
returns-in-Ok-clause-first g c = λ t0 none.
    let old = g.D.Disk.view c.args.self.now.disk in
    let mid = g.D.Disk.view c.heads.new.self.disk in
    let t1 = along _ _ (sym c.in_ok-heads.ensures.tells) t0 in
    let seen = c.in_ok-heads.ensures.seen t0 in
    let second : 1 < 2 = omega arith in
    c.in-Ok.ensures.first t1 (same_value old mid seen ∙ none) ∙ seen 1 second
