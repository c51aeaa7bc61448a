use Rattle.std.proofs.Common.{◌≡◌, arith}
use Rattle.mls_slot.proofs.Past.{synced_zero, synced_one}
use Rattle.mls_slot.proofs.memory.MemDisk.settle.Goals as goal

pub returns-then-area-eq0-clause-synced : goal.returns-then-area-eq0-clause-synced
returns-then-area-eq0-clause-synced c =
    let is : c.args.area ≡ 0 = omega arith in
    let w = c.in_ok-sync.ensures in
    synced_zero c.args.self.now.zero c.args.self.now.one c.args.self.now.past.items c.remember.new.past.items c.in_ok-remember.ensures c.args.area is c.sync.new.self w.bytes w.synced w.ranges

pub returns-clause-synced : goal.returns-clause-synced
returns-clause-synced c =
    let is : c.args.area ≡ 1 = omega arith in
    let w = c.in_ok-sync-2.ensures in
    synced_one c.args.self.now.zero c.args.self.now.one c.args.self.now.past.items c.remember.new.past.items c.in_ok-remember.ensures c.args.area is c.sync-2.new.self w.bytes w.synced w.ranges
