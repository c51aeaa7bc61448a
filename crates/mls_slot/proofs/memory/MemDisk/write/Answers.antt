use Rattle.std.proofs.Common.{◌≡◌, arith}
use Rattle.mls_slot.proofs.Past.{wrote_zero, wrote_one}
use Rattle.mls_slot.proofs.memory.MemDisk.write.Goals as goal

pub returns-then-area-eq0-clause-wrote : goal.returns-then-area-eq0-clause-wrote
returns-then-area-eq0-clause-wrote c =
    let is : c.args.area ≡ 0 = omega arith in
    let w = c.in_ok-write.ensures in
    wrote_zero c.args.self.now.zero c.args.self.now.one c.args.self.now.past.items c.remember.new.past.items c.in_ok-remember.ensures c.args.area is c.write.new.self c.args.at c.args.bytes.now w.within w.bytes w.synced w.ranges

pub returns-clause-wrote : goal.returns-clause-wrote
returns-clause-wrote c =
    let is : c.args.area ≡ 1 = omega arith in
    let w = c.in_ok-write-2.ensures in
    wrote_one c.args.self.now.zero c.args.self.now.one c.args.self.now.past.items c.remember.new.past.items c.in_ok-remember.ensures c.args.area is c.write-2.new.self c.args.at c.args.bytes.now w.within w.bytes w.synced w.ranges
