use Rattle.mls_ckpt.specs.Places.{cursor_of}
use Rattle.mls_ledger.specs.MarkRows.{rows_of}
use Rattle.mls_assembly.specs.Held.{key_at}
use Rattle.mls_assembly.proofs.TakingKeys.{taken_more}
use Rattle.mls_assembly.proofs.pending.Pending.take_keys.Goals as goal

pub loop-key-preserved : goal.loop-key-preserved
loop-key-preserved c =
    let taken = c.in_ok-least.ensures.read in
    taken_more c.args.self.now c.loop-key.self c.take_next.new.self (key_at c.loop-key.least) (key_at c.in_ok-least.least) (rows_of c.args.marks.now) c.in_ok-count.count c.loop-key._key (cursor_of c.loop-key.from) (cursor_of c.take_next.new.from) _ taken.0
    c.loop-key-test.true c.in_ok-least.ensures.sizes c.in_ok-least.ensures.rank c.in_ok-least.ensures.before taken.1 taken.2 taken.3 c.loop-key.invariant
