use Rattle.std.proofs.Common.{ap, length, arith}
use Rattle.mls_assembly.specs.KeyShares.{KeyShares}
use Rattle.mls_assembly.proofs.PuttingKeys.{counted_more, counted_end}
use Rattle.mls_assembly.proofs.key_pieces.KeyPieces.count.Goals as goal

pub loop-client-preserved : goal.loop-client-preserved
loop-client-preserved c = counted_more c.args.self.now.shares c.loop-client.client c.loop-client.count c.count_slot-count.result (omega (arith, c.loop-client-test.true, c.len-client-end.ensures, ap (λ (o : KeyShares). length o.shares) c.self.view_is)) c.count_slot-count.ensures c.loop-client.invariant

pub returns : goal.returns
returns c = counted_end c.args.self.now.shares c.loop-client.client c.loop-client.count (omega (arith, c.loop-client-test.false, c.len-client-end.ensures, ap (λ (o : KeyShares). length o.shares) c.self.view_is)) c.loop-client.invariant
