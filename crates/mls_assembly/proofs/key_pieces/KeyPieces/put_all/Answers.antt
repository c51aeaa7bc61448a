use Rattle.std.proofs.Common.{ap, length, arith}
use Rattle.mls_assembly.specs.KeyShares.{KeyShares}
use Rattle.mls_assembly.proofs.PuttingKeys.{slots_more, slots_end}
use Rattle.mls_assembly.proofs.key_pieces.KeyPieces.put_all.Goals as goal

pub loop-client-preserved : goal.loop-client-preserved
loop-client-preserved c = slots_more c.loop-client.out c.put_slot.new.out _ c.args.self.now.shares c.loop-client.client (omega (arith, c.loop-client-test.true, c.len-client-end.ensures, ap (λ (o : KeyShares). length o.shares) c.self.view_is)) c.in_ok-put_slot.ensures c.loop-client.invariant

pub returns : goal.returns
returns c = slots_end c.loop-client.out _ c.args.self.now.shares c.loop-client.client (omega (arith, c.loop-client-test.false, c.len-client-end.ensures, ap (λ (o : KeyShares). length o.shares) c.self.view_is)) c.loop-client.invariant
