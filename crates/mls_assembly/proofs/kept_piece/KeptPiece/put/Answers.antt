use Rattle.std.specs.Int.{w16}
use Rattle.mls_assembly.proofs.PuttingKeys.{numbers_more, numbers_end}
use Rattle.mls_assembly.proofs.kept_piece.KeptPiece.put.Goals as goal

pub loop-sample-preserved : goal.loop-sample-preserved
loop-sample-preserved c = numbers_more w16 c.loop-sample.out c.put_u16.new.self _ c.as_slice-sample-items.result.now c.loop-sample.sample-index c.loop-sample-test.true c.in_ok-put_u16.ensures.ok c.loop-sample.invariant

pub returns : goal.returns
returns c = numbers_end w16 c.loop-sample.out _ c.as_slice-sample-items.result.now c.loop-sample.sample-index c.loop-sample-test.false c.loop-sample.invariant
