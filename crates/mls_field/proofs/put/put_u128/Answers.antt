use Rattle.std.proofs.Common.{arith}
use Rattle.std.specs.Int.{w128}
use Rattle.mls_field.proofs.PutAt.{number_put_at}
use Rattle.mls_field.proofs.put.put_u128.Goals as goal

pub returns : goal.returns
returns c = number_put_at w128 c.args.n c.args.at c.args.bytes.now c.write_u128.new.buf _ _ (omega (arith, c.requires)) c.write_u128.ensures
