use Rattle.std.proofs.Common.{arith}
use Rattle.std.specs.Int.{w32}
use Rattle.mls_field.proofs.PutAt.{number_put_at}
use Rattle.mls_field.proofs.put.put_u32.Goals as goal

pub returns : goal.returns
returns c = number_put_at w32 c.args.n c.args.at c.args.bytes.now c.write_u32.new.buf _ _ (omega (arith, c.requires)) c.write_u32.ensures
