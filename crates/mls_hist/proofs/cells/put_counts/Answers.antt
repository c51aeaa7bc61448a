use Rattle.std.proofs.Common.{get_or, refl, arith}
use Rattle.std.specs.Int.{w32}
use Rattle.mls_hist.proofs.NumbersPut.{next_put}
use Rattle.mls_hist.proofs.Counting.{counts_grown}
use Rattle.mls_hist.proofs.cells.put_counts.Goals as goal

pub loop-bin-preserved : goal.loop-bin-preserved
loop-bin-preserved c = next_put w32 c.args.counts.now c.loop-bin.bin (get_or c.args.counts.now c.loop-bin.bin 0) c.args.out.now c.loop-bin.out c.put_u32.new.self (omega arith) refl c.loop-bin.invariant c.in_ok-put_u32.ensures.ok

pub returns : goal.returns
returns c = counts_grown c.args.counts.now c.loop-bin.bin c.args.out.now c.loop-bin.out (omega arith) c.loop-bin.invariant
