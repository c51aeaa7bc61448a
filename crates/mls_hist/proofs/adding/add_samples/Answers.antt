use Rattle.std.proofs.Common.{◌+◌, ◌*◌, get_or, refl, arith}
use Rattle.mls_hist.proofs.Counted.{counted_none, counted_on, counted_room}
use Rattle.mls_hist.proofs.adding.add_samples.Goals as goal

pub loop-k-init : goal.loop-k-init
loop-k-init c = counted_none c.args.start c.args.places c.args.at c.args.samples.now c.args.bins.now

pub overflow_add-bins-in-loop-k : goal.overflow_add-bins-in-loop-k
overflow_add-bins-in-loop-k c = omega (arith, counted_room c.args.start c.args.places c.args.at c.loop-k.k (get_or c.args.samples.now (c.args.at + c.loop-k.k * c.args.places) 0) c.args.samples.now c.args.bins.now c.loop-k.bins (omega (arith, c.type_inv.samples (c.args.at + c.loop-k.k * c.args.places))) (omega (arith, c.requires.few)) c.requires.room c.loop-k.invariant)

pub loop-k-preserved : goal.loop-k-preserved
loop-k-preserved c = counted_on c.args.start c.args.places c.args.at c.loop-k.k (get_or c.args.samples.now (c.args.at + c.loop-k.k * c.args.places) 0) _ c.args.samples.now c.args.bins.now c.loop-k.bins refl (omega (arith, c.type_inv.samples (c.args.at + c.loop-k.k * c.args.places))) (omega (arith, c.requires.bins)) refl c.loop-k.invariant
