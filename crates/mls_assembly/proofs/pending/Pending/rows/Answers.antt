use Rattle.mls_assembly.specs.Held.{key_at}
use Rattle.mls_assembly.proofs.pending.Pending.rows.Goals as goal

pub invariant_of-result : goal.invariant_of-result
invariant_of-result c = record { rank_in = c.self.invariant.rank_in; span_is = c.block.ensures.value; kept = (c.self.invariant.each (key_at c.args.key) c.index.result.now c.index.ensures).shares }
