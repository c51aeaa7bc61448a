use Rattle.mls_base.proofs.Spans.{spans_partition}
use Rattle.mls_base.proofs.laws.blocks_partition.Goals as goal

pub returns : goal.returns
returns c s sizes = spans_partition s.cells s.ranks sizes.some_ranks
