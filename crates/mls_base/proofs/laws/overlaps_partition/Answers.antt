use Rattle.mls_model.specs.Blocks.{block}
use Rattle.mls_base.proofs.Spans.{meets_partition, span_end}
use Rattle.mls_base.proofs.laws.overlaps_partition.Goals as goal

pub returns : goal.returns
returns c s sizes rank within = meets_partition s.cells s.clients (block s rank) sizes.some_clients (span_end s.cells s.ranks rank sizes.some_ranks within)
