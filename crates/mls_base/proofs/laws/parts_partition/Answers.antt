use Rattle.mls_base.proofs.Spans.{spans_partition}
use Rattle.mls_base.proofs.laws.parts_partition.Goals as goal

pub returns : goal.returns
returns c s sizes = spans_partition s.cells s.clients sizes.some_clients
