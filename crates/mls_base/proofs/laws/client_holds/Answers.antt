use Rattle.mls_base.proofs.Spans.{span_found}
use Rattle.mls_base.proofs.laws.client_holds.Goals as goal

pub returns : goal.returns
returns c s sizes x client = span_found s.cells s.clients x client sizes.some_clients
