use Rattle.mls_base.proofs.Spans.{span_found}
use Rattle.mls_base.proofs.laws.rank_holds.Goals as goal

pub returns : goal.returns
returns c s sizes x rank = span_found s.cells s.ranks x rank sizes.some_ranks
