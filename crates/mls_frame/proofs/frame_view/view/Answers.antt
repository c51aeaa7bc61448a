use Rattle.std.proofs.Common.{arith}
use Rattle.mls_frame.proofs.Within.{is_within}
use Rattle.mls_frame.proofs.frame_view.view.Goals as goal

pub returns-clause-within : goal.returns-clause-within
returns-clause-within c = is_within c.args.bytes.now c.seen_at.result (λ i. omega (arith, c.type_inv.bytes i)) c.seen_at.ensures
