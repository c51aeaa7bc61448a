use Rattle.std.proofs.Common.{◌-◌}
use Rattle.mls_ckpt.specs.Checkpoints.{pending_at}
use Rattle.mls_ckpt.specs.Places.{cursor_of}
use Rattle.mls_ledger.specs.MarkRows.{rows_of}
use Rattle.mls_assembly.specs.Held.{key_at}
use Rattle.mls_assembly.proofs.TakingKeys.{AreTaken}
use Rattle.mls_assembly.proofs.pending.Pending.take_keys.Given as goal

abbrev pub invariant-loop-key : goal.invariant-loop-key
invariant-loop-key l =
    AreTaken l.fn.self l.self (key_at l.least) (rows_of l.marks) (l.count - l._key) (cursor_of l.from) (pending_at l.fn.self.sizes l.fn.self.rank (rows_of l.marks) (cursor_of l.fn.from))
