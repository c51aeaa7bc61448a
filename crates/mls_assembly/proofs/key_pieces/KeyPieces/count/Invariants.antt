use Rattle.std.proofs.Common.{◌≡◌, ◌+◌, ◌≤◌, length, drop}
use Rattle.mls_assembly.specs.Saved.{shares_from}
use Rattle.mls_assembly.proofs.key_pieces.KeyPieces.count.Given as goal

abbrev pub invariant-loop-client : goal.invariant-loop-client
invariant-loop-client l = (l.count + length (shares_from l.client (drop l.client l.self.shares)) ≡ length (shares_from 0 l.self.shares)) × (l.count ≤ l.client)
