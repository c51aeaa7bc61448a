use Rattle.std.proofs.Common.{◌≡◌, true, not, ◌||◌, is_some}
use Rattle.std.specs.List.{list_all}
use Rattle.mls_model.specs.Numbers.{below}
use Rattle.mls_model.specs.Blocks.{overlaps}
use Rattle.mls_assembly.specs.Held.{key_at, share_at}
use Rattle.mls_assembly.proofs.pending.Pending.is_whole.Given as goal

abbrev pub invariant-loop-client : goal.invariant-loop-client
invariant-loop-client l = list_all (λ client. not (overlaps l.self.sizes l.self.rank client) || is_some (share_at l.self (key_at l.key) client)) (below l.client) ≡ true
