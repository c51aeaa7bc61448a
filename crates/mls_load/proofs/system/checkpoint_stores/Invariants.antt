use Rattle.std.proofs.Common.{◌≡◌, vec_len}
use Rattle.mls_load.proofs.system.checkpoint_stores.Given as goal

abbrev pub invariant-loop-rank : goal.invariant-loop-rank
invariant-loop-rank l = vec_len l.keepers ≡ l.rank
