use Rattle.std.proofs.Common.{◌≡◌, ◌+◌, vec_len}
use Rattle.tests_of_servers.proofs.common.no_checkpoints.Given as goal

abbrev pub invariant-loop : goal.invariant-loop
invariant-loop l = vec_len l.keepers ≡ l.counter + 1
