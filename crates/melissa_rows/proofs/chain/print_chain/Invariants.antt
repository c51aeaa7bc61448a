use Rattle.std.proofs.Common.{◌≡◌, vec_len}
use Rattle.melissa_rows.proofs.chain.print_chain.Given as goal

abbrev pub invariant-loop-command : goal.invariant-loop-command
invariant-loop-command g l =
    (goal.iterator-loop-command g).can_next l.command-iterator ×
    (goal.iterator-loop-command g).is_finite l.command-iterator × (vec_len l.keepers ≡ 64)
