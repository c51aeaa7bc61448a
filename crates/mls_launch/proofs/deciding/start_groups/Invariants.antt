use Rattle.mls_launch.proofs.Chosen.{Started}
use Rattle.mls_launch.proofs.deciding.start_groups.Given as goal

abbrev pub invariant-loop-group : goal.invariant-loop-group
invariant-loop-group l = Started l.slots l.initial.running l.rows l.initial.actions.items l.group l.actions.items l.running
