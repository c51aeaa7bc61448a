use Rattle.std.proofs.Common.{◌≤◌, subst, arith}
use Rattle.mls_ckpt.specs.States.{is_from}
use Rattle.mls_assembly.specs.Held.{key_at}
use Rattle.mls_assembly.proofs.TakingKeys.{key_valid, comes}
use Rattle.mls_assembly.proofs.recovering.take_key.Goals as goal

pub returns-clause-valid : goal.returns-clause-valid
returns-clause-valid c = record {
  rises = comes c.may_come.result (is_from (key_at c.args.least) _) _ c.if-not-may_come.false c.may_come.ensures;
  pending = key_valid c.args.shape.now c.args.rank c.in_ok-group.group c.in_ok-step.step c.groups.result c.planes.result c.in_ok-count.count c.in_ok-life.life c.in_ok-pieces.pieces _ _
      c.in_ok-group.ensures.few c.groups.ensures.value c.valid.ensures.some_groups (subst (λ n. c.in_ok-step.step ≤ n) c.saturating_sub.ensures c.in_ok-step.ensures.few) c.planes.ensures.value c.valid.ensures.some_steps c.valid.ensures.some_fields c.if-count-lt1.false (omega (arith, c.in_ok-pieces.ensures.life, c.in_ok-life.ensures.few)) c.in_ok-pieces.ensures.shares c.in_ok-pieces.ensures.read;
}
