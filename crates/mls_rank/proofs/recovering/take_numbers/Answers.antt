use Rattle.mls_rank.proofs.HeadReads.{passed_on, head_passes, head_refuses}
use Rattle.mls_rank.proofs.recovering.take_numbers.Goals as goal

pub returns-in_err-take_samples : goal.returns-in_err-take_samples
returns-in_err-take_samples c =
    passed_on c.from_residual.result c.in_err-take_samples.field-0.0 _ _ c.from_residual.ensures.1
    (head_refuses c.args.version c.args.shape.now c.args.rank _ c.in_err-take_samples.field-0.0 c.in_err-take_samples.ensures)

pub returns : goal.returns
returns c = head_passes c.args.version c.args.shape.now c.args.rank _ _ _ c.take_mesh.result c.in_ok-take_samples.ensures c.take_mesh.ensures
