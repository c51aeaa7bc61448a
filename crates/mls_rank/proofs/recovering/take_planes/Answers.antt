use Rattle.mls_ckpt.specs.Spellings.{fields_number}
use Rattle.mls_rank.specs.Heads.{sizes_numbers}
use Rattle.mls_rank.proofs.HeadReads.{passed_on, append_passes, append_refuses}
use Rattle.mls_rank.proofs.recovering.take_planes.Goals as goal

pub returns-in_err-take_fields : goal.returns-in_err-take_fields
returns-in_err-take_fields c =
    passed_on c.from_residual.result c.in_err-take_fields.field-0.0 _ _ c.from_residual.ensures.1
    (append_refuses (fields_number c.args.version c.args.shape.now) (sizes_numbers c.args.shape.now c.args.rank) _ c.in_err-take_fields.field-0.0 c.in_err-take_fields.ensures)

pub returns : goal.returns
returns c = append_passes (fields_number c.args.version c.args.shape.now) (sizes_numbers c.args.shape.now c.args.rank) _ _ _ c.take_sizes.result c.in_ok-take_fields.ensures c.take_sizes.ensures
