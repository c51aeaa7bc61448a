use Rattle.mls_resume.proofs.Checked.{head_long}
use Rattle.mls_resume.proofs.checking.head_size.Goals as goal

pub returns-clause-value : goal.returns-clause-value
returns-clause-value c = λ rank. head_long c.args.version c.args.shape.now rank c.samples_size.result c.fields_size.result c.thresholds.result c.samples_size.ensures.value c.fields_size.ensures.value c.thresholds.ensures.value
