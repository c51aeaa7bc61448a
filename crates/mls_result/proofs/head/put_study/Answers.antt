use Rattle.mls_text.proofs.Writing.{line_writes}
use Rattle.mls_result.proofs.head.put_study.Goals as goal

pub returns : goal.returns
returns g c = line_writes _ _ _ _ _ c.study_line.ensures c.put.ensures
