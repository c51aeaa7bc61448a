use Rattle.mls_study.proofs.tables.entry.Goals as goal

pub returns : goal.returns
returns c = c.get.ensures
