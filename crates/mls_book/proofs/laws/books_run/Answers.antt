use Rattle.std.proofs.Common.{sym, refl}
use Rattle.mls_book.proofs.RunLaws.{gets_none, runs_on, runs_over}
use Rattle.mls_book.proofs.laws.books_run.Goals as goal

pub returns-clause-begins : goal.returns-clause-begins
returns-clause-begins g c = λ book. record { held = refl; gets = sym (gets_none (g.K.Keeper.gets book.keeper)); faults = refl }

pub returns-clause-goes_on : goal.returns-clause-goes_on
returns-clause-goes_on g c = λ old new event place o start history t was now run. runs_on old new event place o start history t was now run

pub returns-clause-over_tape : goal.returns-clause-over_tape
returns-clause-over_tape g c = λ lanes old new event place o start t count there was now run. runs_over lanes old new event place o start t count there was now run
