use Rattle.std.proofs.Common.{sym, subst}
use Rattle.mls_model.specs.ResultText.{histories_of}
use Rattle.mls_ckpt.specs.CellParts.{sums_part, part_at}
use Rattle.mls_book.specs.Keepers.{keepers_seen}
use Rattle.mls_result.specs.Histories.{AllStand}
use Rattle.mls_trial.proofs.Keepers.{written_keepers}
use Rattle.mls_trial.proofs.folding.fold_trial.Goals as goal

pub returns-clause-text : goal.returns-clause-text
returns-clause-text g c = λ sure.
    let histories = histories_of c.args.tape.now.lanes c.args.schedule.now in
    let stand = rw c.in-Ok.is at (c.fold_cores-answer.ensures.all sure) in
    c.write_cores-answer.ensures.histories c.args.schedule.now (subst (λ cores. AllStand cores histories) (sym c.as_slice.ensures.value) stand)

pub returns-clause-keepers : goal.returns-clause-keepers
returns-clause-keepers g c =
    let ran = rw c.in-Ok.is at c.fold_cores-answer.ensures.keepers in
    written_keepers c.write_cores-answer.result sums_part part_at c.args.study.now.sizes (histories_of c.args.tape.now.lanes c.args.schedule.now)
    (keepers_seen g.K.Keeper c.args.keepers.items) (keepers_seen g.K.Keeper c.fold_cores-answer.result.1.items) c.write_cores-answer.ensures.fault ran
