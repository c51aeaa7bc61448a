use Rattle.std.proofs.Common.{◌∙◌, sym, subst}
use Rattle.mls_model.specs.ResultText.{histories_of}
use Rattle.mls_book.specs.Keepers.{keepers_seen}
use Rattle.mls_hist.specs.HistPart.{hist_part, part_at}
use Rattle.mls_result.specs.Histories.{AllStand}
use Rattle.mls_replay.proofs.Running.{all_stand, written_keepers}
use Rattle.mls_bins.proofs.folding.fold_bins.Goals as goal

pub returns-clause-text : goal.returns-clause-text
returns-clause-text g c = λ sure.
    let lanes = c.args.tape.now.lanes in
    let orders = c.args.schedule.now in
    let stand = all_stand g.K.Keeper c.args.study.now.sizes (histories_of lanes orders) c.args.keepers.items c.run_ranks.new.keepers.items c.in-Ok-run_ranks.cores.items
    c.in-Ok-run_ranks.ensures.cores c.in-Ok-run_ranks.ensures.stand c.in-Ok-run_ranks.ensures.keepers sure in
    c.write_cores-answer.ensures.histories lanes orders (c.as_slice-4.ensures.value ∙ c.in-Ok.ensures.value) (subst (λ cores. AllStand cores (histories_of lanes orders)) (sym c.as_slice-2.ensures.value) stand)

pub returns-clause-keepers : goal.returns-clause-keepers
returns-clause-keepers g c = written_keepers c.write_cores-answer.result hist_part part_at c.args.study.now.sizes (histories_of c.args.tape.now.lanes c.args.schedule.now)
    (keepers_seen g.K.Keeper c.args.keepers.items) (keepers_seen g.K.Keeper c.run_ranks.new.keepers.items) c.write_cores-answer.ensures.fault c.in-Ok-run_ranks.ensures.keepers
