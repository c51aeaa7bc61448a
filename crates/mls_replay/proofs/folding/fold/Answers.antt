use Rattle.std.proofs.Common.{List, ℕ, ◌∙◌, sym, subst, inr}
use Rattle.mls_model.specs.ResultText.{histories_of}
use Rattle.mls_text.specs.Writing.{sink_seen}
use Rattle.mls_ckpt.specs.CellParts.{sums_part, part_at}
use Rattle.mls_book.specs.Keepers.{keepers_seen}
use Rattle.mls_result.specs.Histories.{AllStand}
use Rattle.mls_replay.specs.Folding.{Folds}
use Rattle.mls_replay.proofs.Running.{all_stand, written_keepers}
use Rattle.mls_replay.proofs.folding.fold.Goals as goal

pub returns-clause-text : goal.returns-clause-text
returns-clause-text g c = λ sure.
    let lanes = c.args.tape.now.lanes in
    let orders = c.args.schedule.now in
    let stand = all_stand g.K.Keeper c.args.study.now.sizes (histories_of lanes orders) c.args.keepers.items c.run_ranks.new.keepers.items c.in-Ok-run_ranks.cores.items
    c.in-Ok-run_ranks.ensures.cores c.in-Ok-run_ranks.ensures.stand c.in-Ok-run_ranks.ensures.keepers sure in
    c.write_cores-answer.ensures.histories lanes orders (c.as_slice-2.ensures.value ∙ c.in-Ok.ensures.value) (subst (λ cores. AllStand cores (histories_of lanes orders)) (sym c.as_slice.ensures.value) stand)

-- no crash is read back, and the text is the one with the plain schedule's lines
pub returns-clause-orders : goal.returns-clause-orders
returns-clause-orders g c = λ free complete.
    let study = c.args.study.now in
    let lanes = c.args.tape.now.lanes in
    let orders = c.args.schedule.now in
    let see = sink_seen g.O.Sink.told g.O.Sink.faults g.O.Sink.sure in
    let calm = c.no_rank_crashes.ensures.none_after_save study.sizes lanes orders in
    let written = returns-clause-text g c (λ rank keeper there. inr (calm rank free complete)) in
    subst (λ (text : List ℕ). Folds c.write_cores-answer.result text (see c.args.out.now) (see c.write_cores-answer.new.out))
    (c.result_text_has_the_plain_lines.ensures study lanes orders free complete) written

pub returns-clause-keepers : goal.returns-clause-keepers
returns-clause-keepers g c = written_keepers c.write_cores-answer.result sums_part part_at c.args.study.now.sizes (histories_of c.args.tape.now.lanes c.args.schedule.now)
    (keepers_seen g.K.Keeper c.args.keepers.items) (keepers_seen g.K.Keeper c.run_ranks.new.keepers.items) c.write_cores-answer.ensures.fault c.in-Ok-run_ranks.ensures.keepers
