use Rattle.std.proofs.Common.{List, ℕ, ◌∙◌, ap, sym, subst}
use Rattle.mls_model.specs.ResultText.{histories_of, history_text}
use Rattle.mls_ckpt.specs.CellParts.{sums_part, part_at}
use Rattle.mls_text.specs.Writing.{sink_seen}
use Rattle.mls_book.specs.Keepers.{keepers_seen}
use Rattle.mls_result.specs.Histories.{AllStand}
use Rattle.mls_replay.specs.Folding.{Folds}
use Rattle.mls_resume.specs.Reads.{lists_of}
use Rattle.mls_resumed.specs.GoingOn.{AllOpen, wholes_of}
use Rattle.mls_resumed.proofs.Running.{all_stand, written_keepers}
use Rattle.mls_resumed.proofs.folding.resume_fold.Goals as goal

pub returns-clause-text : goal.returns-clause-text
returns-clause-text g c = λ before opens sure.
    let s = c.args.study.now.sizes in
    let runs = histories_of c.args.tape.now.lanes c.args.schedule.now in
    let see = sink_seen g.O.Sink.told g.O.Sink.faults g.O.Sink.sure in
    let stand = all_stand g.K.Keeper s (AllOpen _ s (lists_of c.args.openings.items)) runs before c.args.keepers.items c.run_ranks.new.keepers.items c.in-Ok-run_ranks.cores.items
    c.in-Ok-run_ranks.ensures.cores c.in-Ok-run_ranks.ensures.stand c.in-Ok-run_ranks.ensures.keepers opens sure in
    let written = c.write_cores-answer.ensures.histories (wholes_of before runs) (subst (λ cores. AllStand cores (wholes_of before runs)) (sym c.as_slice.ensures.value) stand) in
    subst (λ (text : List ℕ). Folds c.write_cores-answer.result text (see c.args.out.now) (see c.write_cores-answer.new.out))
    (ap (history_text c.args.study.now (wholes_of before runs)) (c.as_slice-2.ensures.value ∙ c.in-Ok.ensures.value)) written

pub returns-clause-keepers : goal.returns-clause-keepers
returns-clause-keepers g c =
    let s = c.args.study.now.sizes in
    written_keepers c.write_cores-answer.result sums_part part_at s (AllOpen _ s (lists_of c.args.openings.items)) (histories_of c.args.tape.now.lanes c.args.schedule.now)
    (keepers_seen g.K.Keeper c.args.keepers.items) (keepers_seen g.K.Keeper c.run_ranks.new.keepers.items) c.write_cores-answer.ensures.fault c.in-Ok-run_ranks.ensures.keepers
