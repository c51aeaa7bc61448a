use Rattle.mls_model.specs.ResultText.{histories_of}
use Rattle.mls_replay.proofs.Running.{if_all_stand}
use Rattle.mls_replay.proofs.folding.fold_cores.Goals as goal

pub returns-clause-all : goal.returns-clause-all
returns-clause-all g c = λ sure.
    if_all_stand {T = g.F.RowFold} g.K.Keeper c.args.study.now.sizes (histories_of c.args.tape.now.lanes c.args.schedule.now) c.args.keepers.items c.run_ranks-answer.new.keepers.items c.run_ranks-answer.result
    c.run_ranks-answer.ensures.cores c.run_ranks-answer.ensures.stand c.run_ranks-answer.ensures.keepers sure
