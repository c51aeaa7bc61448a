use Rattle.mls_model.specs.ResultText.{histories_of}
use Rattle.mls_resume.specs.Reads.{lists_of}
use Rattle.mls_resumed.specs.GoingOn.{AllOpen}
use Rattle.mls_resumed.proofs.Running.{if_all_stand}
use Rattle.mls_resumed.proofs.folding.resume_cores.Goals as goal

pub returns-clause-all : goal.returns-clause-all
returns-clause-all g c = λ before opens sure.
    let s = c.args.study.now.sizes in
    if_all_stand {T = g.F.RowFold} g.K.Keeper s (AllOpen g.F.RowFold s (lists_of c.args.openings.items)) (histories_of c.args.tape.now.lanes c.args.schedule.now) before c.args.keepers.items c.run_ranks-answer.new.keepers.items c.run_ranks-answer.result
    c.run_ranks-answer.ensures.cores c.run_ranks-answer.ensures.stand c.run_ranks-answer.ensures.keepers opens sure
