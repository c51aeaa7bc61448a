-- What each command answers; a watch and a design over keepers that aren't called.
use Rattle.mls_text.specs.Writing.{sink_seen}
use Rattle.mls_book.specs.Keepers.{keepers_seen}
use Rattle.mls_cli.proofs.commands.carry_out.Goals as goal

pub returns-in-Fold-clause-carried : goal.returns-in-Fold-clause-carried
returns-in-Fold-clause-carried g c =
    let own = rw (c.as_str.ensures, c.as_str-in-Fold.ensures) at c.run_fold.ensures.carried in
    rw (c.in-Fold.is) own

pub returns-in-Bins-clause-carried : goal.returns-in-Bins-clause-carried
returns-in-Bins-clause-carried g c =
    let own = rw (c.as_str-in-Bins.ensures, c.as_str-in-Bins-2.ensures) at c.run_bins.ensures.carried in
    rw (c.in-Bins.is) own

pub returns-in-Trial-clause-carried : goal.returns-in-Trial-clause-carried
returns-in-Trial-clause-carried g c =
    let own = rw (c.as_str-in-Trial.ensures) at c.run_trial.ensures.carried in
    rw (c.in-Trial.is) own

pub returns-in-Watch-clause-carried : goal.returns-in-Watch-clause-carried
returns-in-Watch-clause-carried g c =
    let own = rw (c.as_str-in-Watch.ensures, c.as_str-in-Watch-2.ensures) at (c.run_watch-status.ensures.carried (keepers_seen g.K.Keeper c.args.keepers.items)) in
    rw (c.in-Watch.is) own

pub returns-in-Design-clause-carried : goal.returns-in-Design-clause-carried
returns-in-Design-clause-carried g c =
    let own = rw (c.as_str-in-Design.ensures) at (c.run_design-status.ensures.carried (keepers_seen g.K.Keeper c.args.keepers.items)) in
    rw (c.in-Design.is) own

pub returns-in-Export-clause-carried : goal.returns-in-Export-clause-carried
returns-in-Export-clause-carried g c =
    let own = rw (c.as_str-in-Export.ensures, c.as_str-in-Export-2.ensures) at (c.run_export.ensures.carried (sink_seen g.O.Sink.told g.O.Sink.faults g.O.Sink.sure c.args.out.now)) in
    rw (c.in-Export.is) own

pub returns-in-Resume-clause-carried : goal.returns-in-Resume-clause-carried
returns-in-Resume-clause-carried g c =
    let own = rw (c.as_str-in-Resume.ensures, c.as_str-in-Resume-2.ensures, c.as_str-in-Resume-3.ensures) at c.run_resume.ensures.carried in
    rw (c.in-Resume.is) own
