-- A run and a server answer what they are asked for.
use Rattle.std.proofs.Common.{sym, subst}
use Rattle.mls_served.specs.Doors.{door_seen}
use Rattle.mls_live.specs.Words.{FewServed}
use Rattle.mls_live.proofs.commands.carry_out.Goals as goal

pub returns-in-Run-clause-carried : goal.returns-in-Run-clause-carried
returns-in-Run-clause-carried g c =
    let own = c.run_run-status.ensures.carried (door_seen g.D.Door.closed g.D.Door.faults g.D.Door.link_faults g.D.Door.accepts g.D.Door.sound g.D.Door.awaited c.args.door) in
    rw (c.in-Run.is, sym c.as_str-in-Run.ensures, sym c.as_str-in-Run-2.ensures, sym c.as_str-in-Run-3.ensures) own

pub run_serve-requires-clause-few : goal.run_serve-requires-clause-few
run_serve-requires-clause-few g c = λ _ _. subst FewServed c.in-Serve.is c.requires.few
