-- A server's end is what its study answers.
use Rattle.mls_text.specs.Writing.{sink_seen}
use Rattle.mls_book.specs.Keepers.{keepers_seen}
use Rattle.mls_served.proofs.Ends.{served}
use Rattle.mls_served.proofs.serving.serve_study.Goals as goal

pub returns-clause-serves : goal.returns-clause-serves
returns-clause-serves g c =
    let end = c.serve-end.ensures in
    let own = served g.D.Door.closed g.D.Door.faults g.D.Door.link_faults g.D.Door.accepts g.D.Door.sound g.D.Door.awaited (record { study = c.args.study.now; connections = c.args.connections })
    (sink_seen g.O.Sink.told g.O.Sink.faults g.O.Sink.sure c.args.out.now) (sink_seen g.O.Sink.told g.O.Sink.faults g.O.Sink.sure c.end_serve.new.out)
    (keepers_seen g.K.Keeper c.args.keepers.items) (keepers_seen g.K.Keeper c.serve-end.result.keepers.items) c.args.door c.listen.new.self c.serve-end.result.door
    c.serve-end.result.cores.items c.serve-end.result.lines.items c.serve-end.result.events.items c.serve-end.result.fault c.end_serve.result.0
    c.in-Ok.ensures.accepts c.in-Ok.ensures.faultless c.in-Ok.ensures.awaited end.cores end.last end.accepts end.lines end.since end.fault c.end_serve.ensures.ends in
    rw (c.end_serve.ensures.keepers, c.end_serve.ensures.door) own
