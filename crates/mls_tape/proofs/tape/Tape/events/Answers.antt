use Rattle.std.proofs.Common.{sym, ◌∙◌}
use Rattle.mls_tape.proofs.Entries.{lane_there, count_of}
use Rattle.mls_tape.proofs.tape.Tape.events.Goals as goal

pub returns : goal.returns
returns c =
    let there = lane_there c.args.self.now.lanes c.args.lane c.requires in
    (c.entry.ensures there.0 there.1).events ∙ sym (count_of c.args.self.now.lanes c.args.lane there.0 there.1)
