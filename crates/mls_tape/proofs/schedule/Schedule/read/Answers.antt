use Rattle.mls_tape.proofs.Legal.{schedule_legal}
use Rattle.mls_tape.proofs.schedule.Schedule.read.Goals as goal

pub returns-clause-legal : goal.returns-clause-legal
returns-clause-legal c = schedule_legal c.args.tape.now.ranks c.args.tape.now.lanes c.args.bytes.now _ c.in_ok-lists.ensures.read
