use Rattle.mls_poll.proofs.Going.{given_goes, lane_goes, reads_goes}
use Rattle.mls_poll.proofs.stream.FrameStreamStream.poll_next.Goals as goal

pub returns-clause-given : goal.returns-clause-given
returns-clause-given g c = given_goes c.args.self.now.ended c.next_item.result c.args.self.now.offset c.next_item.new.self.offset _ _ c.next_item.ensures.goes

pub returns-clause-lane : goal.returns-clause-lane
returns-clause-lane g c = lane_goes c.args.self.now.ended c.next_item.result c.args.self.now.offset c.next_item.new.self.offset _ _ c.next_item.ensures.goes

pub returns-clause-reads : goal.returns-clause-reads
returns-clause-reads g c = reads_goes c.args.self.now.ended c.next_item.result c.args.self.now.offset c.next_item.new.self.offset _ _ c.next_item.ensures.goes
