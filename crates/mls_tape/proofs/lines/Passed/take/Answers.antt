use Rattle.std.proofs.Common.{refl}
use Rattle.mls_tape.proofs.Passing.{stands_push}
use Rattle.mls_tape.proofs.lines.Passed.take.Goals as goal

pub returns : goal.returns
returns c = λ ranks lanes lines stands. stands_push ranks lanes c.args.self.now _ lines c.args.rank c.args.lane c.index_mut-2.result.now c.index_mut.result.now c.push.new.self stands c.requires.rank c.requires.lane refl c.index_mut.ensures.value c.in_ok-push.ensures.items refl c.index_mut-2.ensures.value
