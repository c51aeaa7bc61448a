use Rattle.mls_model.specs.Studies.{planes}
use Rattle.mls_ckpt.specs.Places.{cursor_of}
use Rattle.mls_hist.specs.Packed.{packed_cells}
use Rattle.mls_hist.proofs.TakenParts.{part_spelled}
use Rattle.mls_hist.proofs.taken.take_part.Goals as goal

pub returns-clause-spelled : goal.returns-clause-spelled
returns-clause-spelled c = λ s rank size wide.
    part_spelled s rank c.args.counts.now (cursor_of c.args.from.now) (cursor_of c.take_mark.new.from) (cursor_of c.take_planes.new.from) (packed_cells c.args.places c.take_planes.new.bins (planes s)) c.take_planes.result c.args.from.now.bytes c.in_ok-take_mark.ensures (c.take_planes.ensures.exact s rank size wide)
