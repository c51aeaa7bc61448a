use Rattle.std.proofs.Common.{append_assoc}
use Rattle.mls_model.specs.Frames.{piece_head}
use Rattle.mls_frame.proofs.putting.add_head.Goals as goal

pub returns-clause-items : goal.returns-clause-items
unfolding piece_head
returns-clause-items c = rw (c.add_32-5.ensures.items, c.add_32-4.ensures.items, c.add_16-2.ensures.items, c.add_16.ensures.items, c.add_32-3.ensures.items, c.add_32-2.ensures.items, c.add_32.ensures.items) (simp append_assoc)
