use Rattle.std.proofs.Common.{append_assoc}
use Rattle.mls_model.specs.Frames.{body}
use Rattle.mls_frame.proofs.putting.add_hello.Goals as goal

pub returns : goal.returns
unfolding body
returns c = rw (c.add_16-3.ensures.items, c.add_16-2.ensures.items, c.add_32-2.ensures.items, c.add_32.ensures.items, c.add_16.ensures.items, c.add.ensures.items) (simp append_assoc)
