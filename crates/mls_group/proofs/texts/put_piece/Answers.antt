use Rattle.std.proofs.Common.{◌≡◌, ◌++◌, OnOk, subst}
use Rattle.mls_model.specs.Frames.{spelling}
use Rattle.mls_wire.specs.Sessions.{piece_bytes}
use Rattle.mls_group.proofs.texts.put_piece.Goals as goal

pub returns : goal.returns
unfolding piece_bytes
returns c = subst (λ f. OnOk c.put.result (c.put.new.out.items ≡ c.args.out.now.items ++ spelling f)) c.in_ok-frame.ensures c.put.ensures.ok
