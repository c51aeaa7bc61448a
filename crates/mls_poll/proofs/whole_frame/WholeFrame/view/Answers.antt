use Rattle.std.proofs.Common.{ap, ◌∙◌}
use Rattle.mls_model.specs.Frames.{sight}
use Rattle.mls_poll.proofs.Wholes.{spelled_sight, is_whole}
use Rattle.mls_poll.proofs.whole_frame.WholeFrame.view.Goals as goal

pub unreachable-requires : goal.unreachable-requires
unreachable-requires c = is_whole _ _ _ (c.view.ensures.exact ∙ ap sight c.as_slice.ensures.value ∙ spelled_sight c.self.inside.bytes.items _ c.self.invariant) c.in-More.is
