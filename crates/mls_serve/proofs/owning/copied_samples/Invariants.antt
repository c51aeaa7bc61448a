use Rattle.std.proofs.Common.{◌≡◌, ◌*◌, take}
use Rattle.mls_frame.specs.Views.{piece_of}
use Rattle.mls_serve.proofs.owning.copied_samples.Given as goal

abbrev pub invariant-loop-row : goal.invariant-loop-row
invariant-loop-row l = l.samples ≡ take (l.row * (piece_of l.piece).count) (piece_of l.piece).samples
