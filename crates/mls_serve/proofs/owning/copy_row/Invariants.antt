use Rattle.std.proofs.Common.{◌≡◌, ◌+◌, ◌*◌, take}
use Rattle.mls_frame.specs.Views.{piece_of}
use Rattle.mls_serve.proofs.owning.copy_row.Given as goal

abbrev pub invariant-loop-cell : goal.invariant-loop-cell
invariant-loop-cell l = l.samples ≡ take (l.row * (piece_of l.piece).count + l.cell) (piece_of l.piece).samples
