use Rattle.std.proofs.Common.{map}
use Rattle.mls_model.specs.Numbers.{below}
use Rattle.mls_ckpt.specs.Reading.{texts}
use Rattle.mls_field.specs.PutBytes.{Grown}
use Rattle.mls_hist.specs.HistPart.{counts_text}
use Rattle.mls_hist.specs.Stands.{bin_counts}
use Rattle.mls_hist.proofs.hist.Hist.put_plane.Given as goal

abbrev pub invariant-loop-cell : goal.invariant-loop-cell
invariant-loop-cell l = Grown l.fn.out l.out (texts counts_text (map (bin_counts l.self l.plane) (below l.cell)))
