use Rattle.std.proofs.Common.{map}
use Rattle.mls_model.specs.Numbers.{below}
use Rattle.mls_ckpt.specs.Reading.{texts}
use Rattle.mls_field.specs.PutBytes.{Grown}
use Rattle.mls_hist.specs.HistPart.{counts_text}
use Rattle.mls_hist.specs.Spelled.{cells_of_plane}
use Rattle.mls_hist.proofs.hist.Hist.put_planes.Given as goal

abbrev pub invariant-loop-plane : goal.invariant-loop-plane
invariant-loop-plane l = Grown l.fn.out l.out (texts (texts counts_text) (map (cells_of_plane l.self) (below l.plane)))
