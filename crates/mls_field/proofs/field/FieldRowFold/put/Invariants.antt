use Rattle.std.proofs.Common.{map}
use Rattle.mls_model.specs.Numbers.{below}
use Rattle.mls_ckpt.specs.Reading.{texts}
use Rattle.mls_ckpt.specs.CellParts.{cell_text}
use Rattle.mls_field.specs.Spelled.{cells_of_plane}
use Rattle.mls_field.specs.PutBytes.{Grown}
use Rattle.mls_field.proofs.field.FieldRowFold.put.Given as goal

abbrev pub invariant-loop-step : goal.invariant-loop-step
invariant-loop-step l = Grown l.fn.out l.out (texts (texts cell_text) (map (cells_of_plane l.self) (below l.step)))
