use Rattle.std.proofs.Common.{◌≤◌, ◌-◌, map}
use Rattle.mls_model.specs.Numbers.{below}
use Rattle.mls_ckpt.specs.Reading.{texts}
use Rattle.mls_ckpt.specs.CellParts.{cell_text}
use Rattle.mls_field.specs.Kept.{sums_at}
use Rattle.mls_field.specs.PutBytes.{Grown}
use Rattle.mls_field.proofs.field.Field.put_plane.Given as goal

abbrev pub invariant-loop-from : goal.invariant-loop-from
invariant-loop-from l = record {
  inside : l.from ≤ l.places;
  grown : Grown l.fn.out l.out (texts cell_text (map (sums_at l.self l.step) (below l.from)));
}

abbrev pub decreases-loop-from : goal.decreases-loop-from
decreases-loop-from l = l.places - l.from
