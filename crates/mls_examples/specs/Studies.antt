-- Sizes at the limit of a study.
use Rattle.std.specs.Prelude.{ℕ}
use Rattle.mls_model.specs.Studies.{Sizes}
use Rattle.mls_examples.specs.Small.{one_cell}

abbrev pub cells_and_steps : ℕ → ℕ → Sizes
cells_and_steps cells steps = record (one_cell 1) { cells = cells; steps = steps }
