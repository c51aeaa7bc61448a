-- The parts of the ranges give the whole.
use Rattle.std.proofs.Common.{arith}
use Rattle.mls_model.specs.Studies.{Sizes, AreSizes}
use Rattle.mls_base.specs.Ranges.{AreCounts, AreLaunched, AreVaried, AreThresholds, AreProducts}

-- sizes whose parts are in their ranges are those of a study
pub sizes_in_ranges : (s : Sizes) → AreCounts s.cells s.steps s.groups s.ranks s.clients → AreLaunched s.slots s.silence s.lives → AreVaried s.parameters s.fields → AreThresholds s.thresholds → AreProducts s.cells s.steps s.groups s.ranks s.fields → AreSizes s
sizes_in_ranges s counts launched varied thresholds products = record {
  some_cells = counts.some_cells;
  cells = counts.cells;
  some_steps = counts.some_steps;
  steps = counts.steps;
  some_groups = counts.some_groups;
  groups = counts.groups;
  some_parameters = varied.some_parameters;
  parameters = varied.parameters;
  some_ranks = counts.some_ranks;
  ranks = omega (arith, counts.ranks);
  ranks_have_cells = omega (arith, counts.ranks);
  some_clients = counts.some_clients;
  clients = omega (arith, counts.clients);
  clients_have_cells = omega (arith, counts.clients);
  some_slots = launched.some_slots;
  slots = launched.slots;
  some_silence = launched.some_silence;
  silence = launched.silence;
  some_lives = launched.some_lives;
  lives = launched.lives;
  thresholds = thresholds.few;
  thresholds_rise = thresholds.rising;
  thresholds_fit = thresholds.fit;
  some_fields = varied.some_fields;
  fields = varied.fields;
  mesh = products.mesh;
  marks = products.marks;
}
