use Rattle.std.proofs.Common.{◌≡◌, ◌+◌, ◌*◌, ◌≤◌, slice_index}
use Rattle.mls_power.specs.Columns.{after}
use Rattle.mls_power.specs.ColumnSteps.{more_cubes, more_low, more_high}
use Rattle.mls_power.specs.PowersAdded.{ArePowersAdded}
use Rattle.mls_power.proofs.columns.add_powers.Given as goal

abbrev pub invariant-loop-j : goal.invariant-loop-j
invariant-loop-j l = ArePowersAdded l.at l.apart l.j l.fn.words l.words l.samples l.stride l.a l.b

abbrev pub invariant-loop-g : goal.invariant-loop-g
invariant-loop-g l = record {
  first : l.cubes_a ≡ after (more_cubes l.samples l.stride l.a l.j) l.g (slice_index l.fn.words (l.at + l.j));
  second : l.cubes_b ≡ after (more_cubes l.samples l.stride l.b l.j) l.g (slice_index l.fn.words (l.at + l.apart + l.j));
  third : l.low ≡ after (more_low l.samples l.stride l.a l.b l.j) l.g (slice_index l.fn.words (l.at + 2 * l.apart + l.j));
  fourth : l.high ≡ after (more_high l.samples l.stride l.a l.b l.j) l.g (slice_index l.fn.words (l.at + 3 * l.apart + l.j));
  small_first : l.cubes_a ≤ slice_index l.fn.words (l.at + l.j) + 281462092005375 * l.g;
  small_second : l.cubes_b ≤ slice_index l.fn.words (l.at + l.apart + l.j) + 281462092005375 * l.g;
  small_third : l.low ≤ slice_index l.fn.words (l.at + 2 * l.apart + l.j) + 8589934590 * l.g;
  small_fourth : l.high ≤ slice_index l.fn.words (l.at + 3 * l.apart + l.j) + 8589934590 * l.g;
}
