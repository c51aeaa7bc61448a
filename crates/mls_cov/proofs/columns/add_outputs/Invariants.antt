use Rattle.std.proofs.Common.{◌≡◌, ◌+◌, ◌*◌, ◌≤◌, slice_index}
use Rattle.mls_power.specs.Columns.{after}
use Rattle.mls_cov.specs.ColumnSteps.{more_samples, more_products}
use Rattle.mls_cov.specs.SumsAdded.{AreOutputsAdded}
use Rattle.mls_cov.proofs.columns.add_outputs.Given as goal

abbrev pub invariant-loop-j : goal.invariant-loop-j
invariant-loop-j l = AreOutputsAdded l.at l.apart l.j l.fn.words l.words l.samples l.stride l.a l.b

abbrev pub invariant-loop-g : goal.invariant-loop-g
invariant-loop-g l = record {
  first : l.sum_a ≡ after (more_samples l.samples l.stride l.a l.j) l.g (slice_index l.fn.words (l.at + l.j));
  second : l.sum_b ≡ after (more_samples l.samples l.stride l.b l.j) l.g (slice_index l.fn.words (l.at + l.apart + l.j));
  third : l.squares_a ≡ after (more_products l.samples l.stride l.a l.a l.j) l.g (slice_index l.fn.words (l.at + 2 * l.apart + l.j));
  fourth : l.squares_b ≡ after (more_products l.samples l.stride l.b l.b l.j) l.g (slice_index l.fn.words (l.at + 3 * l.apart + l.j));
  small_first : l.sum_a ≤ slice_index l.fn.words (l.at + l.j) + 65535 * l.g;
  small_second : l.sum_b ≤ slice_index l.fn.words (l.at + l.apart + l.j) + 65535 * l.g;
  small_third : l.squares_a ≤ slice_index l.fn.words (l.at + 2 * l.apart + l.j) + 4294967296 * l.g;
  small_fourth : l.squares_b ≤ slice_index l.fn.words (l.at + 3 * l.apart + l.j) + 4294967296 * l.g;
}
