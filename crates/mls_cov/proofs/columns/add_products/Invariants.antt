use Rattle.std.proofs.Common.{◌≡◌, ◌+◌, ◌*◌, ◌≤◌, slice_index}
use Rattle.mls_power.specs.Columns.{after}
use Rattle.mls_cov.specs.ColumnSteps.{more_samples, more_products}
use Rattle.mls_cov.specs.SumsAdded.{AreProductsAdded}
use Rattle.mls_cov.proofs.columns.add_products.Given as goal

abbrev pub invariant-loop-j : goal.invariant-loop-j
invariant-loop-j l = AreProductsAdded l.at l.apart l.j l.fn.words l.words l.samples l.stride l.a l.b l.c

abbrev pub invariant-loop-g : goal.invariant-loop-g
invariant-loop-g l = record {
  first : l.sum ≡ after (more_samples l.samples l.stride l.c l.j) l.g (slice_index l.fn.words (l.at + l.j));
  second : l.squares ≡ after (more_products l.samples l.stride l.c l.c l.j) l.g (slice_index l.fn.words (l.at + l.apart + l.j));
  third : l.with_a ≡ after (more_products l.samples l.stride l.a l.c l.j) l.g (slice_index l.fn.words (l.at + 2 * l.apart + l.j));
  fourth : l.with_b ≡ after (more_products l.samples l.stride l.b l.c l.j) l.g (slice_index l.fn.words (l.at + 3 * l.apart + l.j));
  small_first : l.sum ≤ slice_index l.fn.words (l.at + l.j) + 65535 * l.g;
  small_second : l.squares ≤ slice_index l.fn.words (l.at + l.apart + l.j) + 4294967296 * l.g;
  small_third : l.with_a ≤ slice_index l.fn.words (l.at + 2 * l.apart + l.j) + 4294967296 * l.g;
  small_fourth : l.with_b ≤ slice_index l.fn.words (l.at + 3 * l.apart + l.j) + 4294967296 * l.g;
}
