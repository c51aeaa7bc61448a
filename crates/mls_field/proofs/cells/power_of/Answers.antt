use Rattle.std.proofs.Common.{ℕ, ◌+◌, ◌*◌, ◌≤◌, slice_index, arith}
use Rattle.mls_cov.proofs.Squares.{twice_product}
use Rattle.mls_field.proofs.cells.power_of.Goals as goal

-- the square of a sum of two sums is at most twice the rows times the sum of their squares
both_spread : (n a b aa bb : ℕ) → a * a ≤ n * aa → b * b ≤ n * bb → (a + b) * (a + b) ≤ 2 * n * (aa + bb)
both_spread n a b aa bb f g = omega (arith, f, g, twice_product a b)

pub from_sums-requires-clause-sums : goal.from_sums-requires-clause-sums
from_sums-requires-clause-sums c =
    let sums = c.args.sums.now in
    let a = c.requires.range.products.a in
    let b = c.requires.range.products.b in
    record {
      first = omega (arith, a.first, b.first);
      second = omega (arith, a.second, b.second);
      spread = both_spread c.args.rows (slice_index sums 0) (slice_index sums 1) (slice_index sums 2) (slice_index sums 3) a.spread b.spread;
      third = c.requires.range.powers.third;
      fourth = c.requires.range.powers.fourth;
    }
