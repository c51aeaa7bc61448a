-- The sums of the powers of values, in one pass from those of the samples that they are kept as.
use Rattle.std.proofs.Common.{◌≡◌, ℕ, ◌+◌, ◌*◌, List, [], ◌∷◌, map, Bool, true, false, ℤ, pos, ◌-ℤ◌, refl, subst, arith}
use Rattle.std.proofs.lemmas.Int.{ints}
use Rattle.mls_model.specs.Samples.{unshifted}
use Rattle.mls_model.specs.Statistics.{total, squares, cubes, fourths}
use Rattle.mls_model.specs.SumsText.{height}
use Rattle.mls_power.proofs.Translates.{lower}
use Rattle.mls_power.proofs.Values.{AreSums, first_lower, second_difference, third_lower, fourth_lowered}

pub record AreValueSums (h n p1 p2 p3 p4 : ℕ) (values : List ℤ) : Type 0 where
  pub first : pos p1 -ℤ pos (h * n) ≡ total values
  pub second : pos (p2 + h * h * n) -ℤ pos (2 * h * p1) ≡ squares values
  pub third : pos (p3 + 3 * (h * h) * p1) -ℤ pos (3 * h * p2 + h * h * h * n) ≡ cubes values
  pub fourth : pos (p4 + 6 * (h * h) * p2 + h * h * (h * h) * n) -ℤ pos (4 * h * p3 + 4 * (h * h * h) * p1) ≡ fourths values

not_lowered : (x : ℕ) → lower 0 x ≡ pos x
not_lowered x = omega (arith, ints)

as_they_are : (ns : List ℕ) → map (lower 0) ns ≡ map pos ns
as_they_are [] = refl
as_they_are (n ∷ ns) = λ i. not_lowered n i ∷ as_they_are ns i

pub value_sums : (signed : Bool) (n p1 p2 p3 p4 : ℕ) (ns : List ℕ) → AreSums n p1 p2 p3 p4 ns → AreValueSums (height signed) n p1 p2 p3 p4 (map (unshifted signed) ns)
value_sums true n p1 p2 p3 p4 ns are = record {
  first = first_lower 32768 n p1 p2 p3 p4 ns are;
  second = second_difference 32768 n p1 p2 p3 p4 ns are;
  third = third_lower 32768 n p1 p2 p3 p4 ns are;
  fourth = fourth_lowered 32768 n p1 p2 p3 p4 ns are;
}
value_sums false n p1 p2 p3 p4 ns are =
    let lowered : AreValueSums 0 n p1 p2 p3 p4 (map (lower 0) ns) = record {
      first = first_lower 0 n p1 p2 p3 p4 ns are;
      second = second_difference 0 n p1 p2 p3 p4 ns are;
      third = third_lower 0 n p1 p2 p3 p4 ns are;
      fourth = fourth_lowered 0 n p1 p2 p3 p4 ns are;
    } in
    subst (λ (values : List ℤ). AreValueSums 0 n p1 p2 p3 p4 values) (as_they_are ns) lowered
