-- An integer as the difference of two natural numbers, so that an identity of integers is one of natural numbers.
use Rattle.std.proofs.Common.{◌≡◌, ℕ, ◌+◌, ◌*◌, ◌/◌, ◌<◌, List, [], ◌∷◌, ℤ, pos, ◌-ℤ◌, ◌*ℤ◌, ap, ◌∙◌, refl, arith}
use Rattle.std.specs.List.{sum_by}
use Rattle.std.specs.Int.{abs_diff}
use Rattle.std.specs.Int.RustNames.{int_div, unsigned_abs}
use Rattle.std.proofs.lemmas.Int.{ints}
use Rattle.std.proofs.lemmas.List.Sums.{sum_by-cons}
use Rattle.std.proofs.Math.Nat.{mul-div_cancel_left}
use borrow.Author.Differences.{up, down, same_in, product_is, quot_is, abs_is}
use Rattle.mls_model.specs.Numbers.{sum_ints}
pub use Rattle.mls_power.proofs.Differences.{IsDifference, natural, minus, plus, product, one_number}

pub lower_by : (k x : ℕ) → IsDifference (pos x -ℤ pos k) x k
lower_by k x = record { balance = omega (arith, ints) }

-- the same integer, by other numbers
pub also : (z : ℤ) (x y u v : ℕ) → IsDifference z x y → x + v ≡ u + y → IsDifference z u v
also z x y u v p e = record { balance = omega (arith, p.balance) }

-- the sum over a list whose elements' terms are such differences
pub sum_difference : {R : Type 0} (f : R → ℤ) (x y : R → ℕ) → ((r : R) → IsDifference (f r) (x r) (y r)) → (rows : List R) → IsDifference (sum_ints f rows) (sum_by x rows) (sum_by y rows)
sum_difference f x y each [] = record { balance = refl }
sum_difference f x y each (r ∷ rows) =
    let whole = plus (f r) (sum_ints f rows) (x r) (y r) (sum_by x rows) (sum_by y rows) (each r) (sum_difference f x y each rows) in
    record { balance = omega (arith, whole.balance, sum_by-cons x r rows, sum_by-cons y r rows) }

pub dividing : (n : ℕ) (v : ℤ) → 0 < n → int_div (pos n *ℤ v) (pos n) ≡ v
dividing n v some =
    let parts = product_is (pos n) v in
    let above : up (pos n *ℤ v) / n ≡ up v = ap (λ k. k / n) (let e : up (pos n *ℤ v) ≡ n * up v = omega (arith, parts) in e) ∙ mul-div_cancel_left (up v) some in
    let below : down (pos n *ℤ v) / n ≡ down v = ap (λ k. k / n) (let e : down (pos n *ℤ v) ≡ n * down v = omega (arith, parts) in e) ∙ mul-div_cancel_left (down v) some in
    same_in (int_div (pos n *ℤ v) (pos n)) v (omega (arith, quot_is (pos n *ℤ v) n, above, below))

-- a difference without its sign
pub abs_of_difference : (a b : ℕ) → unsigned_abs (pos a -ℤ pos b) ≡ abs_diff a b
abs_of_difference a b = omega (arith, ints, abs_is (pos a -ℤ pos b))
