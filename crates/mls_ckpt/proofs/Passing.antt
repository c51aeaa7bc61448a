-- What a test says of numbers, and which tests facts pass.
use Rattle.std.proofs.Common.{◌≡◌, ℕ, ◌≤◌, ◌==◌, Bool, true, false, ◌&&◌, nat_le, refl, arith}
use Rattle.std.proofs.lemmas.Bool.Decides.{nat_tests}

pub le_of : (x y : ℕ) → nat_le x y ≡ true → x ≤ y
le_of x y h = grind (arith, nat_tests)

pub of_le : (x y : ℕ) → x ≤ y → nat_le x y ≡ true
of_le x y h = grind (arith, nat_tests)

pub same_of : (x y : ℕ) → (x == y) ≡ true → x ≡ y
same_of x y h = grind (arith, nat_tests)

pub of_same : (x y : ℕ) → x ≡ y → (x == y) ≡ true
of_same x y h = grind (arith, nat_tests)

pub both_of : (a b : Bool) → (a && b) ≡ true → (a ≡ true) × (b ≡ true)
both_of true b h = (refl, h)
both_of false b h = absurd (let clash : ⊥ = cc in clash)

pub of_both : (a b : Bool) → a ≡ true → b ≡ true → (a && b) ≡ true
of_both true b one other = other
of_both false b one other = absurd (let clash : ⊥ = cc in clash)

pub not_none : (n : ℕ) → (n == 0) ≡ false → 1 ≤ n
not_none n h = grind (arith, nat_tests)
