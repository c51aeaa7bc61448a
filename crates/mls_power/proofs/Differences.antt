-- An integer as the difference of two natural numbers, so that an identity of integers is one of natural numbers.
use Rattle.std.proofs.Common.{◌≡◌, ℕ, ◌+◌, ◌*◌, List, [], ◌∷◌, map, ℤ, pos, ◌+ℤ◌, ◌-ℤ◌, ◌*ℤ◌, ap, ◌∙◌, refl, arith}
use Rattle.std.specs.List.{sum_by}
use Rattle.std.proofs.lemmas.Int.{ints}
use Rattle.std.proofs.lemmas.List.Sums.{sum_by-cons}
use borrow.Author.Differences.{up, down, same_in, product_is}
use Rattle.mls_model.specs.Numbers.{sum_ints}

-- z is x less y
pub record IsDifference (z : ℤ) (x y : ℕ) : Type 0 where
  pub balance : up z + y ≡ x + down z

pub natural : (n : ℕ) → IsDifference (pos n) n 0
natural n = record { balance = omega arith }

pub minus : (a b : ℤ) (x y u v : ℕ) → IsDifference a x y → IsDifference b u v → IsDifference (a -ℤ b) (x + v) (y + u)
minus a b x y u v p q = record { balance = omega (arith, ints, p.balance, q.balance) }

pub plus : (a b : ℤ) (x y u v : ℕ) → IsDifference a x y → IsDifference b u v → IsDifference (a +ℤ b) (x + u) (y + v)
plus a b x y u v p q = record { balance = omega (arith, ints, p.balance, q.balance) }

multiplied : (a c b d x y u v : ℕ) → a + y ≡ x + c → b + v ≡ u + d → a * b + c * d + (x * v + y * u) ≡ x * u + y * v + (a * d + c * b)
multiplied a c b d x y u v p q = omega (arith, ap (λ k. k * b) p, ap (λ k. k * d) p, ap (λ k. x * k) q, ap (λ k. y * k) q)

pub product : (a b : ℤ) (x y u v : ℕ) → IsDifference a x y → IsDifference b u v → IsDifference (a *ℤ b) (x * u + y * v) (x * v + y * u)
product a b x y u v p q = record { balance = omega (arith, product_is a b, multiplied (up a) (down a) (up b) (down b) x y u v p.balance q.balance) }

-- two integers that are the same difference are one
pub one_number : (a b : ℤ) (x y u v : ℕ) → IsDifference a x y → IsDifference b u v → x + v ≡ u + y → a ≡ b
one_number a b x y u v p q e = same_in a b (omega (arith, p.balance, q.balance))

-- the sum over a list whose elements' terms are such differences
pub sum_difference : (f : ℤ → ℤ) (g : ℕ → ℤ) (x y : ℕ → ℕ) → ((n : ℕ) → IsDifference (f (g n)) (x n) (y n)) → (ns : List ℕ) → IsDifference (sum_ints f (map g ns)) (sum_by x ns) (sum_by y ns)
sum_difference f g x y each [] = record { balance = refl }
sum_difference f g x y each (n ∷ ns) =
    let whole = plus (f (g n)) (sum_ints f (map g ns)) (x n) (y n) (sum_by x ns) (sum_by y ns) (each n) (sum_difference f g x y each ns) in
    record { balance = omega (arith, whole.balance, sum_by-cons x n ns, sum_by-cons y n ns) }

-- the same terms, the same sum
pub sum_same : (f k : ℤ → ℤ) (g h : ℕ → ℤ) → ((n : ℕ) → f (g n) ≡ k (h n)) → (ns : List ℕ) → sum_ints f (map g ns) ≡ sum_ints k (map h ns)
sum_same f k g h each [] = refl
sum_same f k g h each (n ∷ ns) = ap (λ (z : ℤ). z +ℤ sum_ints f (map g ns)) (each n) ∙ ap (λ (z : ℤ). k (h n) +ℤ z) (sum_same f k g h each ns)
