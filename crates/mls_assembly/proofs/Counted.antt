-- How many numbers below another pass a test.
use Rattle.std.proofs.Common.{◌≡◌, ℕ, zero, suc, ◌+◌, ◌<◌, ◌≤◌, Bool, true, false, not, ◌&&◌, ◌||◌, cond, List, [], ◌∷◌, ◌++◌, ◌⊎◌, inl, inr, refl, ap, sym, ◌∙◌, ⊎_elim, arith}
use Rattle.std.specs.Prelude.{count_by}
use Rattle.std.specs.List.{list_all}
use Rattle.mls_model.specs.Numbers.{below}
use Rattle.mls_ckpt.proofs.Passing.{both_of}
use Rattle.mls_ledger.proofs.Bits.{count_last}

-- the first number apart
pub count_shift : (p : ℕ → Bool) (n : ℕ) → count_by p (below (suc n)) ≡ cond (p 0) 1 0 + count_by (λ i. p (suc i)) (below n)
count_shift p zero =
    let none : count_by p (below zero) ≡ 0 = refl in
    let others : count_by (λ i. p (suc i)) (below zero) ≡ 0 = refl in
    omega (arith, count_last p zero)
count_shift p (suc n) =
    let last : count_by p (below (suc (suc n))) ≡ count_by p (below (suc n)) + cond (p (suc n)) 1 0 = count_last p (suc n) in
    let others : count_by (λ i. p (suc i)) (below (suc n)) ≡ count_by (λ i. p (suc i)) (below n) + cond (p (suc n)) 1 0 = count_last (λ i. p (suc i)) n in
    let before : count_by p (below (suc n)) ≡ cond (p 0) 1 0 + count_by (λ i. p (suc i)) (below n) = count_shift p n in
    omega arith

one_less : (a b : Bool) → (a ≡ true → b ≡ true) → cond a 1 0 ≤ cond b 1 0
one_less true b h = rw (h refl) (omega arith)
one_less false b h = omega arith

-- where one test passes what the other does, it passes as many or more
pub few_below : (over some : ℕ → Bool) (n : ℕ) → ((i : ℕ) → i < n → some i ≡ true → over i ≡ true) → count_by some (below n) ≤ count_by over (below n)
few_below over some zero each = omega arith
few_below over some (suc n) each =
    let before : count_by some (below n) ≤ count_by over (below n) = few_below over some n (λ i within. each i (omega arith)) in
    let own : cond (some n) 1 0 ≤ cond (over n) 1 0 = one_less (some n) (over n) (each n (omega arith)) in
    let most : count_by over (below (suc n)) ≡ count_by over (below n) + cond (over n) 1 0 = count_last over n in
    let least : count_by some (below (suc n)) ≡ count_by some (below n) + cond (some n) 1 0 = count_last some n in
    omega arith

and_true : (b : Bool) → (b && true) ≡ b
and_true true = refl
and_true false = refl

and_assoc : (a b c : Bool) → (a && (b && c)) ≡ ((a && b) && c)
and_assoc true b c = refl
and_assoc false b c = refl

all_last : (q : ℕ → Bool) (xs : List ℕ) (y : ℕ) → list_all q (xs ++ y ∷ []) ≡ (list_all q xs && q y)
all_last q [] y = and_true (q y)
all_last q (x ∷ xs) y = ap (λ b. q x && b) (all_last q xs y) ∙ and_assoc (q x) (list_all q xs) (q y)

either_false : (a b : Bool) → (a && b) ≡ false → (a ≡ false) ⊎ (b ≡ false)
either_false true b h = inr h
either_false false b h = inl refl

open_place : (o s : Bool) → (not o || s) ≡ false → (o ≡ true) × (s ≡ false)
open_place true s h = (refl, h)
open_place false s h = absurd cc

counts_one : (b : Bool) → b ≡ true → ◌≡◌ {A = ℕ} (cond b 1 0) 1
counts_one true h = refl
counts_one false h = absurd cc

counts_none : (b : Bool) → b ≡ false → ◌≡◌ {A = ℕ} (cond b 1 0) 0
counts_none true h = absurd cc
counts_none false h = refl

-- where it also passes one that the other does not, it passes more
pub fewer_below : (over some : ℕ → Bool) (n : ℕ) → ((i : ℕ) → i < n → some i ≡ true → over i ≡ true) → list_all (λ i. not (over i) || some i) (below n) ≡ false → count_by some (below n) < count_by over (below n)
fewer_below over some zero each missing = absurd cc
fewer_below over some (suc n) each missing =
    let most : count_by over (below (suc n)) ≡ count_by over (below n) + cond (over n) 1 0 = count_last over n in
    let least : count_by some (below (suc n)) ≡ count_by some (below n) + cond (some n) 1 0 = count_last some n in
    ⊎_elim
    (λ (first : list_all (λ i. not (over i) || some i) (below n) ≡ false).
    let before : count_by some (below n) < count_by over (below n) = fewer_below over some n (λ i within. each i (omega arith)) first in
    let own : cond (some n) 1 0 ≤ cond (over n) 1 0 = one_less (some n) (over n) (each n (omega arith)) in
    let less : count_by some (below (suc n)) < count_by over (below (suc n)) = omega arith in
    less)
    (λ (last : (not (over n) || some n) ≡ false).
    let before : count_by some (below n) ≤ count_by over (below n) = few_below over some n (λ i within. each i (omega arith)) in
    let is = open_place (over n) (some n) last in
    let one : ◌≡◌ {A = ℕ} (cond (over n) 1 0) 1 = counts_one (over n) is.0 in
    let none : ◌≡◌ {A = ℕ} (cond (some n) 1 0) 0 = counts_none (some n) is.1 in
    let less : count_by some (below (suc n)) < count_by over (below (suc n)) = omega arith in
    less)
    (either_false (list_all (λ i. not (over i) || some i) (below n)) (not (over n) || some n) (sym (all_last (λ i. not (over i) || some i) (below n) n) ∙ missing))

passes : (o s : Bool) → (not o || s) ≡ true → o ≡ true → s ≡ true
passes true s h e = h
passes false s h e = absurd cc

-- where the other passes all that it does, it passes as many or fewer
pub enough_below : (over some : ℕ → Bool) (n : ℕ) → list_all (λ i. not (over i) || some i) (below n) ≡ true → count_by over (below n) ≤ count_by some (below n)
enough_below over some zero all = omega arith
enough_below over some (suc n) all =
    let parts = both_of (list_all (λ i. not (over i) || some i) (below n)) (not (over n) || some n) (sym (all_last (λ i. not (over i) || some i) (below n) n) ∙ all) in
    let before : count_by over (below n) ≤ count_by some (below n) = enough_below over some n parts.0 in
    let own : cond (over n) 1 0 ≤ cond (some n) 1 0 = one_less (over n) (some n) (passes (over n) (some n) parts.1) in
    let most : count_by over (below (suc n)) ≡ count_by over (below n) + cond (over n) 1 0 = count_last over n in
    let least : count_by some (below (suc n)) ≡ count_by some (below n) + cond (some n) 1 0 = count_last some n in
    omega arith
