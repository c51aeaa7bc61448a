-- An element put in the place of another.
use Rattle.std.proofs.Common.{◌≡◌, ◌≢◌, ℕ, zero, suc, ◌<◌, List, [], ◌∷◌, length, get_or, slice_set, Some, refl, sym, ap, arith}
use Rattle.mls_model.specs.Numbers.{element}

pub set_own : {A : Type 0} (xs : List A) (i : ℕ) (y : A) → i < length xs → element (slice_set xs i y) i ≡ Some y
set_own [] i y here = absurd (omega (arith, here))
set_own (x ∷ xs) zero y here = refl
set_own (x ∷ xs) (suc i) y here = set_own xs i y (omega (arith, here))

pub set_other : {A : Type 0} (xs : List A) (i j : ℕ) (y : A) → j ≢ i → element (slice_set xs i y) j ≡ element xs j
set_other [] i j y ne = refl
set_other (x ∷ xs) zero zero y ne = absurd (ne refl)
set_other (x ∷ xs) zero (suc j) y ne = refl
set_other (x ∷ xs) (suc i) zero y ne = refl
set_other (x ∷ xs) (suc i) (suc j) y ne = set_other xs i j y (λ e. ne (ap suc e))

-- the element that is found at a place
pub at_value : {A : Type 0} (xs : List A) (i : ℕ) (x : A) → i < length xs → x ≡ get_or xs i x → element xs i ≡ Some x
at_value [] i x here is = absurd (omega (arith, here))
at_value (y ∷ xs) zero x here is = ap Some (sym is)
at_value (y ∷ xs) (suc i) x here is = at_value xs i x (omega (arith, here)) is

-- where there is an element
pub element_within : {A : Type 0} (xs : List A) (i : ℕ) (x : A) → element xs i ≡ Some x → i < length xs
element_within [] i x is = absurd cc
element_within (y ∷ xs) zero x is = omega (arith)
element_within (y ∷ xs) (suc i) x is = let rest = element_within xs i x is in omega (arith, rest)
