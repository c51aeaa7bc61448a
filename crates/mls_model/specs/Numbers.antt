-- Small words on numbers and lists that the other files share.
use Rattle.std.specs.Prelude.{ℕ, zero, suc, ◌+◌, ◌^◌, Bool, true, false, ◌&&◌, cond, List, [], ◌∷◌, ◌++◌, ℤ, pos, ◌+ℤ◌, ◌*ℤ◌, Option, Some, None, ◌==◌}
use Rattle.std.specs.List.{flat_map}

-- the numbers from 0 up to and without n
abbrev pub below : ℕ → List ℕ
below zero = []
below (suc n) = below n ++ n ∷ []

-- the element at a place of a list, where there is one
abbrev pub element : {A : Type 0} → List A → ℕ → Option A
element [] n = None
element (x ∷ xs) zero = Some x
element (x ∷ xs) (suc n) = element xs n

-- the pieces in a row
abbrev pub joined : {A : Type 0} → List (List A) → List A
joined pieces = flat_map (λ p. p) pieces

-- how often a number stands in a list
abbrev pub times : ℕ → List ℕ → ℕ
times n [] = 0
times n (x ∷ xs) = cond (x == n) (suc (times n xs)) (times n xs)

-- whether two lists of bytes are the same
abbrev pub same_bytes : List ℕ → List ℕ → Bool
same_bytes [] [] = true
same_bytes [] (y ∷ ys) = false
same_bytes (x ∷ xs) [] = false
same_bytes (x ∷ xs) (y ∷ ys) = (x == y) && same_bytes xs ys

-- The greatest number below 2 ^ k that passes a test which holds of 0 and, with a number, of all below it.
abbrev pub greatest : ℕ → (ℕ → Bool) → ℕ
greatest zero test = 0
greatest (suc k) test = cond (test (2 ^ k)) (2 ^ k + greatest k (λ q. test (2 ^ k + q))) (greatest k test)

-- the sum of what f gives of each element
abbrev pub sum_ints : {A : Type 0} → (A → ℤ) → List A → ℤ
sum_ints f [] = pos 0
sum_ints f (x ∷ xs) = f x +ℤ sum_ints f xs

abbrev pub square : ℤ → ℤ
square x = x *ℤ x

abbrev pub cube : ℤ → ℤ
cube x = x *ℤ (x *ℤ x)
