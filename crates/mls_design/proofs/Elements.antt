-- The element at a place of a list.
use Rattle.std.proofs.Common.{◌≡◌, ℕ, zero, suc, ◌+◌, ◌<◌, List, [], ◌∷◌, ◌++◌, length, get_or, take, map, Some, refl, ◌∙◌, ap, arith, add-one}
use Rattle.std.specs.List.{enumerate_from}
use Rattle.std.specs.Option.{option_map}
use Rattle.mls_model.specs.Numbers.{element}

pub element_map : {A B : Type 0} (f : A → B) (xs : List A) (n : ℕ) → element (map f xs) n ≡ option_map f (element xs n)
element_map f [] n = refl
element_map f (x ∷ xs) zero = refl
element_map f (x ∷ xs) (suc n) = element_map f xs n

pub element_there : {A : Type 0} (xs : List A) (n : ℕ) → n < length xs → (x : A) × (element xs n ≡ Some x)
element_there [] n here = absurd (omega arith)
element_there (x ∷ xs) zero here = (x, refl)
element_there (x ∷ xs) (suc n) here = element_there xs n (omega arith)

pub get_or_element : {A : Type 0} (xs : List A) (n : ℕ) (x d : A) → element xs n ≡ Some x → get_or xs n d ≡ x
get_or_element [] n x d there = cc
get_or_element (y ∷ ys) zero x d there = cc
get_or_element (y ∷ ys) (suc n) x d there = get_or_element ys n x d there

take_there : {A : Type 0} (xs : List A) (n : ℕ) (x : A) → element xs n ≡ Some x → take (suc n) xs ≡ take n xs ++ x ∷ []
take_there [] n x there = cc
take_there (y ∷ ys) zero x there = let same : y ≡ x = cc in ap (λ z. z ∷ []) same
take_there (y ∷ ys) (suc n) x there = ap (λ zs. y ∷ zs) (take_there ys n x there)

-- one element more
pub take_element : {A : Type 0} (xs : List A) (n : ℕ) (x : A) → element xs n ≡ Some x → take (n + 1) xs ≡ take n xs ++ x ∷ []
take_element xs n x there = ap (λ m. take m xs) (add-one n) ∙ take_there xs n x there

-- an element of the image of a list
pub image_at : {A B : Type 0} (f : A → B) (xs : List A) (n : ℕ) (y : B) → option_map f (element xs n) ≡ Some y → element (map f xs) n ≡ Some y
image_at f xs n y there = element_map f xs n ∙ there

-- the element of a list whose elements are numbered from n on
pub element_enumerated : {A B : Type 0} (f : ℕ × A → B) (n k : ℕ) (xs : List A) (x : A) → element xs k ≡ Some x → element (map f (enumerate_from n xs)) k ≡ Some (f (n + k, x))
element_enumerated f n k [] x there = cc
element_enumerated f n zero (y ∷ ys) x there =
    let same : y ≡ x = cc in
    let e : n ≡ n + zero = omega arith in
    ap (λ z. Some (f (n, z))) same ∙ ap (λ m. Some (f (m, x))) e
element_enumerated f n (suc k) (y ∷ ys) x there =
    let e : n + 1 + k ≡ n + suc k = omega arith in
    element_enumerated f (n + 1) k ys x there ∙ ap (λ m. Some (f (m, x))) e
