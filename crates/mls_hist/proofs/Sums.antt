-- The numbers below a number, and sums over them.
use Rattle.std.proofs.Common.{◌≡◌, ℕ, zero, suc, ◌+◌, ◌<◌, ◌≤◌, List, [], ◌∷◌, length, map, take, get_or, inl, inr, ap, ◌∙◌, refl, sym, arith}
use Rattle.std.specs.Prelude.{sum}
use Rattle.std.proofs.lemmas.Bool.{cases_lt}
use Rattle.std.proofs.lemmas.List.{map-append, length-map, length-append, take-append-le, get_or_at, get_or_append_left}
use Rattle.std.proofs.lemmas.List.Sums.{sum_by_push}
use Rattle.mls_model.specs.Numbers.{below}

pub length-below : (n : ℕ) → length (below n) ≡ n
length-below zero = refl
length-below (suc n) = omega (arith, length-append (below n) (n ∷ []), length-below n)

pub get-below : (n i d : ℕ) → i < n → get_or (below n) i d ≡ i
get-below zero i d h = absurd (omega (arith, h))
get-below (suc n) i d h =
    let size = length-below n in
    elim (cases_lt i n) [
      | inl low ↦ get_or_append_left (below n) (n ∷ []) d i (omega (arith, size, low)) ∙ get-below n i d low
      | inr high ↦ (let e : n ≡ i = omega (arith, h, high) in get_or_at (below n) n [] d i (omega (arith, size, e)) ∙ e)
    ]

pub take_whole : {A : Type 0} (xs : List A) (n : ℕ) → length xs ≤ n → take n xs ≡ xs
take_whole [] zero h = refl
take_whole [] (suc n) h = refl
take_whole (x ∷ xs) zero h = absurd (omega (arith, h))
take_whole (x ∷ xs) (suc n) h = ap (λ ys. x ∷ ys) (take_whole xs n (omega (arith, h)))

pub take-map : (f : ℕ → ℕ) (k n : ℕ) → k ≤ n → take k (map f (below n)) ≡ map f (below k)
take-map f k zero h = (let e : k ≡ 0 = omega (arith, h) in ap (λ m. take m (map f (below 0))) e ∙ ap (λ m. map f (below m)) (sym e))
take-map f k (suc n) h = elim (cases_lt n k) [
  | inl less ↦ (
      let e : k ≡ suc n = omega (arith, less, h) in
      take_whole (map f (below (suc n))) k (omega (arith, length-map (below (suc n)) f, length-below (suc n), e)) ∙ ap (λ m. map f (below m)) (sym e)
      )
  | inr more ↦ ap (take k) (map-append f (below n) (n ∷ [])) ∙ (take-append-le k (map f (below n)) (f n ∷ []) (omega (arith, length-map (below n) f, length-below n, more)) ∙ take-map f k n more)
]

abbrev pub total : (ℕ → ℕ) → ℕ → ℕ
total f n = sum (map f (below n))

pub total-more : (f : ℕ → ℕ) (n : ℕ) → total f (suc n) ≡ total f n + f n
total-more f n = ap sum (map-append f (below n) (n ∷ [])) ∙ sum_by_push (λ x. x) (map f (below n)) (f n)
