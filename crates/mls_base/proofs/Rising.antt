-- Lists whose numbers rise, and lists of u16.
use Rattle.std.proofs.Common.{◌≡◌, ℕ, suc, ◌≤◌, true, leb, List, [], ◌∷◌, length, get_or, refl, arith, Fits, w16}
use Rattle.std.specs.List.{list_all}
use Rattle.std.proofs.lemmas.Bool.{le-leb}
use Rattle.mls_model.specs.Studies.{rises}

-- one number or none rises
pub rises-short : (xs : List ℕ) → length xs ≤ 1 → rises xs ≡ true
rises-short [] short = refl
rises-short (x ∷ []) short = refl
rises-short (x ∷ y ∷ ys) short = absurd (omega arith)

-- numbers of 16 bits are up to 65535
pub all_fit : (xs : List ℕ) → ((i : ℕ) → Fits w16 (get_or xs i 0)) → list_all (λ t. leb t 65535) xs ≡ true
all_fit [] fits = refl
all_fit (x ∷ xs) fits =
    let first : Fits w16 x = fits 0 in
    let here : x ≤ 65535 = omega arith in
    rw (le-leb x 65535 here) (all_fit xs (λ i. fits (suc i)))
