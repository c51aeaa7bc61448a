-- The files of two ranks have two names.
use Rattle.std.proofs.Common.{◌≡◌, ◌≢◌, ℕ, ◌<◌, ◌^◌, List, [], ◌∷◌, ◌++◌, codes, decimal}
use Rattle.std.proofs.lemmas.Fmt.{decimal_injective}
use Rattle.mls_export.specs.Files.{file_name}

behind_same : (front xs ys : List ℕ) → front ++ xs ≡ front ++ ys → xs ≡ ys
behind_same [] xs ys same = same
behind_same (x ∷ front) xs ys same = behind_same front xs ys (tail_same x (front ++ xs) (front ++ ys) same)
  where
    tail_same : (z : ℕ) (us vs : List ℕ) → z ∷ us ≡ z ∷ vs → us ≡ vs
    tail_same z us vs e = cc

pub names_differ : (prefix : List ℕ) (a b : ℕ) → a < 2 ^ 64 → b < 2 ^ 64 → a ≢ b → file_name prefix a ≢ file_name prefix b
names_differ prefix a b small_a small_b ne = λ same. ne (decimal_injective a b small_a small_b (behind_same (codes ".") (decimal a) (decimal b) (behind_same prefix (codes "." ++ decimal a) (codes "." ++ decimal b) same)))
