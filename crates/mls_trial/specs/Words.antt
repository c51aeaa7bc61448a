-- The lines of the summary of trial, from the numbers that they print.
use Rattle.std.specs.Prelude.{ℕ, List, [], ◌∷◌, ℤ, codes, decimal}
use Rattle.std.specs.Fmt.{signed_decimal}
use Rattle.mls_model.specs.Numbers.{joined}

-- lanes L events E
unfoldable pub lanes_words : ℕ → ℕ → List ℕ
lanes_words lanes events = joined (codes "lanes " ∷ decimal lanes ∷ codes " events " ∷ decimal events ∷ codes "\n" ∷ [])

-- sum P1 P2
unfoldable pub sum_words : ℤ → ℤ → List ℕ
sum_words p1 p2 = joined (codes "sum " ∷ signed_decimal p1 ∷ codes " " ∷ signed_decimal p2 ∷ codes "\n" ∷ [])

-- the last line
unfoldable pub end_words : List ℕ
end_words = codes "end\n"
