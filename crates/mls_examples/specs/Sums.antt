-- What a rank keeps of one cell, and what is said from it.
use Rattle.std.specs.Prelude.{List, ℕ, [], ◌∷◌, codes}
use Rattle.mls_model.specs.Numbers.{joined}
use Rattle.mls_model.specs.CellSums.{CellSums}

-- two groups, of samples without a sign
abbrev pub two_rows : List (List ℕ)
two_rows = (1 ∷ 3 ∷ 3 ∷ []) ∷ (5 ∷ 1 ∷ 1 ∷ []) ∷ []

abbrev pub two_rows_sums : CellSums
two_rows_sums = record { rows = 2; p1 = 10; p2 = 36; p3 = 154; p4 = 708; least = 1; greatest = 5; above = 2 ∷ 1 ∷ []; products = 6 ∷ 4 ∷ 26 ∷ 10 ∷ 4 ∷ 10 ∷ 8 ∷ 10 ∷ [] }

-- two groups of the values -1, 3, 3 and 5, -1, -1, shifted
abbrev pub signed_rows : List (List ℕ)
signed_rows = (32767 ∷ 32771 ∷ 32771 ∷ []) ∷ (32773 ∷ 32767 ∷ 32767 ∷ []) ∷ []

abbrev pub signed_power : List ℕ
signed_power = joined (codes "power 6 36 150 708\n" ∷ codes "variance 108/12\n" ∷ codes "third 240/64\n" ∷ [])

abbrev pub no_power : List ℕ
no_power = joined (codes "power -\n" ∷ codes "variance -\n" ∷ codes "third -\n" ∷ [])
