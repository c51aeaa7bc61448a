-- The words of the bins text, from the numbers that they print.
use Rattle.std.specs.Prelude.{ℕ, List, [], ◌∷◌, ◌++◌, take, drop, Option, ℤ, Bool, codes, decimal, flat_map}
use Rattle.std.specs.List.{enumerate_from}
use Rattle.std.specs.Fmt.{signed_decimal}
use Rattle.mls_model.specs.Numbers.{joined}
use Rattle.mls_hist.specs.BinsText.{bin_words, count_words, bracket_words}

-- the end of a line
unfoldable pub line_end : List ℕ
line_end = codes "\n"

-- the first word of a bins line, and the line of no groups
unfoldable pub bins_start : List ℕ
bins_start = codes "bins"

unfoldable pub no_bins : List ℕ
no_bins = codes "bins -\n"

-- I:COUNT
unfoldable pub bin_said : ℕ → ℕ → List ℕ
bin_said bin count = joined (codes " " ∷ decimal bin ∷ codes ":" ∷ decimal count ∷ [])

-- sixteen bins from one on
abbrev pub words_of : ℕ × ℕ → List ℕ
words_of p = bin_words p.0 p.1

abbrev pub part_words : List ℕ → ℕ → List ℕ
part_words counts first = flat_map words_of (take 16 (drop first (enumerate_from 0 counts)))

-- the bins line of some groups
abbrev pub bins_said : List ℕ → List ℕ
bins_said counts = bins_start ++ (count_words counts ++ line_end)

-- the first word of a quartiles line, and the line of no groups
unfoldable pub quartiles_start : List ℕ
quartiles_start = codes "quartiles"

unfoldable pub no_quartiles : List ℕ
no_quartiles = codes "quartiles -\n"

-- A..B
unfoldable pub ends_said : ℤ → ℤ → List ℕ
ends_said least greatest = joined (codes " " ∷ signed_decimal least ∷ codes ".." ∷ signed_decimal greatest ∷ [])

-- the quartiles line of some groups
abbrev pub quartiles_said : Bool → (ℕ → Option ℕ) → List ℕ
quartiles_said signed brackets = quartiles_start ++ (bracket_words signed (brackets 1) ++ (bracket_words signed (brackets 2) ++ (bracket_words signed (brackets 3) ++ line_end)))
