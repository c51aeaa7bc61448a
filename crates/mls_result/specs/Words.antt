-- The lines of the result text, from the numbers that they print.
use Rattle.std.specs.Prelude.{ℕ, ◌*◌, ◌^◌, ◌<◌, ◌≤◌, List, [], ◌∷◌, ◌++◌, ℤ, pos, ◌-ℤ◌, Option, codes, decimal, unsigned_abs}
use Rattle.std.specs.Option.{option_map}
use Rattle.std.specs.Fmt.{signed_decimal}
use Rattle.mls_model.specs.declared.outcomes.Counts.{Counts}
use Rattle.mls_model.specs.Numbers.{joined}
use Rattle.mls_model.specs.Studies.{Sizes}
use Rattle.mls_model.specs.Indices.{rho6}
use Rattle.mls_model.specs.ResultText.{title, index_words, power_words as powers_said, variance_words as variance_said, third_words as third_said, extrema_words as extrema_said}
use Rattle.mls_cov.specs.declared.martinez.IndexParts.{IndexParts}

-- melissa-result 1, and the line's end
unfoldable pub title_words : List ℕ
title_words = title

-- study cells C steps T groups G parameters P ranks R clients K
unfoldable pub study_numbers : ℕ → ℕ → ℕ → ℕ → ℕ → ℕ → List ℕ
study_numbers cells steps groups parameters ranks clients = joined (codes "study cells " ∷ decimal cells ∷ codes " steps " ∷ decimal steps ∷ codes " groups " ∷ decimal groups ∷ codes " parameters " ∷ decimal parameters ∷ codes " ranks " ∷ decimal ranks ∷ codes " clients " ∷ decimal clients ∷ [])

abbrev pub study_start : Sizes → List ℕ
study_start s = study_numbers s.cells s.steps s.groups s.parameters s.ranks s.clients

-- step t
unfoldable pub step_start : ℕ → List ℕ
step_start step = joined (codes "step " ∷ decimal step ∷ [])

-- cell x groups n, and the line's end
unfoldable pub cell_words : ℕ → ℕ → List ℕ
cell_words x n = joined (codes " cell " ∷ decimal x ∷ codes " groups " ∷ decimal n ∷ codes "\n" ∷ [])

-- rank r accepted a kept k replay p stale s repeated q foreign
unfoldable pub counts_start : ℕ → Counts → List ℕ
counts_start r n = joined (codes "rank " ∷ decimal r ∷ codes " accepted " ∷ decimal n.accepted ∷ codes " kept " ∷ decimal n.kept ∷ codes " replay " ∷ decimal n.replay ∷ codes " stale " ∷ decimal n.stale ∷ codes " repeated " ∷ decimal n.repeated ∷ codes " foreign " ∷ [])

-- power P1 P2 P3 P4
unfoldable pub power_words : ℤ → ℤ → ℤ → ℤ → List ℕ
power_words p1 p2 p3 p4 = powers_said p1 p2 p3 p4

-- variance V/D
unfoldable pub variance_words : ℤ → ℕ → List ℕ
variance_words top n = variance_said top n

-- third U/E
unfoldable pub third_words : ℤ → ℕ → List ℕ
third_words top n = third_said top n

-- the number of fields
unfoldable pub fields_said : ℕ → List ℕ
fields_said fields = joined (codes " fields " ∷ decimal fields ∷ [])

-- the word before the name of a field
unfoldable pub field_start : List ℕ
field_start = codes " field "

-- the last line
unfoldable pub end_words : List ℕ
end_words = codes "end\n"

-- extrema LEAST GREATEST
unfoldable pub extrema_words : ℤ → ℤ → List ℕ
extrema_words least greatest = extrema_said least greatest

-- the first word of an exceed line, and a number of it
unfoldable pub exceed_start : List ℕ
exceed_start = codes "exceed"

unfoldable pub number_words : ℕ → List ℕ
number_words n = joined (codes " " ∷ decimal n ∷ [])

-- the first word of a Sobol line
unfoldable pub sobol_start : List ℕ
sobol_start = codes "sobol "

-- FIRST TOTAL of a Sobol line
unfoldable pub indices_said : Option ℤ → Option ℤ → List ℕ
indices_said first total = joined (codes " " ∷ index_words first ∷ codes " " ∷ index_words total ∷ [])

-- cB cA vA vB vC of a Sobol line, and the line's end
unfoldable pub parts_said : ℤ → ℤ → ℕ → ℕ → ℕ → List ℕ
parts_said cov_b cov_a var_a var_b var_c = joined (codes " " ∷ signed_decimal cov_b ∷ codes " " ∷ signed_decimal cov_a ∷ codes " " ∷ decimal var_a ∷ codes " " ∷ decimal var_b ∷ codes " " ∷ decimal var_c ∷ codes "\n" ∷ [])

-- the first and the total index, from the covariances and variances that they are made of
abbrev pub first_of : IndexParts → Option ℤ
first_of parts = rho6 parts.cov_b parts.var_b parts.var_c

abbrev pub total_of : IndexParts → Option ℤ
total_of parts = option_map (λ r. pos 1000000 -ℤ r) (rho6 parts.cov_a parts.var_a parts.var_c)

-- what stands behind a parameter's name
abbrev pub parameter_rest : IndexParts → List ℕ
parameter_rest parts = indices_said (first_of parts) (total_of parts) ++ parts_said parts.cov_b parts.cov_a parts.var_a parts.var_b parts.var_c

-- the line of a parameter with this name
abbrev pub parameter_words : List ℕ → IndexParts → List ℕ
parameter_words name parts = sobol_start ++ (name ++ parameter_rest parts)

-- the covariances and variances that sums of rows give: their squares and products are so, and they are small
pub record AreParts (parts : IndexParts) : Type 0 where
  pub within_b : unsigned_abs parts.cov_b * unsigned_abs parts.cov_b ≤ parts.var_b * parts.var_c
  pub within_a : unsigned_abs parts.cov_a * unsigned_abs parts.cov_a ≤ parts.var_a * parts.var_c
  pub small_a : parts.var_a < 2 ^ 62
  pub small_b : parts.var_b < 2 ^ 62
  pub small_c : parts.var_c < 2 ^ 62
