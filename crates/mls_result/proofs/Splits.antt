-- Lines of the text, cut where they are written in several calls.
use Rattle.std.proofs.Common.{◌≡◌, List, ℕ, [], ◌∷◌, ◌++◌, ap, Option}
use Rattle.std.specs.Prelude.{codes, decimal, ℤ}
use Rattle.std.specs.Fmt.{signed_decimal}
use Rattle.std.proofs.lemmas.List.Concat.{flat_map-append}
use Rattle.mls_model.specs.Studies.{Study}
use Rattle.mls_result.specs.Words.{sobol_start, indices_said, parts_said, study_start, study_numbers, step_start, cell_words}
use Rattle.mls_model.specs.Numbers.{joined}
use Rattle.mls_model.specs.ResultText.{study_line, fields_words, step_line, field_words, index_words, sobol_words}

-- pieces in two parts
joined-append : (xs ys : List (List ℕ)) → joined (xs ++ ys) ≡ joined xs ++ joined ys
joined-append xs ys = flat_map-append (λ p. p) xs ys

pub study_line-split : (study : Study) → study_line study ≡ study_start study.sizes ++ (fields_words study ++ codes "\n")
unfolding study_line study_numbers
study_line-split study = let s = study.sizes in joined-append (codes "study cells " ∷ decimal s.cells ∷ codes " steps " ∷ decimal s.steps ∷ codes " groups " ∷ decimal s.groups ∷ codes " parameters " ∷ decimal s.parameters ∷ codes " ranks " ∷ decimal s.ranks ∷ codes " clients " ∷ decimal s.clients ∷ []) (fields_words study ∷ codes "\n" ∷ [])

pub step_line-split : (study : Study) (step field x n : ℕ) → step_line study step field x n ≡ step_start step ++ (field_words study field ++ cell_words x n)
unfolding step_line step_start cell_words
step_line-split study step field x n = joined-append (codes "step " ∷ decimal step ∷ []) (field_words study field ∷ codes " cell " ∷ decimal x ∷ codes " groups " ∷ decimal n ∷ codes "\n" ∷ [])

pub sobol_words-split : (name : List ℕ) (first rest : Option ℤ) (cov_b cov_a : ℤ) (var_a var_b var_c : ℕ) → sobol_words name first rest cov_b cov_a var_a var_b var_c ≡ sobol_start ++ (name ++ (indices_said first rest ++ parts_said cov_b cov_a var_a var_b var_c))
unfolding sobol_start indices_said parts_said
sobol_words-split name first rest cov_b cov_a var_a var_b var_c =
    ap (λ t. codes "sobol " ++ (name ++ t)) (joined-append (codes " " ∷ index_words first ∷ codes " " ∷ index_words rest ∷ []) (codes " " ∷ signed_decimal cov_b ∷ codes " " ∷ signed_decimal cov_a ∷ codes " " ∷ decimal var_a ∷ codes " " ∷ decimal var_b ∷ codes " " ∷ decimal var_c ∷ codes "\n" ∷ []))
