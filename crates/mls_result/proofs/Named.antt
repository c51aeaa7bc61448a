-- What is said of the fields of a study that names them.
use Rattle.std.proofs.Common.{◌≡◌, List, ℕ, true, false, [], ◌∷◌, Option, Some, None, refl, ap, ◌++◌, ◌∙◌}
use Rattle.std.proofs.lemmas.List.{append-nil}
use Rattle.std.specs.Prelude.{codes, decimal, is_some, unwrap_or}
use Rattle.std.specs.Option.{option_and_then}
use Rattle.mls_model.specs.Numbers.{joined, element}
use Rattle.mls_result.specs.Words.{field_start, fields_said}

abbrev pub said : Option (List (List ℕ)) → ℕ → List ℕ
said names fields = elim names [ None ↦ [] | Some all ↦ joined (codes " fields " ∷ decimal fields ∷ []) ]

pub said-some : (names : Option (List (List ℕ))) (fields : ℕ) → is_some names ≡ true → said names fields ≡ fields_said fields
unfolding fields_said
said-some None fields e = let f : false ≡ true = e in cc
said-some (Some all) fields e = refl

pub said-none : (names : Option (List (List ℕ))) (fields : ℕ) → is_some names ≡ false → said names fields ≡ []
said-none None fields e = refl
said-none (Some all) fields e = let f : true ≡ false = e in cc

abbrev pub named : Option (List (List ℕ)) → ℕ → List ℕ
named names field = elim names [ None ↦ [] | Some all ↦ joined (codes " field " ∷ unwrap_or (element all field) [] ∷ []) ]

pub named-none : (names : Option (List (List ℕ))) (field : ℕ) → is_some names ≡ false → named names field ≡ []
named-none None field e = refl
named-none (Some all) field e = let f : true ≡ false = e in cc

pub named-some : (names : Option (List (List ℕ))) (field : ℕ) (name : List ℕ) → option_and_then (λ all. element all field) names ≡ Some name → named names field ≡ field_start ++ name
unfolding field_start
named-some None field name e = cc
named-some (Some all) field name e = ap (λ o. joined (codes " field " ∷ unwrap_or o [] ∷ [])) e ∙ ap (λ t. codes " field " ++ t) (append-nil name)
