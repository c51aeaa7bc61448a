-- As many groups as a study may have, each with the same sample in each row.
use Rattle.std.specs.Prelude.{ℕ, List, [], ◌∷◌, ℤ, replicate, true, codes}
use Rattle.mls_model.specs.declared.studies.Statistic.TheVariants.{Power, Sobol}
use Rattle.mls_model.specs.Numbers.{joined}
use Rattle.mls_model.specs.Studies.{Study}
use Rattle.mls_examples.specs.Small.{one_cell, study_of}

abbrev pub most_groups : Study
most_groups = study_of (one_cell 65535) (Power ∷ Sobol ∷ [])

abbrev pub most_signed_groups : Study
most_signed_groups = study_of (record (one_cell 65535) { signed = true }) (Power ∷ Sobol ∷ [])

abbrev pub equal_rows : ℤ → List (List ℤ)
equal_rows w = replicate 65535 (w ∷ w ∷ w ∷ [])

abbrev pub largest_cell : List ℕ
largest_cell = joined (codes "step 0 cell 0 groups 65535\n" ∷ codes "power 8589672450 562924184010750 36891236399144501250 2417667177417934889418750\n" ∷ codes "variance 0/17179213830\n" ∷ codes "third 0/2251696736043000\n" ∷ codes "sobol x - - 0 0 0 0 0\n" ∷ [])

abbrev pub least_cell : List ℕ
least_cell = joined (codes "step 0 cell 0 groups 65535\n" ∷ codes "power -4294901760 140735340871680 -4611615649683210240 151113421608819433144320\n" ∷ codes "variance 0/17179213830\n" ∷ codes "third 0/2251696736043000\n" ∷ codes "sobol x - - 0 0 0 0 0\n" ∷ [])
